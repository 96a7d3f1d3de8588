-- "Corrections act on the whole active frame, one after another in list order"; and a sample worked out alone.
use Rattle.std.specs.Prelude.{◌≡◌, ℕ, ◌+◌, Bool, true, false, List, [], ◌∷◌, slice_index_or, Float}
use Rattle.levels.specs.Clip.{plus_zero}
use Rattle.levels.specs.Run.{run_of}
use Rattle.opcodes.specs.Grid.{on_of}
use Rattle.opcodes.specs.Opcode.{Opcode, skipped, kept, opcode_at}
use Rattle.opcodes.specs.declared.grid.Size.{Size}

-- "The frame holds one f64 per active sample": rows of columns of planes
abbrev pub Frame : Type 0
Frame = List (List (List Float))

-- the frame of a size whose numbers a function gives
unfoldable pub framed : Size → (ℕ → ℕ → ℕ → Float) → Frame
framed z x = run_of (λ (r : ℕ). run_of (λ (c : ℕ). run_of (λ (p : ℕ). x r c p) 1 0 z.samples) 1 0 z.columns) 1 0 z.rows

-- the number that stands at a row, a column and a plane
unfoldable pub standing : Frame → ℕ → ℕ → ℕ → Float
standing f r c p = slice_index_or (slice_index_or (slice_index_or f r []) c []) p plus_zero

-- a function of its place at every element, the first at place i
abbrev pub each : {A : Type 0} → (ℕ → A → A) → ℕ → List A → List A
each f i [] = []
each f i (x ∷ xs) = f i x ∷ each f (i + 1) xs

-- one opcode over the whole frame
unfoldable pub over : Opcode → Frame → Frame
over o f =
    each (λ (r : ℕ) (cs : List (List Float)). each (λ (c : ℕ) (ps : List Float). each (λ (p : ℕ) (x : Float). opcode_at o r c p x) 0 ps) 0 cs) 0 f

-- "Each correction gets the frame as the one before left it"
unfoldable pub through : List Opcode → Frame → Frame
through [] f = f
through (o ∷ os) f = through os (over o f)

-- a sample alone: its number through the list
unfoldable pub alone : List Opcode → ℕ → ℕ → ℕ → Float → Float
alone [] r c p x = x
alone (o ∷ os) r c p x = alone os r c p (opcode_at o r c p x)

-- the sample is on the opcode's grid
abbrev pub touches : Opcode → ℕ → ℕ → ℕ → Bool
touches skipped r c p = false
touches (kept g k) r c p = on_of g r c p

-- the sample is on no grid
abbrev pub Untouched : List Opcode → ℕ → ℕ → ℕ → Type 0
Untouched [] r c p = Unit {0}
Untouched (o ∷ os) r c p = (touches o r c p ≡ false) × Untouched os r c p

-- disjoint grids
abbrev pub Apart : Opcode → Opcode → Type 0
Apart a b = (r c p : ℕ) → touches a r c p ≡ true → touches b r c p ≡ false
