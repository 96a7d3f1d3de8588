-- The whole frame through the list, and each sample alone, come to the same.
-- Assumes nothing.
use Rattle.std.proofs.Common.{◌≡◌, ℕ, zero, suc, ◌+◌, ◌*◌, ◌<◌, Bool, true, false, List, [], ◌∷◌, get_or, sym, refl, ap, ◌∙◌, one-mul, zero-add, arith}
use mathlib.Core.Path.{fun_ext}
use lib.Ieee.{Float}
use Rattle.reading.specs.Reading.{pick}
use Rattle.reading.proofs.Reading.{pick_no}
use Rattle.levels.specs.Clip.{plus_zero}
use Rattle.levels.specs.Run.{run_of}
use Rattle.levels.proofs.Runs.{run_at, run_same}
use Rattle.levels.proofs.Unit.{unit, clip_clip}
use Rattle.opcodes.specs.Grid.{on_of}
use Rattle.opcodes.specs.Opcode.{Opcode, skipped, kept, kind_result, act_of, opcode_at}
use Rattle.opcodes.specs.Frame.{Frame, framed, standing, each, over, through, alone, touches, Untouched, Apart}
use Rattle.opcodes.specs.declared.grid.Size.{Size}

module _ {A : Type 0} where
  each_run : (f : ℕ → A → A) (g : ℕ → A) (i n : ℕ) → each f i (run_of g 1 i n) ≡ run_of (λ (j : ℕ). f j (g j)) 1 i n
  unfolding run_of
  each_run f g i zero = refl
  each_run f g i (suc n) = ap {B = List A} (λ r. f i (g i) ∷ r) (each_run f g (i + 1) n)

  at_run : (g : ℕ → A) (d : A) (n k : ℕ) → k < n → get_or (run_of g 1 0 n) k d ≡ g k
  at_run g d n k h = run_at g 1 0 n k d h ∙ ap g (zero-add (1 * k) ∙ one-mul k)

-- the frame's numbers
pub standing_framed : (z : Size) (x : ℕ → ℕ → ℕ → Float) (r c p : ℕ) → r < z.rows → c < z.columns → p < z.samples →
    standing (framed z x) r c p ≡ x r c p
unfolding standing framed
standing_framed z x r c p hr hc hp =
    ap (λ (rs : List (List Float)). get_or (get_or rs c []) p plus_zero) (at_run _ [] z.rows r hr)
    ∙ ap (λ (rs : List Float). get_or rs p plus_zero) (at_run _ [] z.columns c hc)
    ∙ at_run _ plus_zero z.samples p hp

-- two frames with the same numbers
pub framed_same :
    (z : Size) (x y : ℕ → ℕ → ℕ → Float) → ((r c p : ℕ) → r < z.rows → c < z.columns → p < z.samples → x r c p ≡ y r c p) →
    framed z x ≡ framed z y
unfolding framed
framed_same z x y h =
    run_same _ _ 1 1 0 0 z.rows (λ i hi.
    run_same _ _ 1 1 0 0 z.columns (λ j hj.
    run_same _ _ 1 1 0 0 z.samples (λ k hk. h (0 + 1 * i) (0 + 1 * j) (0 + 1 * k) (omega arith) (omega arith) (omega arith))))

-- one opcode over a frame is that opcode at each sample
over_framed : (o : Opcode) (z : Size) (x : ℕ → ℕ → ℕ → Float) → over o (framed z x) ≡ framed z (λ r c p. opcode_at o r c p (x r c p))
unfolding over framed
over_framed o z x =
    each_run _ _ 0 z.rows
    ∙ ap (λ (g : ℕ → List (List Float)). run_of g 1 0 z.rows)
    (fun_ext (λ (r : ℕ).
    each_run _ _ 0 z.columns
    ∙ ap (λ (g : ℕ → List Float). run_of g 1 0 z.columns) (fun_ext (λ (c : ℕ). each_run _ _ 0 z.samples))))

-- the frame through the whole list is the frame of the samples worked out alone
pub through_framed : (os : List Opcode) (z : Size) (x : ℕ → ℕ → ℕ → Float) →
    through os (framed z x) ≡ framed z (λ r c p. alone os r c p (x r c p))
unfolding through alone
through_framed [] z x = refl
through_framed (o ∷ os) z x = ap (through os) (over_framed o z x) ∙ through_framed os z (λ r c p. opcode_at o r c p (x r c p))

pub sample_by_sample :
    (os : List Opcode) (z : Size) (x : ℕ → ℕ → ℕ → Float) (r c p : ℕ) → r < z.rows → c < z.columns → p < z.samples →
    standing (through os (framed z x)) r c p ≡ alone os r c p (x r c p)
sample_by_sample os z x r c p hr hc hp =
    ap (λ (f : Frame). standing f r c p) (through_framed os z x) ∙ standing_framed z (λ r c p. alone os r c p (x r c p)) r c p hr hc hp

-- ---- a sample on no grid keeps its number
pub at_off : (o : Opcode) (r c p : ℕ) (x : Float) → touches o r c p ≡ false → opcode_at o r c p x ≡ x
at_off skipped r c p x h = refl
at_off (kept g k) r c p x h = simp (h, pick_no)

pub untouched : (os : List Opcode) (r c p : ℕ) (x : Float) → Untouched os r c p → alone os r c p x ≡ x
unfolding alone
untouched [] r c p x h = refl
untouched (o ∷ os) r c p x h = ap (alone os r c p) (at_off o r c p x h.0) ∙ untouched os r c p x h.1

-- ---- disjoint grids
pub swap_at_law : (a b : Opcode) (r c p : ℕ) (x : Float) → Apart a b →
    opcode_at a r c p (opcode_at b r c p x) ≡ opcode_at b r c p (opcode_at a r c p x)
swap_at_law a b r c p x h = go (touches a r c p) refl
  where
    go : (t : Bool) → touches a r c p ≡ t → opcode_at a r c p (opcode_at b r c p x) ≡ opcode_at b r c p (opcode_at a r c p x)
    go true e = ap (opcode_at a r c p) (at_off b r c p x (h r c p e)) ∙ sym (at_off b r c p (opcode_at a r c p x) (h r c p e))
    go false e = at_off a r c p (opcode_at b r c p x) e ∙ ap (opcode_at b r c p) (sym (at_off a r c p x e))

-- ---- from 0 to 1, and no NaN
pub at_unit : (o : Opcode) (r c p : ℕ) (x : Float) → unit x → unit (opcode_at o r c p x)
unfolding act_of pick
at_unit skipped r c p x u = u
at_unit (kept g k) r c p x u = go (on_of g r c p)
  where
    go : (t : Bool) → unit (pick t (act_of k g r c p x) x)
    go true = clip_clip (kind_result k g r c p x)
    go false = u

pub alone_unit : (os : List Opcode) (r c p : ℕ) (x : Float) → unit x → unit (alone os r c p x)
unfolding alone
alone_unit [] r c p x u = u
alone_unit (o ∷ os) r c p x u = alone_unit os r c p (opcode_at o r c p x) (at_unit o r c p x u)
