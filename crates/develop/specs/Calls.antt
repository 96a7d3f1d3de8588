-- What the tests before 13 leave, and what spot, window and colour window answer, for every string of bytes and every argument.
use Rattle.std.specs.Prelude.{ℕ, ◌+◌, ◌*◌, ◌/◌, ◌%◌, Bool, ◌&&◌, List, [], ◌∷◌, ◌++◌, leb, ltb, eqb, Float, length, Result, Ok, Err}
use Rattle.reading.specs.Reading.{Reading, Reading.answer, and_then, pick, run, run_whole}
use Rattle.directory.specs.Out.{Out, Out.refused, Out.is, bind}
use Rattle.levels.specs.Clip.{plus_zero}
use Rattle.levels.specs.Run.{run_of}
use Rattle.rawtags.specs.Raw.{active_rows, active_columns}
use Rattle.raw.specs.Front.{front_reading}
use Rattle.raw.specs.Stored.{Stored, stored_reading}
use Rattle.raw.specs.Sample.{scaled_sample}
use Rattle.raw.specs.declared.front.Picture.{Picture}
use Rattle.opcodes.specs.Opcode.{Opcode}
use Rattle.opcodes.specs.OpcodeList.{list_reading}
use Rattle.opcodes.specs.Frame.{Frame, framed, standing, through, alone}
use Rattle.opcodes.specs.declared.grid.Size.{Size}
use Rattle.colour.specs.Tags.{colour_reading}
use Rattle.colour.specs.Pixel.{xyz_of}
use Rattle.colour.specs.declared.Colour.{Colour}
use Rattle.colour.specs.declared.pixel.Xyz.{Xyz}
use Rattle.directory.specs.Refusal.{number_of, detail_of}
use Rattle.directory.specs.declared.refusal.Refusal.{Refusal}
use Rattle.rawtags.specs.declared.Tags.{Tags}

-- ---- what the tests before 13 leave

-- the active frame's size
abbrev pub size_of : Picture → Size
size_of p = record { rows = active_rows p.raw.tags.area; columns = active_columns p.raw.tags.area; samples = p.raw.tags.frame.samples }

-- the list of an accepted raw directory
abbrev pub opcodes_of : Picture → Reading (Out (List Opcode))
opcodes_of p = list_reading (size_of p) p.raw.tags.list.place p.raw.tags.list.count

pub record Opened : Type 0 where
  pub picture : Picture
  pub opcodes : List Opcode
  pub stored : Stored

-- "1, 2, the tree, the raw tags, 9, the lists". What every sample needs of the tags is asked for again at the end.
unfoldable pub open_reading : ℕ → Reading (Out Opened)
open_reading len =
    bind (front_reading len) (λ p.
    bind (opcodes_of p) (λ os.
    and_then (stored_reading p.order p.raw.tags) (λ s.
    answer (is (record { picture = p; opcodes = os; stored = s })))))

unfoldable pub opened : List ℕ → Out Opened
opened f = run_whole f open_reading

-- "for colour then 15 and the colour tags"
abbrev pub colour_for : Picture → Reading (Out Colour)
colour_for p = pick (eqb p.raw.tags.frame.samples 3) (colour_reading p.first) (answer (refused 15 0))

-- ---- the developed frame

-- the scaled value at an active row, an active column and a plane
abbrev pub scaled_in : List ℕ → Opened → ℕ → ℕ → ℕ → Float
scaled_in f o r c p = scaled_sample f o.picture.order o.picture.raw.tags o.stored r c p

-- "The frame holds one f64 per active sample, at first its scaled value"; "The numbers after the last correction .. are the
-- developed values"
unfoldable pub frame_of : List ℕ → Opened → Frame
frame_of f o = through o.opcodes (framed (size_of o.picture) (scaled_in f o))

abbrev pub tags_of : Opened → Tags
tags_of o = o.picture.raw.tags

-- frame by frame: what stands in the developed frame
abbrev pub developed_in : List ℕ → Opened → ℕ → ℕ → ℕ → Float
developed_in f o r c p = standing (frame_of f o) r c p

-- sample by sample: the scaled value of one sample, alone, through the whole list
abbrev pub alone_in : List ℕ → Opened → ℕ → ℕ → ℕ → Float
alone_in f o r c p = alone o.opcodes r c p (scaled_in f o r c p)

-- X, Y, Z of a pixel, from its developed values
abbrev pub channel_of : Xyz → ℕ → Float
channel_of v k = pick (eqb k 0) v.x (pick (eqb k 1) v.y v.z)

abbrev pub pixel_in : Colour → Frame → ℕ → ℕ → ℕ → Float
pixel_in m q r c k = channel_of (xyz_of m (standing q r c 0) (standing q r c 1) (standing q r c 2)) k

-- X, Y, Z of a pixel, from samples each alone
abbrev pub pixel_alone : List ℕ → Opened → Colour → ℕ → ℕ → ℕ → Float
pixel_alone f o m r c k = channel_of (xyz_of m (alone_in f o r c 0) (alone_in f o r c 1) (alone_in f o r c 2)) k

-- ---- spot

abbrev pub within : Size → ℕ → ℕ → ℕ → Bool
within z r c p = ltb r z.rows && (ltb c z.columns && ltb p z.samples)

pub record SpotAnswer : Type 0 where
  pub number : ℕ
  pub detail : ℕ
  pub value : Float

-- "a refused spot +0.0"
abbrev pub refused_spot : ℕ → ℕ → SpotAnswer
refused_spot n d = record { number = n; detail = d; value = plus_zero }

-- the answer of a call
abbrev pub spot_with : Result Float Refusal → SpotAnswer
spot_with (Ok x) = record { number = 0; detail = 0; value = x }
spot_with (Err r) = refused_spot (number_of r) (detail_of r)

abbrev pub spot_of : List ℕ → ℕ → ℕ → ℕ → Out Opened → SpotAnswer
spot_of f r c p (refused n d) = refused_spot n d
spot_of f r c p (is o) =
    pick (within (size_of o.picture) r c p) (record { number = 0; detail = 0; value = standing (frame_of f o) r c p }) (refused_spot 13 0)

abbrev pub spot_call : List ℕ → ℕ → ℕ → ℕ → SpotAnswer
spot_call f r c p = spot_of f r c p (opened f)

-- ---- window and colour window

abbrev pub joined : {A : Type 0} → List (List A) → List A
joined [] = []
joined (x ∷ xs) = x ++ joined xs

-- h rows of w columns of n values: "filled row by row, planes together"
abbrev pub values_of : (ℕ → ℕ → ℕ → Float) → ℕ → ℕ → ℕ → ℕ → ℕ → List Float
values_of x t l h w n = joined (run_of (λ (r : ℕ). joined (run_of (λ (c : ℕ). run_of (x r c) 1 0 n) 1 l w)) 1 t h)

-- the k-th value of a slice, filled row by row with w pixels (or blocks) of n values from row t and column l on, is one of this row and
-- this column; among the n it is the value k % n
abbrev pub slot_row : ℕ → ℕ → ℕ → ℕ → ℕ
slot_row t w n k = t + k / n / w

abbrev pub slot_column : ℕ → ℕ → ℕ → ℕ → ℕ
slot_column l w n k = l + k / n % w

-- not empty, and inside the active area
abbrev pub inside : Size → ℕ → ℕ → ℕ → ℕ → Bool
inside z t l h w = leb 1 h && (leb 1 w && (leb (t + h) z.rows && leb (l + w) z.columns))

-- the answer, and the lent slice after the call
pub record Window : Type 0 where
  pub number : ℕ
  pub detail : ℕ
  pub slice : List Float

abbrev pub window_with : Result (Unit {0}) Refusal → List Float → Window
window_with (Ok u) xs = record { number = 0; detail = 0; slice = xs }
window_with (Err r) xs = record { number = number_of r; detail = detail_of r; slice = xs }

-- "a refused window or colour window leaves its slice untouched"
abbrev pub refused_window : ℕ → ℕ → List Float → Window
refused_window n d old = record { number = n; detail = d; slice = old }

-- 13, 14, then the values, n to a pixel
unfoldable pub filled_of : Size → ℕ → ℕ → ℕ → ℕ → ℕ → List Float → (ℕ → ℕ → ℕ → Float) → Window
filled_of z n t l h w old x =
    pick (inside z t l h w)
    (pick (eqb (length old) (h * w * n)) (record { number = 0; detail = 0; slice = values_of x t l h w n }) (refused_window 14 0 old))
    (refused_window 13 0 old)

abbrev pub window_of : List ℕ → ℕ → ℕ → ℕ → ℕ → List Float → Out Opened → Window
window_of f t l h w old (refused n d) = refused_window n d old
window_of f t l h w old (is o) = filled_of (size_of o.picture) (size_of o.picture).samples t l h w old (standing (frame_of f o))

abbrev pub window_call : List ℕ → ℕ → ℕ → ℕ → ℕ → List Float → Window
window_call f t l h w old = window_of f t l h w old (opened f)

abbrev pub coloured_of : List ℕ → ℕ → ℕ → ℕ → ℕ → List Float → Opened → Out Colour → Window
coloured_of f t l h w old o (refused n d) = refused_window n d old
coloured_of f t l h w old o (is m) = filled_of (size_of o.picture) 3 t l h w old (pixel_in m (frame_of f o))

abbrev pub colour_window_of : List ℕ → ℕ → ℕ → ℕ → ℕ → List Float → Out Opened → Window
colour_window_of f t l h w old (refused n d) = refused_window n d old
colour_window_of f t l h w old (is o) = coloured_of f t l h w old o (run f (colour_for o.picture))

abbrev pub colour_window_call : List ℕ → ℕ → ℕ → ℕ → ℕ → List Float → Window
colour_window_call f t l h w old = colour_window_of f t l h w old (opened f)
