-- What the listing program prints of a file (document 01, example 11, and document 02, T-03), as ASCII.
use Rattle.std.specs.Prelude.{ℕ, cond, List, [], ◌∷◌, ◌++◌, map, leb, eqb, Float, length, take, drop}
use Rattle.std.specs.Float.{binary64}
use Rattle.std.specs.Float.Ieee.{to_bits}
use Rattle.io.specs.Digits.{last_digits}
use Rattle.reading.specs.Reading.{pick}
use Rattle.directory.specs.Out.{Out, Out.refused, Out.is}
use Rattle.opcodes.specs.Frame.{Frame}
use Rattle.opcodes.specs.declared.grid.Size.{Size}
use Rattle.rawtags.specs.declared.crop.Crop.{Crop}
use Rattle.raw.specs.declared.front.Picture.{Picture}
use Rattle.develop.specs.Calls.{Opened, opened, tags_of, frame_of, joined}

-- ---- words
-- `refused`
abbrev pub refused_word : List ℕ
refused_word = 114 ∷ 101 ∷ 102 ∷ 117 ∷ 115 ∷ 101 ∷ 100 ∷ []

-- `frame`
abbrev pub frame_word : List ℕ
frame_word = 102 ∷ 114 ∷ 97 ∷ 109 ∷ 101 ∷ []

-- digits without the zeros in front; the last one stays
abbrev pub unpadded : List ℕ → List ℕ
unpadded [] = []
unpadded (d ∷ []) = d ∷ []
unpadded (d ∷ e ∷ ds) = cond (eqb d 48) (unpadded (e ∷ ds)) (d ∷ e ∷ ds)

-- in decimal: 20 digits hold every 64-bit number
unfoldable pub decimal_of : ℕ → List ℕ
decimal_of n = unpadded (last_digits 10 20 n)

-- "each f64 as 16 hex digits"
unfoldable pub value_text : Float → List ℕ
value_text x = last_digits 16 16 (to_bits binary64 x)

-- ---- lines
-- a space before each further word, and a newline
abbrev pub end_text : List (List ℕ) → List ℕ
end_text [] = 10 ∷ []
end_text (w ∷ ws) = (32 ∷ w) ++ end_text ws

-- "single spaces"
abbrev pub line_text : List (List ℕ) → List ℕ
line_text [] = 10 ∷ []
line_text (w ∷ ws) = w ++ end_text ws

abbrev pub values_text : List Float → List ℕ
values_text xs = line_text (map value_text xs)

-- "a line per row"
abbrev pub rows_text : Frame → List ℕ
rows_text [] = []
rows_text (row ∷ rows) = values_text (joined row) ++ rows_text rows

-- "`refused number detail`"
abbrev pub refused_text : ℕ → ℕ → List ℕ
refused_text n d = line_text (refused_word ∷ decimal_of n ∷ decimal_of d ∷ [])

-- "`frame rows columns samples`"
abbrev pub frame_text : Size → List ℕ
frame_text z = line_text (frame_word ∷ decimal_of z.rows ∷ decimal_of z.columns ∷ decimal_of z.samples ∷ [])

-- ---- the crop
-- "`frame` shows the crop's rows and columns"
abbrev pub crop_size : Picture → Size
crop_size p = record { rows = p.raw.tags.crop.rows; columns = p.raw.tags.crop.columns; samples = p.raw.tags.frame.samples }

-- the crop's rows of a frame, each with the crop's columns
abbrev pub cropped_frame : Crop → Frame → Frame
cropped_frame c q = map (λ (row : List (List Float)). take c.columns (drop c.left row)) (take c.rows (drop c.top q))

-- ---- the whole
-- "over 65,536 bytes counts as refusal 1"
unfoldable pub listed_of : List ℕ → Out Opened
listed_of f = pick (leb (length f) 65536) (opened f) (refused 1 0)

abbrev pub head_text : Out Opened → List ℕ
head_text (refused n d) = refused_text n d
head_text (is o) = frame_text (crop_size o.picture)

-- the lines of the crop's rows from its row t on
abbrev pub body_text : List ℕ → ℕ → Out Opened → List ℕ
body_text f t (refused n d) = []
body_text f t (is o) = rows_text (drop t (cropped_frame (tags_of o).crop (frame_of f o)))

abbrev pub listing_of : List ℕ → List ℕ
listing_of f = head_text (listed_of f) ++ body_text f 0 (listed_of f)
