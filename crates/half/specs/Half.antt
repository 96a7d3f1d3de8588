-- Half-size colour of a mosaic: the call, and a 2x2 block with its colour.
use Rattle.std.specs.Prelude.{ℕ, ◌+◌, ◌*◌, ◌/◌, ◌%◌, List, eqb, Float}
use Rattle.reading.specs.Reading.{Reading, Reading.answer, pick, run}
use Rattle.directory.specs.Out.{Out, Out.refused, Out.is, bind}
use Rattle.rawtags.specs.Pattern.{pattern_reading}
use Rattle.raw.specs.declared.front.Picture.{Picture}
use Rattle.opcodes.specs.Frame.{standing}
use Rattle.opcodes.specs.declared.grid.Size.{Size}
use Rattle.colour.specs.Tags.{colour_reading}
use Rattle.colour.specs.Pixel.{xyz_of, mean_of}
use Rattle.colour.specs.declared.pixel.Xyz.{Xyz}
use Rattle.half.specs.declared.half_window.Half.{Half}
use Rattle.develop.specs.Calls.{Opened, opened, size_of, frame_of, channel_of, Window, refused_window, filled_of}

-- "15 for LinearRaw"; "on each tag in turn, after the colour tags", of the raw directory
unfoldable pub half_for : Picture → Reading (Out Half)
half_for p =
    pick (eqb p.raw.tags.frame.samples 1)
    (bind (colour_reading p.first) (λ m. bind (pattern_reading p.directory) (λ q. answer (is (record { colour = m; pattern = q })))))
    (answer (refused 15 0))

-- "Each whole 2x2 block from the active corner": so many rows and columns of them, with three values each
abbrev pub blocks_of : Size → Size
blocks_of z = record { rows = z.rows / 2; columns = z.columns / 2; samples = 3 }

-- the number at a place of the block in row i and column j of blocks; a block's four places count row by row
abbrev pub block_at : (ℕ → ℕ → ℕ → Float) → ℕ → ℕ → ℕ → Float
block_at x i j k = x (2 * i + k / 2) (2 * j + k % 2) 0

-- "developed red, (first green + second green in row order) * 0.5, blue. These three then go through the colour step"
abbrev pub block_xyz : Half → (ℕ → ℕ → ℕ → Float) → ℕ → ℕ → Xyz
block_xyz m x i j =
    let p = m.pattern in
    xyz_of m.colour (block_at x i j p.red) (mean_of (block_at x i j p.green1) (block_at x i j p.green2)) (block_at x i j p.blue)

abbrev pub block_in : Half → (ℕ → ℕ → ℕ → Float) → ℕ → ℕ → ℕ → Float
block_in m x i j k = channel_of (block_xyz m x i j) k

abbrev pub halved_of : List ℕ → ℕ → ℕ → ℕ → ℕ → List Float → Opened → Out Half → Window
halved_of f t l h w old o (refused n d) = refused_window n d old
halved_of f t l h w old o (is m) = filled_of (blocks_of (size_of o.picture)) 3 t l h w old (block_in m (standing (frame_of f o)))

abbrev pub half_window_of : List ℕ → ℕ → ℕ → ℕ → ℕ → List Float → Out Opened → Window
half_window_of f t l h w old (refused n d) = refused_window n d old
half_window_of f t l h w old (is o) = halved_of f t l h w old o (run f (half_for o.picture))

abbrev pub half_window_call : List ℕ → ℕ → ℕ → ℕ → ℕ → List Float → Window
half_window_call f t l h w old = half_window_of f t l h w old (opened f)
