-- What the blocks of a half window need.
use Rattle.std.specs.Prelude.{◌≡◌, List, ℕ, ◌+◌, ◌*◌, ◌/◌, ◌≤◌, Float, length, get_or}
use Rattle.std.specs.Float.{nan}
use Rattle.levels.specs.Run.{run_of}
use Rattle.develop.specs.Calls.{inside, joined}
use Rattle.develop.specs.Facts.View.{Viewed}
use Rattle.develop.specs.declared.View.{View}
use Rattle.develop.specs.declared.fill.Rectangle.{Rectangle}
use Rattle.half.specs.declared.half_window.Half.{Half}
use Rattle.half.specs.declared.half_window.Stretch.{Stretch}

-- blocks inside the active area of an accepted mosaic, and a slice of their length
pub record BlocksIn (f : List ℕ) (v : View) (b : Rectangle) (old : List Float) : Type 0 where
  pub file : Viewed f v
  pub mosaic : v.size.samples ≡ 1
  pub rows : b.top + b.height ≤ v.size.rows / 2
  pub columns : b.left + b.width ≤ v.size.columns / 2
  pub length_is : length old ≡ b.height * (b.width * 3)

-- some blocks of each of its rows, no more than have room for their samples
pub record StretchIn (s : Stretch) (b : Rectangle) : Type 0 where
  pub some : 1 ≤ s.count
  pub few : s.count ≤ 512
  pub inside : s.from + s.count ≤ b.width

-- two rows of w numbers each, one behind the other
unfoldable pub pair_of : List Float → ℕ → ℕ → ℕ → ℕ → Float
pair_of xs w r c p = get_or xs (r * w + c) nan

-- the three values of each of w blocks of row r, from column l on
abbrev pub block_row : (ℕ → ℕ → ℕ → Float) → ℕ → ℕ → ℕ → List Float
block_row x l w r = joined (run_of (λ (c : ℕ). run_of (x r c) 1 0 3) 1 l w)
