-- What the rows of a window share along a part of a row: the black level's cells, the reciprocals of S, the columns' deltas.
use Rattle.std.specs.Prelude.{◌≡◌, ℕ, ◌+◌, ◌*◌, ◌/◌, ◌%◌, ◌≤◌, ◌<◌, List, ℤ, pos, Float, length, get_or}
use Rattle.std.specs.Float.{nan}
use Rattle.levels.specs.Facts.Black.{Small}
use Rattle.levels.specs.Levels.{Levels, cell_for, span_of}
use Rattle.levels.specs.Facts.Reciprocal.{of_parts, inverse_of}

-- the numbers of a row stand column by column, n samples to a column; of the k-th from column l on: its cell in row r
abbrev pub cell_along : Levels → ℕ → ℕ → ℕ → ℕ → ℤ
cell_along v n r l k = cell_for v r (l + k / n) (k % n)

-- its column's delta
abbrev pub delta_along : Levels → ℕ → ℕ → ℕ → ℤ
delta_along v n l k = get_or v.column_deltas (l + k / n) (pos 0)

-- S of its plane
abbrev pub span_along : Levels → ℕ → ℕ → ℤ
span_along v n k = span_of v (k % n)

-- a row of numbers for each row of the repeat, its cells, and one more, the reciprocals; how many a row has
abbrev pub piece_of : Levels → List Float → ℕ
piece_of v along = length along / (v.repeat_rows + 1)

-- they come again where a part of a row has more
pub record AlongIn (v : Levels) (n l len : ℕ) (along : List Float) : Type 0 where
  pub size : length along ≡ (v.repeat_rows + 1) * piece_of v along
  pub some : 1 ≤ piece_of v along
  pub few : piece_of v along ≤ 512
  pub cells : (r k : ℕ) → r < v.repeat_rows → k < piece_of v along → get_or along (r * piece_of v along + k) nan ≡ of_parts (cell_along v n r l k)
  pub inverses : (k : ℕ) → k < piece_of v along → get_or along (v.repeat_rows * piece_of v along + k) nan ≡ inverse_of (span_along v n k)
  pub again : piece_of v along < len → piece_of v along % (v.repeat_columns * n) ≡ 0

-- the columns' deltas; none where the tag is absent
pub record DeltasIn (v : Levels) (n l len : ℕ) (deltas : List ℤ) : Type 0 where
  pub same : (k : ℕ) → k < len → get_or deltas k (pos 0) ≡ delta_along v n l k
  pub small : Small deltas
  pub long : 0 < length deltas → len ≤ length deltas
