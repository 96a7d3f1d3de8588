-- What a window by tables needs: the rows and columns of the black level's repeat that it meets, and the tables of their cells.
use Rattle.std.specs.Prelude.{◌≡◌, true, List, [], ℕ, ◌+◌, ◌*◌, ◌%◌, ◌≤◌, ◌<◌, min, Float, length, get_or}
use Rattle.std.specs.Float.{nan}
use Rattle.reading.specs.Reading.{run}
use Rattle.levels.specs.Levels.{Levels}
use Rattle.raw.specs.Stored.{levels_reading}
use Rattle.tables.specs.Tables.{tabled, CellTable}
use Rattle.develop.specs.Facts.View.{Viewed}
use Rattle.develop.specs.declared.View.{View}
use Rattle.develop.specs.declared.fill.Rectangle.{Rectangle}

abbrev pub levels_of : List ℕ → View → Levels
levels_of f v = run f (levels_reading v.picture.order v.picture.raw.tags)

abbrev pub rows_met : View → Rectangle → ℕ
rows_met v w = min v.picture.raw.tags.levels.repeat.rows w.height

abbrev pub columns_met : View → Rectangle → ℕ
columns_met v w = min v.picture.raw.tags.levels.repeat.columns w.width

-- a window inside the active area of an accepted file that has tables
pub record TabledIn (f : List ℕ) (v : View) (w : Rectangle) : Type 0 where
  pub file : Viewed f v
  pub has : tabled v.picture.raw.tags ≡ true
  pub some_rows : 1 ≤ w.height
  pub some_columns : 1 ≤ w.width
  pub rows : w.top + w.height ≤ v.size.rows
  pub columns : w.left + w.width ≤ v.size.columns

-- the tables of so many rows of cells behind the first `from`, row by row
pub record BandTables (f : List ℕ) (v : View) (w : Rectangle) (from count : ℕ) (tables : List (List Float)) : Type 0 where
  pub inside : count * columns_met v w ≤ length tables
  pub holds : (j c : ℕ) → j < count → c < columns_met v w →
      CellTable (levels_of f v) (w.top + from + j) (w.left + c) (get_or tables (j * columns_met v w + c) [])

-- in each of h rows of m numbers whose place among the rows met is below u, they are x
abbrev pub RowsUpto : (ℕ → ℕ → Float) → ℕ → ℕ → ℕ → ℕ → List Float → Type 0
RowsUpto x met h m u xs = (r k : ℕ) → r < h → k < m → r % met < u → get_or xs (r * m + k) nan ≡ x r k
