-- The scaled values of a part of a row.
use Rattle.std.specs.Prelude.{◌≡◌, ℕ, ◌+◌, ◌*◌, ◌/◌, ◌%◌, ◌≤◌, ◌<◌, List, ℤ, pos, nat_abs, Float, length, get_or}
use Rattle.std.specs.Float.{nan, binary64}
use Rattle.std.specs.Float.Ieee.{add}
use Rattle.reading.specs.Bytes.{part}
use Rattle.reading.specs.Number.{number_of}
use Rattle.reading.specs.declared.number.Order.{Order}
use Rattle.levels.specs.Level.{difference_of, level_of, scaled_of}
use Rattle.levels.specs.Facts.Reciprocal.{of_parts, BlackIs, InverseIs}
use Rattle.levels.specs.Table.{table_of, through_of}
use Rattle.reading.specs.Reading.{run}
use Rattle.rawtags.specs.Raw.{active_columns}
use Rattle.raw.specs.Stored.{numbers_reading, levels_reading, stored_reading}
use Rattle.raw.specs.Sample
use Rattle.rawtags.specs.declared.Tags.{Tags}
use Rattle.opcodes.specs.Frame.{each}
use Rattle.samples.specs.declared.line.Line.{Line}
use Rattle.levels.specs.Facts.Black.{most_black}

-- the first n of a list are g 0, g 1 ..
abbrev pub Filled : {A : Type 0} → A → (ℕ → A) → ℕ → List A → Type 0
Filled d g n xs = (k : ℕ) → k < n → get_or xs k d ≡ g k

-- ---- a line: samples that stand one behind the other

-- the k-th sample's number, through the table
abbrev pub number_at : List ℕ → Line → ℕ → ℕ
number_at f l k = through_of (table_of l.order f l.table l.count) (number_of l.order (part f (l.place + l.bytes * k) l.bytes))

-- its scaled value, from B and S of each sample
unfoldable pub line_value : List ℕ → Line → (ℕ → ℤ) → (ℕ → ℤ) → ℕ → Float
line_value f l black span k = scaled_of (level_of (difference_of (number_at f l k) (black k)) (span k))

-- n samples and the table lie in the file
pub record LineIn (f : List ℕ) (l : Line) (n : ℕ) : Type 0 where
  pub inside : (k : ℕ) → k < n → l.place + l.bytes * k + l.bytes ≤ length f
  pub some : 1 ≤ l.bytes
  pub few : l.bytes ≤ 2
  pub table : l.table + 2 * l.count ≤ length f

-- the numbers along a line: what is left of B beside the row's delta, and the reciprocal of S
pub record Levelled (black span : ℕ → ℤ) (blacks inverses : List Float) (down : Float) (n : ℕ) : Type 0 where
  pub black_is : (k : ℕ) → k < n → BlackIs (black k) (add binary64 (get_or blacks k nan) down)
  pub inverse_is : (k : ℕ) → k < n → InverseIs (span k) (get_or inverses k nan)

-- a cell, or a delta, as f64
pub record PartIs (z : ℤ) (x : Float) : Type 0 where
  pub small : nat_abs z ≤ most_black
  pub number : x ≡ of_parts z

-- cells, S and the row's delta, as f64
pub record Celled (cell span : ℕ → ℤ) (down : ℤ) (cells inverses : List Float) (d : Float) (n : ℕ) : Type 0 where
  pub cell_is : (k : ℕ) → k < n → PartIs (cell k) (get_or cells k nan)
  pub inverse_is : (k : ℕ) → k < n → InverseIs (span k) (get_or inverses k nan)
  pub down_is : PartIs down d

-- cells and S come again after n samples, unless the line is no longer than that
pub record Repeating (cell span : ℕ → ℤ) (n len : ℕ) : Type 0 where
  pub cell_again : n < len → (k : ℕ) → cell (n + k) ≡ cell k
  pub span_again : n < len → (k : ℕ) → span (n + k) ≡ span k

-- ---- the part of a row of so many numbers from column l on lies in the active area
abbrev pub WideIn : Tags → ℕ → ℕ → Type 0
WideIn t l len = (k : ℕ) → k < len → l + k / t.frame.samples < active_columns t.area

-- the scaled value at an active row, an active column and a plane
abbrev pub scaled_from : List ℕ → Order → Tags → ℕ → ℕ → ℕ → Float
scaled_from f o t r c p = Sample.scaled_sample f o t (run f (stored_reading o t)) r c p

-- the scaled values of the part of row r from column l on
unfoldable pub scaled_part : List ℕ → Order → Tags → ℕ → ℕ → List Float → List Float
scaled_part f o t r l xs = each (λ (k : ℕ) (x : Float). scaled_from f o t r (l + k / t.frame.samples) (k % t.frame.samples)) 0 xs

-- the line of a row's samples from column l on, the row's delta with it
pub record LineOf (f : List ℕ) (o : Order) (t : Tags) (r l : ℕ) (x : Line) : Type 0 where
  pub order : x.order ≡ o
  pub bytes : x.bytes ≡ t.layout.bytes
  pub place : x.place ≡ Sample.place_of t (run f (numbers_reading o t.strips)) (t.area.top + r) (t.area.left + l) 0
  pub table : x.table ≡ t.levels.table.place
  pub count : x.count ≡ t.levels.table.count
  pub down : PartIs (get_or (run f (levels_reading o t)).row_deltas r (pos 0)) x.down
