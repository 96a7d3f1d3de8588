-- What the functions that find M say to each other (levels, Residues).
use Rattle.std.specs.Prelude.{◌≡◌, List, ℕ, ◌+◌, ◌*◌, ◌≤◌, ◌<◌, length}
use Rattle.directory.specs.declared.tag.Values.{Values}
use Rattle.levels.specs.Levels.{Levels}
use Rattle.levels.specs.Facts.Residues.{ByResidue}
use Rattle.raw.specs.declared.greatest.GreatestDeltas.{GreatestDeltas}

-- the deltas of n rows or columns, or of none, lie in the file
pub record DeltasOf (f : List ℕ) (n : ℕ) (v : Values) : Type 0 where
  pub inside : v.place + v.size * v.count ≤ length f
  pub sized : 0 < v.count → v.size ≡ 8
  pub count : 0 < v.count → v.count ≡ n

-- the greatest deltas of the columns and of the rows, by residue
pub record GreatestIn (l : Levels) (m : GreatestDeltas) : Type 0 where
  pub by_columns : ByResidue l.column_deltas l.columns l.repeat_columns m.columns
  pub by_rows : ByResidue l.row_deltas l.rows l.repeat_rows m.rows
