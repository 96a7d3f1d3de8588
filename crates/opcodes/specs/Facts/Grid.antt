-- What the functions tell one another.
use Rattle.std.specs.Prelude.{◌+◌, ◌<◌, ◌≤◌}
use Rattle.opcodes.specs.declared.grid.Size.{Size}
use Rattle.opcodes.specs.declared.grid.Grid.{Grid}

-- and as facts
pub record FitsIn (z : Size) (g : Grid) : Type 0 where
  pub some_rows : g.top < g.bottom
  pub rows : g.bottom ≤ z.rows
  pub some_columns : g.left < g.right
  pub columns : g.right ≤ z.columns
  pub some_planes : 1 ≤ g.planes
  pub planes : g.plane + g.planes ≤ z.samples
  pub row_pitch : 1 ≤ g.row_pitch
  pub column_pitch : 1 ≤ g.column_pitch
