-- "The grid is every pitch-th row from Top, column from Left, on those planes."
use Rattle.std.specs.Prelude.{ℕ, ◌+◌, ◌-◌, ◌/◌, ◌%◌, Bool, ◌&&◌, List, ◌==◌, nat_le, nat_lt}
use Rattle.reading.specs.Bytes.{part}
use Rattle.reading.specs.Number.{number_of}
use Rattle.reading.specs.declared.number.Order.TheVariants.{Big}
use Rattle.opcodes.specs.declared.grid.Size.{Size}
use Rattle.opcodes.specs.declared.grid.Grid.{Grid}

-- a LONG of the list: "OpcodeList2 is big-endian in every file"
abbrev pub long_of : List ℕ → ℕ → ℕ
long_of bs at = number_of Big (part bs at 4)

-- n is one of first, first + pitch, .. below end
abbrev pub every_of : ℕ → ℕ → ℕ → ℕ → Bool
every_of first end pitch n = nat_le first n && (nat_lt n end && (n - first) % pitch == 0)

-- the sample at a row, a column and a plane is on the grid
unfoldable pub on_of : Grid → ℕ → ℕ → ℕ → Bool
on_of g r c p =
    every_of g.top g.bottom g.row_pitch r
    && (every_of g.left g.right g.column_pitch c && (nat_le g.plane p && nat_lt p (g.plane + g.planes)))

-- how many of first, first + pitch, .. are below end: "the grid's rows or columns"
abbrev pub lines_of : ℕ → ℕ → ℕ → ℕ
lines_of first end pitch = (end - first + (pitch - 1)) / pitch

-- "Parameters begin Top, Left, Bottom, Right, Plane, Planes, RowPitch, ColPitch (LONG)."
unfoldable pub grid_of : List ℕ → Grid
grid_of ps =
    record {
      top = long_of ps 0;
      left = long_of ps 4;
      bottom = long_of ps 8;
      right = long_of ps 12;
      plane = long_of ps 16;
      planes = long_of ps 20;
      row_pitch = long_of ps 24;
      column_pitch = long_of ps 28;
    }

abbrev pub inside_of : ℕ → ℕ → ℕ → Bool
inside_of first end most = nat_lt first end && nat_le end most

abbrev pub planes_fit : Size → Grid → Bool
planes_fit z g = nat_le 1 g.planes && (nat_le (g.plane + g.planes) z.samples && (nat_le 1 g.row_pitch && nat_le 1 g.column_pitch))

-- "Top < Bottom <= active rows, Left < Right <= active columns, Planes >= 1, Plane + Planes <= samples, both pitches >= 1"
unfoldable pub fits_of : Size → Grid → Bool
fits_of z g = inside_of g.top g.bottom z.rows && (inside_of g.left g.right z.columns && planes_fit z g)
