-- A GainMap's pass over a part of a row.
use Rattle.std.specs.Prelude.{ℕ, ◌+◌, ◌-◌, ◌*◌, ◌/◌, ◌≤◌, ◌<◌, min, true, List, ◌≡◌, Float}
use Rattle.std.specs.Float.{binary64}
use Rattle.std.specs.Float.Ieee.{mul}
use Rattle.levels.specs.Clip.{clip_of}
use Rattle.opcodes.specs.Grid.{every_of}
use Rattle.opcodes.specs.GainMap.{planes_in, gain_map_of}
use Rattle.opcodes.specs.Facts.Bracket.{gain_in}
use Rattle.opcodes.specs.declared.grid.Size.{Size}
use Rattle.opcodes.specs.declared.grid.Grid.{Grid}
use Rattle.opcodes.specs.declared.gain_map.Bracket.{Bracket}
use Rattle.rows.specs.declared.gain_map.Columns.{Columns}
use Rattle.rows.specs.Facts.Sweep.{PlacesIn}

-- the active column at an index of the part
abbrev pub column_at : Columns → ℕ → ℕ
column_at s k = s.left + (s.skip + (k - s.places.first) / s.places.pitch) * s.pitch

-- the columns lie in a part of so many numbers, and in the active area
pub record ColumnsIn (s : Columns) (width len : ℕ) : Type 0 where
  pub places : PlacesIn s.places len
  pub left : s.left < 0x1_0000_0000
  pub pitch : s.pitch < 0x1_0000_0000
  pub skip : s.skip * s.pitch < 0x2_0000_0000
  pub inside : (k : ℕ) → every_of s.places.first s.places.end s.places.pitch k ≡ true → column_at s k < width

-- what x becomes in active column c of `width`, on map plane q, in a row whose bracket is `down`
abbrev pub times_gain : List ℕ → Bracket → ℕ → ℕ → ℕ → Float → Float
times_gain ps down q width c x = clip_of (mul binary64 x (gain_in (gain_map_of ps) down q width c))

-- and on plane p in the grid's j-th column
abbrev pub gain_line : List ℕ → Size → Grid → Bracket → ℕ → ℕ → Float → Float
gain_line ps z g down p j x = times_gain ps down (min (p - g.plane) (planes_in ps - 1)) z.columns (g.left + j * g.column_pitch) x
