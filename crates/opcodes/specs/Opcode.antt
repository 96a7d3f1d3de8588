-- An opcode of the list (document 01: correction), and what it makes of the number at one sample.
use Rattle.std.specs.Prelude.{ℕ, ◌-◌, ◌/◌, List, slice_index_or, Float}
use Rattle.std.specs.Float.{binary64}
use Rattle.std.specs.Float.Ieee.{add, mul}
use Rattle.reading.specs.Reading.{pick}
use Rattle.levels.specs.Clip.{clip_of, plus_zero}
use Rattle.opcodes.specs.Grid.{on_of}
use Rattle.opcodes.specs.Step.{horner_of, mapped_of}
use Rattle.opcodes.specs.GainMap.{GainMap, gain_of}
use Rattle.opcodes.specs.declared.grid.Size.{Size}
use Rattle.opcodes.specs.declared.grid.Grid.{Grid}

pub data Along : Type 0 where
  row column : Along

-- MapTable, MapPolynomial, DeltaPerRow and DeltaPerColumn, ScalePerRow and ScalePerColumn, and GainMap with the active frame's size
pub data OpcodeKind : Type 0 where
  table : List ℕ → OpcodeKind
  polynomial : List Float → OpcodeKind
  delta : Along → List Float → OpcodeKind
  scale : Along → List Float → OpcodeKind
  gain : Size → GainMap → OpcodeKind

-- "a skipped one has no grid"
pub data Opcode : Type 0 where
  skipped : Opcode
  kept : Grid → OpcodeKind → Opcode

-- which of an opcode's values belongs to a row or a column
abbrev pub line_of : Along → Grid → ℕ → ℕ → ℕ
line_of row g r c = (r - g.top) / g.row_pitch
line_of column g r c = (c - g.left) / g.column_pitch

-- the result at a row, a column and a plane, before the clip
abbrev pub kind_result : OpcodeKind → Grid → ℕ → ℕ → ℕ → Float → Float
kind_result (table t) g r c p x = mapped_of t x
kind_result (polynomial cs) g r c p x = horner_of cs x
kind_result (delta a vs) g r c p x = add binary64 x (slice_index_or vs (line_of a g r c) plus_zero)
kind_result (scale a vs) g r c p x = mul binary64 x (slice_index_or vs (line_of a g r c) plus_zero)
kind_result (gain z m) g r c p x = mul binary64 x (gain_of m z r c (p - g.plane))

-- "At every sample of its grid the number x that stands there is replaced by the clipped result"
unfoldable pub act_of : OpcodeKind → Grid → ℕ → ℕ → ℕ → Float → Float
act_of k g r c p x = clip_of (kind_result k g r c p x)

-- "all other numbers stay. A skipped correction changes none"
abbrev pub opcode_at : Opcode → ℕ → ℕ → ℕ → Float → Float
opcode_at skipped r c p x = x
opcode_at (kept g k) r c p x = pick (on_of g r c p) (act_of k g r c p x) x
