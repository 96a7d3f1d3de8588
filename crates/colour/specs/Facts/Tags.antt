-- What holds of an accepted value.
use Rattle.std.specs.Prelude.{false, Result, Ok, Err}
use Rattle.colour.specs.Facts.Bounds.{Within, Beyond, All}
use Rattle.colour.specs.Facts.Value.{TripleFrom}
use Rattle.colour.specs.declared.Colour.{Colour}
use Rattle.colour.specs.declared.tags.Matrix.{Matrix}
use Rattle.directory.specs.declared.refusal.Refusal.{Refusal}

pub record MatrixWithin (m : Matrix) : Type 0 where
  pub x : TripleFrom false m.x
  pub y : TripleFrom false m.y
  pub z : TripleFrom false m.z

abbrev pub MatrixIn : Result Matrix Refusal → Type 0
MatrixIn (Err e) = Unit {0}
MatrixIn (Ok m) = MatrixWithin m

-- a number of the matrix is at most 2 ^ 32 in magnitude, one of the neutral at least 1 / 2 ^ 32
pub record ColourWithin (c : Colour) : Type 0 where
  pub x : All (Within 0x1_0000_0000) c.x0 c.x1 c.x2
  pub y : All (Within 0x1_0000_0000) c.y0 c.y1 c.y2
  pub z : All (Within 0x1_0000_0000) c.z0 c.z1 c.z2
  pub neutral : All (Beyond 0x1_0000_0000) c.neutral0 c.neutral1 c.neutral2

abbrev pub ColourIn : Result Colour Refusal → Type 0
ColourIn (Err e) = Unit {0}
ColourIn (Ok c) = ColourWithin c
