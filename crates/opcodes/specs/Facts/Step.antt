-- What the functions tell one another.
use Rattle.std.specs.Prelude.{ℕ, ◌+◌, ◌*◌, ◌≤◌, List, length}
use Rattle.opcodes.specs.declared.step.Step.{Step}
use Rattle.opcodes.specs.declared.step.Step.TheVariants.{Add, Scale, Polynomial, Table}
use Rattle.opcodes.specs.Grid.{long_of}

-- "size 1 to 65,536", in the file
pub record TableIn (f : List ℕ) (at : ℕ) : Type 0 where
  pub some : 1 ≤ long_of f at
  pub most : long_of f at ≤ 65536
  pub inside : at + 4 + 2 * long_of f at ≤ length f

abbrev pub StepIn : List ℕ → Step → Type 0
StepIn f (Add d) = Unit {0}
StepIn f (Scale s) = Unit {0}
StepIn f (Polynomial a0 a1 a2 a3 a4 a5 a6 a7 a8) = Unit {0}
StepIn f (Table at) = TableIn f at
