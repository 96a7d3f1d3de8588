-- The step of an opcode at the i-th row and the j-th column of its grid, from its parameters at a place of the file.
use Rattle.std.specs.Prelude.{◌≡◌, ℕ, ◌+◌, ◌*◌, ◌≤◌, Bool, false, ◌&&◌, ◌||◌, ◌⊎◌, List, length, ◌==◌, nat_le, Float}
use Rattle.std.specs.Float.{binary32}
use Rattle.reading.specs.Bytes.{part}
use Rattle.reading.specs.Number.{number_of}
use Rattle.reading.specs.Reading.{pick}
use Rattle.reading.specs.Real.{refused_pattern}
use Rattle.reading.specs.declared.number.Order.TheVariants.{Big}
use Rattle.opcodes.specs.Grid.{long_of}
use Rattle.opcodes.specs.Step.{float_in, coefficients_of, polynomial_of}
use Rattle.opcodes.specs.declared.step.Step.{Step}
use Rattle.opcodes.specs.declared.step.Step.TheVariants.{Add, Scale, Table}

-- the ids of all opcodes but GainMap, whose step depends on the frame
abbrev pub plain_id : ℕ → Bool
plain_id n = n == 7 || (n == 8 || (nat_le 10 n && nat_le n 13))

-- the k-th of the FLOATs behind the LONG
abbrev pub float_at : List ℕ → ℕ → ℕ → Float
float_at f at k = float_in f (at + 36 + 4 * k)

unfoldable pub step_of : List ℕ → ℕ → ℕ → ℕ → ℕ → Step
step_of f at id i j =
    pick (id == 7) (Table (at + 32))
    (pick (id == 8) (polynomial_of (coefficients_of f (at + 36) (long_of f (at + 32) + 1)))
    (pick (id == 10) (Add (float_at f at i))
    (pick (id == 11) (Add (float_at f at j)) (pick (id == 12) (Scale (float_at f at i)) (Scale (float_at f at j))))))

-- it lies in the file and was accepted
pub record FloatIn (f : List ℕ) (at k : ℕ) : Type 0 where
  pub inside : at + 36 + 4 * k + 4 ≤ length f
  pub accepted : refused_pattern binary32 (number_of Big (part f (at + 36 + 4 * k) 4)) ≡ false

-- what the step reads lies in the file
pub record StepAtIn (f : List ℕ) (at id i j : ℕ) : Type 0 where
  pub inside : at + 36 ≤ length f
  pub coefficients : id ≡ 8 → at + 36 + 8 * (long_of f (at + 32) + 1) ≤ length f
  pub rows : (id ≡ 10) ⊎ (id ≡ 12) → at + 36 + 4 * i + 4 ≤ length f
  pub columns : (id ≡ 11) ⊎ (id ≡ 13) → at + 36 + 4 * j + 4 ≤ length f
