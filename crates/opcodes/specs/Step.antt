-- The correction at one sample: "an added number, a factor, up to nine coefficients, a table".
use Rattle.std.specs.Prelude.{ℕ, ◌+◌, true, false, List, [], ◌∷◌, pos, negsuc, slice_index_or, Float, Option, Some, None}
use Rattle.std.specs.Float.{fin, binary32, binary64}
use Rattle.std.specs.Float.Ieee.{add, mul, to_unsigned}
use Rattle.reading.specs.Bytes.{part}
use Rattle.reading.specs.Number.{number_of}
use Rattle.reading.specs.Real.{real_of}
use Rattle.reading.specs.declared.number.Order.TheVariants.{Big}
use Rattle.levels.specs.Clip.{clip_of, plus_zero}
use Rattle.levels.specs.Level.{most, scaled_of}
use Rattle.levels.specs.Run.{run_of}
use Rattle.levels.specs.Table.{table_of, through_of}
use Rattle.opcodes.specs.declared.step.Step.{Step}
use Rattle.opcodes.specs.declared.step.Step.TheVariants.{Add, Scale, Polynomial, Table}
use Rattle.opcodes.specs.Grid.{long_of}

-- 0.5 and -0.0
abbrev pub half : Float
half = fin false 1 (negsuc 0)

abbrev pub minus_zero : Float
minus_zero = fin true 0 (pos 0)

-- of coefficients "constant first: start with the highest; multiply by x, add the next lower"
unfoldable pub horner_of : List Float → Float → Float
horner_of [] x = plus_zero
horner_of (c ∷ []) x = c
horner_of (c ∷ d ∷ cs) x = add binary64 (mul binary64 (horner_of (d ∷ cs) x) x) c

-- x * 65535.0 + 0.5
abbrev pub sum_of : Float → Float
sum_of x = add binary64 (mul binary64 x most) half

-- k, "the greatest whole number <= x * 65535.0 + 0.5"
unfoldable pub index_of : Float → ℕ
index_of x = to_unsigned 64 (sum_of x)

-- "the entry at k, or the last if k is past it, divided by 65535.0"
abbrev pub mapped_of : List ℕ → Float → Float
mapped_of t x = scaled_of (through_of t (index_of x))

-- the table at a place of the file: a LONG, its size, and "that many SHORT"
abbrev pub table_at : List ℕ → ℕ → List ℕ
table_at f at = table_of Big f (at + 4) (long_of f at)

-- the result, before the clip, of a step that was taken from the file
unfoldable pub result_of : Step → List ℕ → Float → Float
result_of (Add d) f x = add binary64 x d
result_of (Scale s) f x = mul binary64 x s
result_of (Polynomial a0 a1 a2 a3 a4 a5 a6 a7 a8) f x = horner_of (a0 ∷ a1 ∷ a2 ∷ a3 ∷ a4 ∷ a5 ∷ a6 ∷ a7 ∷ a8 ∷ []) x
result_of (Table at) f x = mapped_of (table_at f at) x

-- "Each result is clipped"
unfoldable pub applied_of : Step → List ℕ → Float → Float
applied_of step f x = clip_of (result_of step f x)

-- an accepted FLOAT or DOUBLE at a place
abbrev pub value_of : Option Float → Float
value_of None = plus_zero
value_of (Some x) = x

abbrev pub float_in : List ℕ → ℕ → Float
float_in f p = value_of (real_of binary32 (number_of Big (part f p 4)))

abbrev pub double_in : List ℕ → ℕ → Float
double_in f p = value_of (real_of binary64 (number_of Big (part f p 8)))

-- the n DOUBLEs from a place on
abbrev pub coefficients_of : List ℕ → ℕ → ℕ → List Float
coefficients_of f at n = run_of (double_in f) 8 at n

-- the step of up to nine coefficients: -0.0 stands above the highest
unfoldable pub polynomial_of : List Float → Step
polynomial_of cs =
    Polynomial (slice_index_or cs 0 minus_zero) (slice_index_or cs 1 minus_zero) (slice_index_or cs 2 minus_zero)
    (slice_index_or cs 3 minus_zero) (slice_index_or cs 4 minus_zero) (slice_index_or cs 5 minus_zero) (slice_index_or cs 6 minus_zero)
    (slice_index_or cs 7 minus_zero) (slice_index_or cs 8 minus_zero)
