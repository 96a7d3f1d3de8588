-- A MapTable's index in the bits of x * 65535.0 + 0.5 (T-04).
use Rattle.std.specs.Prelude.{ℕ, ◌+◌, ◌-◌, ◌/◌, ◌^◌, false, T, pos, negsuc, nat_lt, to_bits, Float}
use Rattle.std.specs.Float.{fin, binary64}
use Rattle.std.specs.Float.Ieee.{fits, lt, le}
use Rattle.reading.specs.Reading.{pick}
use Rattle.reading.specs.Real.{exponent_field, fraction_field}
use Rattle.opcodes.specs.Step.{half}

-- 65535.5, which is 131071 * 2^-1
abbrev pub greatest_sum : Float
greatest_sum = fin false 131071 (negsuc 0)

-- "every f64 from 0.5 to 65535.5"
pub record IndexRange (v : Float) : Type 0 where
  pub held : T (fits binary64 v)
  pub from : T (le half v)
  pub to : T (le v greatest_sum)

-- "the whole part of (2^52 + F) / 2^(1075 - e)"
abbrev pub shifted_of : ℕ → ℕ → ℕ
shifted_of e F = (2 ^ 52 + F) / 2 ^ (1075 - e)

-- "take it from the exponent field e and the fraction field F of the f64": "k is 0 where e is under 1023, else .."
unfoldable pub index_from_bits : Float → ℕ
index_from_bits v =
    let bits = to_bits binary64 v in
    let e = exponent_field binary64 bits in
    pick (nat_lt e 1023) 0 (shifted_of e (fraction_field binary64 bits))

-- a whole number, n * 2^0
abbrev pub whole_number : ℕ → Float
whole_number n = fin false n (pos 0)

-- "the greatest whole number not above the f64": k <= v, and v < k + 1
pub record WholePart (v : Float) (k : ℕ) : Type 0 where
  pub not_above : T (le (whole_number k) v)
  pub below_next : T (lt v (whole_number (k + 1)))
