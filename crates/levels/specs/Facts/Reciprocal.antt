-- L by one product with the reciprocal of S, every operation rounded once. What the code works out so is `level_of` (proofs, Clamps:
-- `level_is_by`); a reader of the claim may pass over it.
use Rattle.std.specs.Prelude.{◌≡◌, true, false, cond, ℕ, suc, ◌<◌, ◌≤◌, ℤ, pos, negsuc, nat_abs, Float}
use Rattle.std.specs.Float.{fin, binary64}
use Rattle.std.specs.Float.Ieee.{round, add, sub, mul, div, lt}
use Rattle.levels.specs.Clip.{plus_zero}
use Rattle.levels.specs.Level.{most}

-- 65535 + 2 ^ -29, and in units of 2 ^ -29
abbrev pub raised_units : ℕ
raised_units = 35183835217921

abbrev pub most_raised : Float
most_raised = fin false raised_units (negsuc 28)

-- 2 ^ 52
abbrev pub big_whole : ℕ
big_whole = 4503599627370496

abbrev pub big : Float
big = fin false 1 (pos 52)

-- a number of 256ths as f64
unfoldable pub of_parts : ℤ → Float
of_parts (pos n) = round binary64 false n 256
of_parts (negsuc n) = round binary64 true (suc n) 256

-- 65535 / S, raised by so little that a half goes up and no other number to another whole one
abbrev pub inverse_of : ℤ → Float
inverse_of s = div binary64 most_raised (of_parts s)

-- the number if above 0, else +0.0; and at most 65535.0
abbrev pub floored_of : Float → Float
floored_of x = cond (lt plus_zero x) x plus_zero

abbrev pub capped_of : Float → Float
capped_of x = cond (lt x most) x most

-- the nearest whole number: from 2 ^ 52 on an f64 has no fraction
abbrev pub whole_of : Float → Float
whole_of y = sub binary64 (add binary64 y big) big

-- L as f64, from D and the reciprocal
abbrev pub level_by : Float → Float → Float
level_by d r = whole_of (capped_of (mul binary64 (floored_of d) r))

-- S of a plane of an accepted file: above 0, and at most 256 x 65535 + 3 x 16776960
pub record SpanIn (s : ℤ) : Type 0 where
  pub whole : s ≡ pos (nat_abs s)
  pub some : 0 < nat_abs s
  pub small : nat_abs s ≤ 67107840

-- d, b and r are a D, a B and the reciprocal of an S
pub record DifferenceIs (difference : ℤ) (d : Float) : Type 0 where
  pub small : nat_abs difference ≤ 67107840
  pub number : d ≡ of_parts difference

pub record BlackIs (black : ℤ) (b : Float) : Type 0 where
  pub small : nat_abs black ≤ 50330880
  pub number : b ≡ of_parts black

pub record InverseIs (span : ℤ) (r : Float) : Type 0 where
  pub inside : SpanIn span
  pub number : r ≡ inverse_of span
