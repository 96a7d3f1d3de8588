-- GainMap (9): the gain at a sample, and the rules of the parameters.
use Rattle.std.specs.Prelude.{ℕ, ◌+◌, ◌-◌, ◌*◌, min, Bool, ◌&&◌, ◌||◌, List, pos, ◌==◌, from_bits, nat_le, Float}
use Rattle.std.specs.Float.{binary64}
use Rattle.std.specs.Float.Ieee.{of_int, to_unsigned, lt, le, add, sub, mul, div}
use Rattle.reading.specs.Bytes.{part}
use Rattle.reading.specs.Number.{number_of}
use Rattle.reading.specs.Reading.{pick}
use Rattle.reading.specs.declared.number.Order.TheVariants.{Big}
use Rattle.levels.specs.Clip.{plus_zero, one}
use Rattle.opcodes.specs.Grid.{long_of}
use Rattle.opcodes.specs.Step.{half, float_in, double_in}
use Rattle.opcodes.specs.declared.grid.Size.{Size}
use Rattle.opcodes.specs.declared.gain_map.Axis.{Axis}

-- the points down and across the frame, and the gain at a map row, a map column and a map plane
pub record GainMap : Type 0 where
  pub down : Axis
  pub across : Axis
  pub planes : ℕ
  pub gains : ℕ → ℕ → ℕ → Float

-- ---- the gain at a sample: "every operation is rounded once"
-- a whole number as f64
abbrev pub float_of : ℕ → Float
float_of n = of_int binary64 (pos n)

-- "The vertical place is (row + 0.5) / active rows, less origin, divided by spacing; horizontal likewise"
unfoldable pub place_of : Axis → ℕ → ℕ → Float
place_of a size n = div binary64 (sub binary64 (div binary64 (add binary64 (float_of n) half) (float_of size)) a.origin) a.spacing

-- "k is the whole part, f the rest"
abbrev pub whole_of : Float → ℕ
whole_of p = to_unsigned 64 p

abbrev pub rest_of : Float → Float
rest_of p = sub binary64 p (float_of (whole_of p))

-- "the gain is (1 - f) * a + f * b"
unfoldable pub between_of : Float → Float → Float → Float
between_of f a b = add binary64 (mul binary64 (sub binary64 one f) a) (mul binary64 f b)

-- at a place among so many points, g k the gain at point k:
-- "With one point, or at or below 0, take the first; at or above points - 1, the last; else .." between k and the next
unfoldable pub along_of : ℕ → Float → (ℕ → Float) → Float
along_of points p g =
    pick (points == 1 || le p plus_zero) (g 0)
    (pick (le (float_of (points - 1)) p) (g (points - 1)) (between_of (rest_of p) (g (whole_of p)) (g (whole_of p + 1))))

-- "across first and then down"; "Plane j of the correction uses map plane j, or the last."
unfoldable pub gain_of : GainMap → Size → ℕ → ℕ → ℕ → Float
gain_of m z r c j =
    along_of m.down.points (place_of m.down z.rows r) (λ (i : ℕ).
    along_of m.across.points (place_of m.across z.columns c) (λ (k : ℕ).
    m.gains i k (min j (m.planes - 1))))

-- ---- the parameters: "After the common eight numbers stand MapPointsV, MapPointsH (LONG, 1 to 64), MapSpacingV, MapSpacingH,
-- MapOriginV, MapOriginH (DOUBLE), MapPlanes (LONG, at least 1) and the gains (FLOAT; row, column, plane)."
abbrev pub axis_of : List ℕ → ℕ → ℕ → ℕ → Axis
axis_of ps points spacing origin = record { points = long_of ps points; spacing = double_in ps spacing; origin = double_in ps origin }

abbrev pub down_of : List ℕ → Axis
down_of ps = axis_of ps 32 40 56

abbrev pub across_of : List ℕ → Axis
across_of ps = axis_of ps 36 48 64

abbrev pub planes_in : List ℕ → ℕ
planes_in ps = long_of ps 72

-- where the gain of a map row, column and plane stands among the gains
abbrev pub gain_place : List ℕ → ℕ → ℕ → ℕ → ℕ
gain_place ps i k q = (i * long_of ps 36 + k) * planes_in ps + q

unfoldable pub gain_map_of : List ℕ → GainMap
gain_map_of ps =
    record {
      down = down_of ps;
      across = across_of ps;
      planes = planes_in ps;
      gains = λ (i k q : ℕ). float_in ps (76 + 4 * gain_place ps i k q);
    }

-- ---- the rules (10)
-- the DOUBLE at a place is above 0; a NaN is not
abbrev pub above_at : List ℕ → ℕ → Bool
above_at ps p = lt plus_zero (from_bits binary64 (number_of Big (part ps p 8)))

-- "1 to 64"; "Spacing must be above 0 where there is more than one point."
abbrev pub axis_legal : List ℕ → ℕ → ℕ → Bool
axis_legal ps points spacing = nat_le 1 (long_of ps points) && (nat_le (long_of ps points) 64 && (long_of ps points == 1 || above_at ps spacing))

unfoldable pub gain_map_legal : List ℕ → Bool
gain_map_legal ps = axis_legal ps 32 40 && (axis_legal ps 36 48 && nat_le 1 (planes_in ps))

-- how many gains there are
abbrev pub gains_in : List ℕ → ℕ
gains_in ps = long_of ps 32 * long_of ps 36 * planes_in ps
