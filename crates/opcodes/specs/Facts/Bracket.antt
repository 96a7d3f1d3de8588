-- How the code finds a gain: the point or the two points that a row or a column lies at or between, and the four gains around a sample.
use Rattle.std.specs.Prelude.{◌≡◌, ℕ, ◌+◌, ◌*◌, ◌<◌, ◌≤◌, T, List, length, nat_lt, Float}
use Rattle.std.specs.Coded.{→_prop, le_prop}
use lib.Dec.{T_prop}
use Rattle.std.specs.Float.Ieee.Scale.{finite}
use Rattle.std.specs.Float.Ieee.Positive.{positive}
use Rattle.reading.specs.Reading.{pick}
use Rattle.opcodes.specs.GainMap.{GainMap, float_of, place_of, between_of, along_of, down_of, across_of, planes_in, gains_in}
use Rattle.opcodes.specs.declared.gain_map.Axis.{Axis}
use Rattle.opcodes.specs.declared.gain_map.Corners.{Corners}
use Rattle.opcodes.specs.declared.gain_map.Bracket.{Bracket}
use Rattle.opcodes.specs.declared.gain_map.Bracket.TheVariants.{At, Between}

-- ---- what holds of an accepted map
pub record AxisIn (a : Axis) : Type 0 where
  pub some : 1 ≤ a.points
  pub most : a.points ≤ 64
  pub origin : T (finite a.origin)
  pub spacing : 1 < a.points → T (positive a.spacing)

pub record GainMapIn (ps : List ℕ) : Type 0 where
  pub down : AxisIn (down_of ps)
  pub across : AxisIn (across_of ps)
  pub planes : 1 ≤ planes_in ps
  pub inside : 76 + 4 * gains_in ps ≤ length ps

pub AxisIn-prop : (a : Axis) → IsProp (AxisIn a)
AxisIn-prop a x y = λ i.
    record {
      some = le_prop x.some y.some i;
      most = le_prop x.most y.most i;
      origin = T_prop (finite a.origin) x.origin y.origin i;
      spacing = →_prop (T_prop (positive a.spacing)) x.spacing y.spacing i;
    }

pub GainMapIn-prop : (ps : List ℕ) → IsProp (GainMapIn ps)
GainMapIn-prop ps x y = λ i.
    record {
      down = AxisIn-prop (down_of ps) x.down y.down i;
      across = AxisIn-prop (across_of ps) x.across y.across i;
      planes = le_prop x.planes y.planes i;
      inside = le_prop x.inside y.inside i;
    }

-- ---- a bracket: its point, and what is taken of the gains there and at the next point
abbrev pub point_of : Bracket → ℕ
point_of (At k) = k
point_of (Between k f) = k

abbrev pub taken_of : Bracket → Float → Float → Float
taken_of (At k) a b = a
taken_of (Between k f) a b = between_of f a b

-- it is the bracket of a place among so many points
abbrev pub BracketAt : ℕ → Float → Bracket → Type 0
BracketAt points p s = (g : ℕ → Float) → taken_of s (g (point_of s)) (g (point_of s + 1)) ≡ along_of points p g

-- it is that of the n-th of `size` rows or columns
abbrev pub BracketOf : Axis → ℕ → ℕ → Bracket → Type 0
BracketOf a size n s = BracketAt a.points (place_of a size n) s

-- it lies among so many points
abbrev pub BracketIn : ℕ → Bracket → Type 0
BracketIn points (At k) = k < points
BracketIn points (Between k f) = k + 1 < points

-- the next point, or the last one again
abbrev pub next_of : ℕ → ℕ → ℕ
next_of points k = pick (nat_lt (k + 1) points) (k + 1) k

-- ---- the gain in column c of so many, at a row whose bracket is `down`, on map plane q
unfoldable pub gain_in : GainMap → Bracket → ℕ → ℕ → ℕ → Float
gain_in m down q columns c = taken_of down (in_row (point_of down)) (in_row (point_of down + 1))
  where
    in_row : ℕ → Float
    in_row i = along_of m.across.points (place_of m.across columns c) (λ (k : ℕ). m.gains i k q)

-- map column k and the next as places, and the four gains there: of the map rows of a bracket
unfoldable pub corners_of : GainMap → Bracket → ℕ → ℕ → Corners
corners_of m down q k =
    record {
      point = k;
      from = float_of k;
      to = float_of (next_of m.across.points k);
      upper_left = m.gains (point_of down) k q;
      upper_right = m.gains (point_of down) (next_of m.across.points k) q;
      lower_left = m.gains (next_of m.down.points (point_of down)) k q;
      lower_right = m.gains (next_of m.down.points (point_of down)) (next_of m.across.points k) q;
    }

-- corners among the points of an axis
abbrev pub CornersIn : Axis → Corners → Type 0
CornersIn a o = (o.from ≡ float_of o.point) × (o.to ≡ float_of (next_of a.points o.point)) × (o.point < a.points)

-- the gain from them
abbrev pub corners_gain : Corners → Bracket → Bracket → Float
corners_gain c down across = taken_of down (taken_of across c.upper_left c.upper_right) (taken_of across c.lower_left c.lower_right)
