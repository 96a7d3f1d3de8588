-- The bracket of a place and the corners around it, by the code's tests; the gain that they give.
-- Assumes nothing.
use Rattle.std.proofs.Common.{◌≡◌, ℕ, suc, ◌+◌, ◌-◌, ◌*◌, ◌<◌, ◌≤◌, min, Bool, true, false, ltb, List, length, sym, refl, ap, ◌∙◌, mul-le-mul_right}
use Rattle.std.proofs.Common.{suc-mul, mul-le-mul_left, arith, ltb-true, le-ltb, lt-ltb, eq-eqb, ne_eqb}
use lib.Ieee.{Float, binary64, lt, le, sub}
use Rattle.reading.specs.Reading.{pick}
use Rattle.levels.specs.Clip.{plus_zero}
use Rattle.opcodes.specs.Grid.{long_of}
use Rattle.opcodes.specs.Step.{float_in}
use Rattle.opcodes.specs.GainMap.{GainMap, float_of, place_of, whole_of, rest_of, between_of, along_of, gain_of, planes_in, gain_map_of}
use Rattle.opcodes.specs.Facts.Bracket.{GainMapIn, point_of, taken_of, BracketAt, BracketOf, BracketIn, next_of, gain_in, corners_of}
use Rattle.opcodes.specs.Facts.Bracket.{corners_gain}
use Rattle.opcodes.specs.declared.grid.Size.{Size}
use Rattle.opcodes.specs.declared.gain_map.Corners.{Corners}
use Rattle.opcodes.specs.declared.gain_map.Bracket.{Bracket}
use Rattle.opcodes.specs.declared.gain_map.Bracket.TheVariants.{At, Between}
use Rattle.opcodes.proofs.Places.{between_less, between_low, between_high, between_whole}

-- ---- a bracket by the code's tests
module _ (points : ℕ) (p : Float) (g : ℕ → Float) where
  pub along_one : points ≡ 1 → g 0 ≡ along_of points p g
  unfolding along_of pick
  along_one h = rw (eq-eqb points 1 h)

  module _ (h : points ≡ 1 → ⊥) where
    pub along_first : le p plus_zero ≡ true → g 0 ≡ along_of points p g
    unfolding along_of pick
    along_first a = rw (ne_eqb points 1 h, a)

    module _ (a : le p plus_zero ≡ false) where
      pub along_last : le (float_of (points - 1)) p ≡ true → g (points - 1) ≡ along_of points p g
      unfolding along_of pick
      along_last b = rw (ne_eqb points 1 h, a, b)

      pub along_between : le (float_of (points - 1)) p ≡ false →
          between_of (rest_of p) (g (whole_of p)) (g (whole_of p + 1)) ≡ along_of points p g
      unfolding along_of pick
      along_between b = rw (ne_eqb points 1 h, a, b)

-- ---- the corners
module _ (points k : ℕ) where
  pub next_more : k + 1 < points → k + 1 ≡ next_of points k
  unfolding pick
  next_more h = rw (lt-ltb (k + 1) points h)

  pub next_last : points ≤ k + 1 → k ≡ next_of points k
  unfolding pick
  next_last h = rw (le-ltb (k + 1) points h)

  pub next_below : (n : ℕ) → k < points → n ≡ next_of points k → n < points
  unfolding pick
  next_below n h e = go (ltb (k + 1) points) refl
    where
      go : (b : Bool) → ltb (k + 1) points ≡ b → n < points
      go true q = let l = ltb-true (k + 1) points q in let w : n ≡ k + 1 = rw q at e in omega arith
      go false q = let w : n ≡ k = rw q at e in omega arith

-- a place between a point and the next one
module _ (points k : ℕ) (p : Float) (h : k < points) (few : points ≤ 64) where
  abbrev n : ℕ
  n = next_of points k

  module _ (a : lt (float_of k) p ≡ true) (b : lt p (float_of n) ≡ true) where
    next_is : k < n → n ≡ k + 1
    unfolding pick
    next_is l = go (ltb (k + 1) points) refl
      where
        go : (t : Bool) → ltb (k + 1) points ≡ t → n ≡ k + 1
        go true q = rw q
        go false q = absurd (let w : n ≡ k = rw q in omega arith)

    pub bracket_near : BracketAt points p (Between k (sub binary64 p (float_of k))) × (k + 1 < points)
    bracket_near =
        let m : n < points = next_below points k n h refl in
        let i : n ≤ 65536 = omega arith in
        let j : k ≤ 65536 = omega arith in
        let e = next_is (between_less p k n i a b j) in
        let low = between_low p k n i a b j in
        let high = between_high p k n i a b j (points - 1) (omega arith) (omega arith) in
        let w = between_whole p k n i a b j e in
        let more : points ≡ 1 → ⊥ = λ o. omega arith in (
          λ g. ap (λ (x : ℕ). between_of (sub binary64 p (float_of x)) (g x) (g (x + 1))) (sym w) ∙ along_between points p g more low high,
          omega arith,
        )

pub point_below : (points : ℕ) (s : Bracket) → BracketIn points s → point_of s < points
point_below points (At k) h = h
point_below points (Between k f) h = omega arith

-- the next point counts only between two points
taken_next : (points : ℕ) (s : Bracket) (a : Float) (g : ℕ → Float) → BracketIn points s →
    taken_of s a (g (next_of points (point_of s))) ≡ taken_of s a (g (point_of s + 1))
taken_next points (At k) a g h = refl
taken_next points (Between k f) a g h = ap (λ (n : ℕ). between_of f a (g n)) (sym (next_more points k h))

module _ (m : GainMap) (down : Bracket) (q k i l r : ℕ) (a b c d : Float) where
  pub corners_read : i ≡ point_of down → l ≡ next_of m.down.points i → r ≡ next_of m.across.points k →
      a ≡ m.gains i k q → b ≡ m.gains i r q → c ≡ m.gains l k q → d ≡ m.gains l r q →
      record { point = k; from = float_of k; to = float_of r; upper_left = a; upper_right = b; lower_left = c; lower_right = d }
      ≡ corners_of m down q k
  unfolding corners_of
  corners_read e f g s t u v = rw (s, t, u, v, f, g, e)

-- the gain between the corners at a column's bracket is the gain in the column
module _ (m : GainMap) (down across : Bracket) (q columns c : ℕ) (here : BracketOf m.across columns c across) where
  abbrev left : ℕ → Float
  left i = m.gains i (point_of across) q

  abbrev right : ℕ → Float
  right i = m.gains i (next_of m.across.points (point_of across)) q

  abbrev along : ℕ → Float
  along i = along_of m.across.points (place_of m.across columns c) (λ (k : ℕ). m.gains i k q)

  corners_in : BracketIn m.down.points down → BracketIn m.across.points across →
      corners_gain (corners_of m down q (point_of across)) down across ≡ gain_in m down q columns c
  unfolding corners_of gain_in
  corners_in d a =
      let row : (i : ℕ) → taken_of across (left i) (right i) ≡ along i =
      λ i. taken_next m.across.points across (left i) (λ (k : ℕ). m.gains i k q) a ∙ here (λ (k : ℕ). m.gains i k q) in
      let i = point_of down in
      let n = next_of m.down.points i in
      ap (λ (x : Float). taken_of down x (taken_of across (left n) (right n))) (row i) ∙ ap (taken_of down (along i)) (row n)
      ∙ taken_next m.down.points down (along i) along d

  -- of corners that were read
  pub corners_found : (corners : Corners) (k : ℕ) (g : Float) →
      corners ≡ corners_of m down q k → k ≡ point_of across → g ≡ corners_gain corners down across →
      BracketIn m.down.points down → BracketIn m.across.points across → g ≡ gain_in m down q columns c
  corners_found corners k g e f h d a =
      h ∙ ap (λ (x : Corners). corners_gain x down across) e ∙ ap (λ (n : ℕ). corners_gain (corners_of m down q n) down across) f
      ∙ corners_in d a

-- corners say where they stand
module _ (m : GainMap) (down : Bracket) (q k : ℕ) (corners : Corners) (e : corners ≡ corners_of m down q k) where
  pub corners_point : corners.point ≡ k
  unfolding corners_of
  corners_point = ap (λ (x : Corners). x.point) e

  pub corners_own : corners ≡ corners_of m down q corners.point
  corners_own = e ∙ ap (corners_of m down q) (sym corners_point)

  pub corners_sides : (corners.from ≡ float_of k) × (corners.to ≡ float_of (next_of m.across.points k))
  unfolding corners_of
  corners_sides = (ap (λ (x : Corners). x.from) e, ap (λ (x : Corners). x.to) e)

-- and with the row's own bracket the gain at the sample
pub gain_in_law : (m : GainMap) (z : Size) (r c j : ℕ) (down : Bracket) (q : ℕ) →
    BracketOf m.down z.rows r down → q ≡ min j (m.planes - 1) → gain_in m down q z.columns c ≡ gain_of m z r c j
unfolding gain_of gain_in
gain_in_law m z r c j down q h e =
    rw e (h (λ (i : ℕ). along_of m.across.points (place_of m.across z.columns c) (λ (k : ℕ). m.gains i k (min j (m.planes - 1)))))

-- ---- a gain's place
below_all : (i k q v h p : ℕ) → i < v → k < h → q < p → ((i * h + k) * p + q < v * h * p) × (i * h + k ≤ (i * h + k) * p)
below_all i k q v h p a b c =
    let r : suc i * h ≤ v * h = mul-le-mul_right h a in
    let s : suc (i * h + k) ≤ v * h = omega (arith, suc-mul i h) in
    let t : suc (i * h + k) * p ≤ v * h * p = mul-le-mul_right p s in
    let u : (i * h + k) * 1 ≤ (i * h + k) * p = mul-le-mul_left (i * h + k) (let w : 1 ≤ p = omega arith in w) in
    (omega (arith, suc-mul (i * h + k) p), omega arith)

module _ (ps : List ℕ) (i k q columns planes : ℕ) (e : columns ≡ long_of ps 36) (f : planes ≡ planes_in ps) where
  pub gain_read : float_in ps (76 + 4 * ((i * columns + k) * planes + q)) ≡ (gain_map_of ps).gains i k q
  unfolding gain_map_of
  gain_read = rw (e, f)

  pub gain_room : GainMapIn ps → i < long_of ps 32 → k < long_of ps 36 → q < planes_in ps →
      (i * columns + k ≤ (i * columns + k) * planes) × (76 + 4 * ((i * columns + k) * planes + q) + 4 ≤ length ps)
  gain_room m a b c =
      let s = below_all i k q (long_of ps 32) (long_of ps 36) (planes_in ps) a b c in
      rw (e, f) (s.1, omega (arith, s.0, m.inside))
