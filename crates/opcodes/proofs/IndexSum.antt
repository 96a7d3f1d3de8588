-- Of a clipped x, x * 65535.0 + 0.5 is an f64 from 0.5 to 65535.5.
-- Assumes nothing.
use Rattle.std.proofs.Common.{◌≡◌, ℕ, ◌+◌, ◌*◌, ◌<◌, ◌≤◌, Bool, true, false, ◌&&◌, ◌||◌, T, ltb, ℤ, pos, sym, refl, ap, ◌∙◌, subst, inl, inr}
use Rattle.std.proofs.Common.{zero-lt-suc, mul-pos, arith, ltb→lt, lt→ltb}
use lib.Ieee.{Float, nan, inf, fin, binary64, up, down, round, lt, le, eq, add, mul}
use lib.Ieee.Fits.{down_pos, and_l, and_r, add-fits}
use lib.Ieee.Order.{round_mono}
use lib.Ieee.Positive.{positive, mul_mono, first_pos}
use Rattle.levels.specs.Clip.{plus_zero, one}
use Rattle.levels.specs.Level.{most}
use Rattle.levels.proofs.Unit.{unit, clip_elim}
use Rattle.levels.proofs.Values.{Shape, round_shape, lt_or_eq}
use Rattle.opcodes.specs.Step.{half, sum_of}
use Rattle.opcodes.specs.TableIndex.{greatest_sum, IndexRange}

-- not above a finite number
cross : (m : ℕ) (e : ℤ) (n : ℕ) (d : ℤ) → T (le (fin false m e) (fin false n d)) → m * up e * down d ≤ n * up d * down e
unfolding le
cross m e n d l = lt_or_eq (m * up e * down d) (n * up d * down e) l

not_inf : (n : ℕ) (d : ℤ) → T (le (inf false) (fin false n d)) → ⊥
unfolding le
not_inf n d l = l

abbrev Under : Float → ℕ → ℤ → Type 0
Under x n d = (m : ℕ) × (e : ℤ) × (x ≡ fin false m e) × (m * up e * down d ≤ n * up d * down e)

plain_of_le : (x : Float) (n : ℕ) (d : ℤ) → Shape false x → T (le x (fin false n d)) → Under x n d
plain_of_le x n d (inl h) l = absurd (not_inf n d (subst (λ (y : Float). T (le y (fin false n d))) h l))
plain_of_le x n d (inr h) l = (h.0, h.1, h.2, cross h.0 h.1 n d (subst (λ (y : Float). T (le y (fin false n d))) h.2 l))

-- ---- x * 65535.0 is at most 65535.0
mul_shape : (m : ℕ) (e : ℤ) → Shape false (mul binary64 (fin false m e) most)
unfolding mul
mul_shape m e = round_shape binary64 false (m * up e * 65535) (down e * 1)

mul_one_most : mul binary64 one most ≡ most
unfolding mul
mul_one_most = refl

between_positive : (x : Float) → T (lt plus_zero x && lt x one) → T (positive x)
unfolding lt
between_positive nan h = absurd h
between_positive (inf true) h = absurd h
between_positive (inf false) h = absurd h
between_positive (fin true m e) h = absurd (and_l false (lt (fin true m e) one) h)
between_positive (fin false m e) h =
    lt→ltb 0 m (first_pos m (up e)
    (first_pos (m * up e) 1 (low_bound (0 * down e) (m * up e * 1)
    (ltb→lt (0 * down e) (m * up e * 1) (and_l (ltb (0 * down e) (m * up e * 1)) (lt (fin false m e) one) h)))))
  where
    low_bound : (a b : ℕ) → a < b → 0 < b
    low_bound a b h = omega arith

or_l : (a b : Bool) → T a → T (a || b)
or_l true b t = tt
or_l false b t = absurd t

le_one : (x : Float) → T (lt plus_zero x && lt x one) → T (le x one)
unfolding le
le_one x h = or_l (lt x one) (eq x one) (and_r (lt plus_zero x) (lt x one) h)

most_le : T (le most most)
unfolding le
most_le = tt

product_shape : (x : Float) → T (positive x) → Shape false (mul binary64 x most)
product_shape nan p = absurd p
product_shape (inf s) p = absurd p
product_shape (fin true m e) p = absurd p
product_shape (fin false m e) p = mul_shape m e

product_under : (x : Float) → T (lt plus_zero x && lt x one) → Under (mul binary64 x most) 65535 (pos 0)
product_under x h =
    let p = between_positive x h in
    plain_of_le (mul binary64 x most) 65535 (pos 0) (product_shape x p)
    (subst (λ (y : Float). T (le (mul binary64 x most) y)) mul_one_most (mul_mono binary64 x one most most p tt tt tt (le_one x h) most_le))

-- ---- and with 0.5 more from 0.5 to 65535.5
add_opened : (m : ℕ) (e : ℤ) → add binary64 (fin false m e) half ≡ round binary64 false (m * up e * 2 + 1 * down e) (down e * 2)
unfolding add
add_opened m e = refl

least_is : round binary64 false 1 2 ≡ half
unfolding round
least_is = refl

top_is : round binary64 false 131071 2 ≡ greatest_sum
unfolding round
top_is = refl

least_room : (a d : ℕ) → 1 * (d * 2) ≤ (a * 2 + 1 * d) * 2
least_room a d = omega arith

top_room : (a d : ℕ) → a * 1 ≤ 65535 * d → (a * 2 + 1 * d) * 2 ≤ 131071 * (d * 2)
top_room a d h = omega arith

sum_in : (y : Float) → Under y 65535 (pos 0) → IndexRange (add binary64 y half)
sum_in y (m, e, q, h) =
    let a = m * up e * 2 + 1 * down e in
    let d = down e * 2 in
    let D : 0 < d = mul-pos (down_pos e) (zero-lt-suc 1) in
    let r = round binary64 false a d in
    let is : add binary64 y half ≡ r = ap (λ (z : Float). add binary64 z half) q ∙ add_opened m e in
    let low : T (le half r) =
    subst (λ (z : Float). T (le z r)) least_is (round_mono binary64 1 2 a d (zero-lt-suc 1) D (least_room (m * up e) (down e))) in
    let high : T (le r greatest_sum) =
    subst (λ (z : Float). T (le r z)) top_is
    (round_mono binary64 a d 131071 2 D (zero-lt-suc 1) (top_room (m * up e) (down e) h)) in
    record {
      held = add-fits binary64 y half;
      from = subst (λ (z : Float). T (le half z)) (sym is) low;
      to = subst (λ (z : Float). T (le z greatest_sum)) (sym is) high;
    }

mul_zero_most : mul binary64 plus_zero most ≡ plus_zero
unfolding mul
mul_zero_most = refl

pub sum_range : (x : Float) → unit x → IndexRange (sum_of x)
sum_range x u =
    subst (λ (y : Float). IndexRange (sum_of y)) u
    (clip_elim (λ (y : Float). IndexRange (sum_of y))
    (sum_in (mul binary64 one most) (65535, pos 0, mul_one_most, omega arith))
    (sum_in (mul binary64 plus_zero most) (0, pos 0, mul_zero_most, omega arith))
    (λ y h. sum_in (mul binary64 y most) (product_under y h))
    x)

-- of any x, by two tests
pub tested_range : (x : Float) → le half (sum_of x) ≡ true → le (sum_of x) greatest_sum ≡ true → IndexRange (sum_of x)
tested_range x a b =
    record {
      held = add-fits binary64 (mul binary64 x most) half;
      from = subst T (sym a) tt;
      to = subst T (sym b) tt;
    }
