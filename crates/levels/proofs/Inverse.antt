-- A level by the reciprocal: D times the rounded 65535 / S, raised by 2 ^ -45 of itself, at most 65535, rounded to a whole number by 2 ^ 52,
-- is the lesser of 65535 D / S rounded to nearest, halves up, and 65535.
-- Assumes nothing.
use mathlib.Core.Path.{◌≡◌, refl, sym, ap, ◌∙◌, subst}
use mathlib.Core.Logic.{⊎_elim}
use mathlib.Core.Bool.{false}
use Prim.Native.Nat.{ℕ, ◌+◌, ◌-◌, ◌*◌, ◌^◌, ◌≤◌, ◌<◌, min}
use native.Mathlib.Nat.{le_trans, le_of_eq, le_of_lt, lt_of_le_of_lt, mul_comm, mul_assoc, mul_left_comm, mul_right_comm, mul-mul-mul_comm}
use native.Mathlib.Nat.{mul-one, add-mul, mul-pos, zero-lt-suc, div-mul-le_self, lt-div-mul-add, div-lt_iff_lt-mul, le-div_iff_mul-le}
use native.Mathlib.Nat.{mul-le-mul_left, mul-le-mul_right, lt_of_mul-lt-mul_right, le_of_mul-le-mul_right, zero-mul, div-eq_of_lt}
use native.Mathlib.Omega.{arith}
use borrow.Author.Tests.{lt-ltb, le-ltb}
use lib.IntN.{pos}
use lib.Dec.{T, lit≤, lit<}
use lib.Pow.{pow_pos}
use lib.Ieee.{Float, inf, binary64, up, down, round, add, mul, lt, le, of_int}
use lib.Ieee.Back.{round_whole}
use lib.Ieee.Fits.{down_pos}
use lib.Ieee.Exact.{HasValue}
use lib.Ieee.Order.{round_mono}
use lib.Ieee.Scale.{grid, round_val, round_same, normal_of_fraction}
use Rattle.reading.proofs.Wholes.{le_or_lt}
use Rattle.levels.specs.Level.{rounded_of, most}
use Rattle.levels.specs.Facts.Reciprocal.{of_parts, raised_units, most_raised, big_whole, big, whole_of, capped_of, inverse_of}
use Rattle.levels.proofs.Nearness.{Close, CloseTwice, close_most, close_least, close_cancel, product_close, closest_is, round_close}
use Rattle.levels.proofs.Nearness.{whole_of_law}
use Rattle.levels.proofs.Values.{parts_value, mul_values, add_values, sub_down, div_values, lt_fractions, le_values, Shape}
use Rattle.levels.proofs.Values.{round_shape}

-- ---- 65535 / S, raised
raised_value : HasValue most_raised false raised_units 536870912
raised_value = (refl, refl)

abbrev span_of : ℕ → ℕ
span_of S = S * 2097152

abbrev grid_of : ℕ → ℕ
grid_of S = grid binary64 raised_units (span_of S)

module _ (S : ℕ) (some : 0 < S) (small : S < 67108864) where
  span_some : 0 < span_of S
  span_some = mul-pos some (zero-lt-suc _)

  span_most : span_of S ≤ 140737488355328
  span_most = omega arith

  reciprocal_is : inverse_of (pos S) ≡ round binary64 false raised_units (span_of S)
  reciprocal_is =
      let e : raised_units * 256 * (S * 2097152) ≡ raised_units * (536870912 * S) = omega arith in
      div_values most_raised (of_parts (pos S)) false raised_units 536870912 S 256 (zero-lt-suc _) some raised_value
      (parts_value (pos S) (omega arith))
      ∙ round_same binary64 false (raised_units * 256) (536870912 * S) raised_units (S * 2097152) (mul-pos (zero-lt-suc _) some) span_some e

  reciprocal_close : Close (raised_units * 2 ^ 1074) (grid_of S * span_of S)
  reciprocal_close =
      round_close raised_units (span_of S) span_some
      (normal_of_fraction binary64 raised_units (span_of S) span_some (le_trans (mul-le-mul_left (2 ^ 52) span_most) (lit≤ tt)))

  times_more : (g k : ℕ) → 0 < k → g ≤ g * k
  times_more g k h = le_trans (le_of_eq (sym (mul-one g))) (mul-le-mul_left g h)

  grid_most : grid_of S ≤ 2 * (raised_units * 2 ^ 1074)
  grid_most = le_trans (times_more (grid_of S) (span_of S) span_some)
      (close_most (raised_units * 2 ^ 1074) (grid_of S * span_of S) reciprocal_close)

  reciprocal_value : HasValue (inverse_of (pos S)) false (grid_of S) (2 ^ 1074)
  reciprocal_value =
      subst (λ (x : Float). HasValue x false (grid_of S) (2 ^ 1074)) (sym reciprocal_is)
      (round_val binary64 raised_units (span_of S) (lt_of_le_of_lt grid_most (lit< tt)))

  grid_least : 2 ^ 60 ≤ grid_of S
  grid_least =
      let h : raised_units * 2 ^ 1074 ≤ 2 * (grid_of S * 140737488355328) =
      le_trans (close_least (raised_units * 2 ^ 1074) (grid_of S * span_of S) reciprocal_close)
      (mul-le-mul_left 2 (mul-le-mul_left (grid_of S) span_most)) in
      let e : 2 * (grid_of S * 140737488355328) ≡ grid_of S * 281474976710656 = omega arith in
      le_of_mul-le-mul_right {k = 281474976710656} (le_trans (lit≤ tt) (le_trans h (le_of_eq e))) (zero-lt-suc _)

-- ---- L is 65535 D / S, rounded
module _ (S D : ℕ) (some : 0 < S) where
  twice : (q : ℕ) → q * (2 * S) ≡ 2 * (q * S)
  twice q = mul_left_comm q 2 S

  rounded_above : 2 * (rounded_of (65535 * D) S * S) ≤ 2 * (65535 * D) + S
  rounded_above = le_trans (le_of_eq (sym (twice (rounded_of (65535 * D) S)))) (div-mul-le_self (2 * (65535 * D) + S) (2 * S))

  rounded_under : 2 * (65535 * D) + 1 ≤ 2 * (rounded_of (65535 * D) S * S) + S
  rounded_under =
      let p : 0 < 2 * S = omega arith in
      let l : 2 * (65535 * D) + S < rounded_of (65535 * D) S * (2 * S) + 2 * S = lt-div-mul-add p in
      omega (arith, twice (rounded_of (65535 * D) S))

  pub rounded_least : D ≤ S → rounded_of (65535 * D) S ≤ 65535
  rounded_least h =
      let p : 0 < 2 * S = omega arith in
      let l : rounded_of (65535 * D) S < 65536 = (div-lt_iff_lt-mul p).1 (omega arith) in
      omega arith

  pub rounded_none : rounded_of (65535 * 0) S ≡ 0
  rounded_none = div-eq_of_lt {n = 2 * (65535 * 0) + S} {m = 2 * S} (omega arith)

  pub rounded_full : rounded_of (65535 * S) S ≡ 65535
  rounded_full =
      let p : 0 < 2 * S = omega arith in
      let a : 65535 ≤ rounded_of (65535 * S) S = (le-div_iff_mul-le p).1 (omega arith) in
      let b : rounded_of (65535 * S) S < 65536 = (div-lt_iff_lt-mul p).1 (omega arith) in
      omega arith

-- ---- D times the reciprocal of S
abbrev product_of : ℕ → ℕ → Float
product_of S D = mul binary64 (of_parts (pos D)) (inverse_of (pos S))

abbrev product_grid : ℕ → ℕ → ℕ
product_grid S D = grid binary64 (D * grid_of S) (256 * 2 ^ 1074)

unit_some : 0 < 256 * 2 ^ 1074
unit_some = mul-pos (zero-lt-suc 255) (pow_pos 1074)

product_is : (S D : ℕ) → 0 < S → S < 67108864 → D < 2 ^ 53 → product_of S D ≡ round binary64 false (D * grid_of S) (256 * 2 ^ 1074)
product_is S D some small reach =
    mul_values (of_parts (pos D)) (inverse_of (pos S)) D 256 (grid_of S) (2 ^ 1074) (zero-lt-suc _) (pow_pos 1074)
    (parts_value (pos D) reach) (reciprocal_value S some small)

module _ (S D : ℕ) (some : 0 < S) (small : S < 67108864) (any : 0 < D) (few : D < 67108864) where
  product_least : 2 ^ 60 ≤ D * grid_of S
  product_least = le_trans (grid_least S some small)
      (le_trans (times_more S some small (grid_of S) D any) (le_of_eq (mul_comm (grid_of S) D)))

  once : Close (D * grid_of S) (product_grid S D * 256)
  once =
      close_cancel (D * grid_of S) (product_grid S D * 256) (2 ^ 1074) (pow_pos 1074)
      (subst (Close (D * grid_of S * 2 ^ 1074)) (sym (mul_assoc (product_grid S D) 256 (2 ^ 1074)))
      (round_close (D * grid_of S) (256 * 2 ^ 1074) unit_some
      (normal_of_fraction binary64 (D * grid_of S) (256 * 2 ^ 1074) unit_some (mul-le-mul_right (2 ^ 1074) product_least))))

  product_most : product_grid S D ≤ 2 * (67108864 * (2 * (raised_units * 2 ^ 1074)))
  product_most =
      le_trans (times_more S some small (product_grid S D) 256 (zero-lt-suc _))
      (le_trans (close_most (D * grid_of S) (product_grid S D * 256) once)
      (mul-le-mul_left 2 (le_trans (mul-le-mul_right (grid_of S) (le_of_lt few)) (mul-le-mul_left 67108864 (grid_most S some small)))))

  product_value : HasValue (product_of S D) false (product_grid S D) (2 ^ 1074)
  product_value =
      subst (λ (x : Float). HasValue x false (product_grid S D) (2 ^ 1074)) (sym (product_is S D some small (omega arith)))
      (round_val binary64 (D * grid_of S) (256 * 2 ^ 1074) (lt_of_le_of_lt product_most (lit< tt)))

  twice_over : CloseTwice (raised_units * (2 ^ 1074 * D)) (product_grid S D * S * 536870912)
  twice_over =
      subst (λ (n : ℕ). CloseTwice n (product_grid S D * S * 536870912)) (mul_assoc raised_units (2 ^ 1074) D)
      (subst (CloseTwice (raised_units * 2 ^ 1074 * D)) (mul-mul-mul_comm (product_grid S D) 256 S 2097152)
      (product_close (raised_units * 2 ^ 1074) (grid_of S) (span_of S) D (product_grid S D * 256) (reciprocal_close S some small) once))

-- ---- the product against 65535 D / S: above it, and by less than the distance of the next half from it. X is D, and Y the product times S,
-- both in units of 1 / P
abbrev raised : ℕ → ℕ
raised X = raised_units * X

module _ (X Y : ℕ) (twice : CloseTwice (raised X) (Y * 536870912)) where
  error_small : 0 < X → 3 * raised X < 9007199254740992 * X
  error_small h = omega arith

  from_below : (N w : ℕ) → 3 * N < 9007199254740992 * X → 9007199254740989 * N ≤ 9007199254740992 * w → N < w + X
  from_below N w h k = omega arith

  from_above : (N w : ℕ) → 3 * N < 9007199254740992 * X → 9007199254740992 * w ≤ 9007199254740995 * N → w < N + X
  from_above N w h k = omega arith

  over_exact : 0 < X → 65535 * X < Y
  over_exact h = omega (arith, from_below (raised X) (Y * 536870912) (error_small h) twice.1)

  near_exact : (P : ℕ) → 0 < X → X ≤ 67108864 * P → 2 * Y < 131070 * X + P
  near_exact P h k = omega (arith, from_above (raised X) (Y * 536870912) (error_small h) twice.0)

-- x is a number, less than a half away from a whole one
record NearWhole (x : Float) (L : ℕ) : Type 0 where
  top : ℕ
  bottom : ℕ
  some : 0 < bottom
  value : HasValue x false top bottom
  above : 2 * (L * bottom) < 2 * top + bottom
  under : 2 * top < 2 * (L * bottom) + bottom

-- the bounds of L, times P, and those of the product, times S
module _ (P S D L g : ℕ) where
  doubled : (n k : ℕ) → 2 * n * k ≡ 2 * (n * k)
  doubled n k = mul_assoc 2 n k

  level_is : 2 * (L * P) * S ≡ 2 * (L * S * P)
  level_is = doubled (L * P) S ∙ ap (λ (z : ℕ). 2 * z) (mul_right_comm L P S)

  product_times : (2 * g + P) * S ≡ 2 * (g * S) + P * S
  product_times = add-mul (2 * g) P S ∙ ap (λ (z : ℕ). z + P * S) (doubled g S)

  level_times : (2 * (L * P) + P) * S ≡ 2 * (L * S * P) + P * S
  level_times = add-mul (2 * (L * P)) P S ∙ ap (λ (z : ℕ). z + P * S) level_is

  exact_is : 2 * (65535 * D) * P ≡ 131070 * (P * D)
  exact_is = doubled (65535 * D) P ∙ ap (λ (z : ℕ). 2 * z) (mul_assoc 65535 D P ∙ ap (λ (z : ℕ). 65535 * z) (mul_comm D P))
      ∙ sym (mul_assoc 2 65535 (P * D))

  low_of : 2 * (L * S) ≤ 2 * (65535 * D) + S → 65535 * (P * D) < g * S → 2 * (L * P) < 2 * g + P
  low_of h k =
      let m : 2 * (L * S) * P ≤ (2 * (65535 * D) + S) * P = mul-le-mul_right P h in
      let e : (2 * (65535 * D) + S) * P ≡ 131070 * (P * D) + P * S =
      add-mul (2 * (65535 * D)) S P ∙ ap (λ (z : ℕ). z + S * P) exact_is ∙ ap (λ (z : ℕ). 131070 * (P * D) + z) (mul_comm S P) in
      lt_of_mul-lt-mul_right S (omega (arith, m, e, doubled (L * S) P, level_is, product_times))

  high_of : 2 * (65535 * D) + 1 ≤ 2 * (L * S) + S → 2 * (g * S) < 131070 * (P * D) + P → 2 * g < 2 * (L * P) + P
  high_of h k =
      let m : (2 * (65535 * D) + 1) * P ≤ (2 * (L * S) + S) * P = mul-le-mul_right P h in
      let e : (2 * (65535 * D) + 1) * P ≡ 131070 * (P * D) + 1 * P = add-mul (2 * (65535 * D)) 1 P ∙ ap (λ (z : ℕ). z + 1 * P) exact_is in
      let f : (2 * (L * S) + S) * P ≡ 2 * (L * S * P) + P * S =
      add-mul (2 * (L * S)) S P ∙ ap (λ (z : ℕ). z + S * P) (doubled (L * S) P) ∙ ap (λ (z : ℕ). 2 * (L * S * P) + z) (mul_comm S P) in
      lt_of_mul-lt-mul_right S (omega (arith, m, e, f, doubled g S, level_times))

product_near : (S D L : ℕ) → 0 < S → S < 67108864 → 0 < D → D < 67108864 → 2 * (L * S) ≤ 2 * (65535 * D) + S →
    2 * (65535 * D) + 1 ≤ 2 * (L * S) + S
    → NearWhole (product_of S D) L
product_near S D L some small any few above under =
    let P : ℕ = 2 ^ 1074 in
    let t = twice_over S D some small any few in
    let X : 0 < P * D = mul-pos (pow_pos 1074) any in
    let m : P * D ≤ 67108864 * P = le_trans (le_of_eq (mul_comm P D)) (mul-le-mul_right P (le_of_lt few)) in
    record {
      top = product_grid S D;
      bottom = P;
      some = pow_pos 1074;
      value = product_value S D some small any few;
      above = low_of P S D L (product_grid S D) above (over_exact (P * D) (product_grid S D * S) t X);
      under = high_of P S D L (product_grid S D) under (near_exact (P * D) (product_grid S D * S) t P X m);
    }

-- ---- the whole number nearest to a number
big_value : HasValue big false big_whole 1
big_value = (refl, refl)

abbrev sum_top : ℕ → ℕ → ℕ
sum_top t b = t * 1 + big_whole * b

module _ (L : ℕ) (least : L ≤ 65535) (z : Float) (w : NearWhole z L) where
  abbrev t : ℕ
  t = w.top

  abbrev b : ℕ
  b = w.bottom

  level_fits : L * b ≤ 65535 * b
  level_fits = mul-le-mul_right b least

  near_low : 2 * ((big_whole + L) * b) < 2 * sum_top t b + b
  near_low = omega (arith, add-mul big_whole L b, w.above)

  near_high : 2 * sum_top t b < 2 * ((big_whole + L) * b) + b
  near_high = omega (arith, add-mul big_whole L b, w.under)

  in_reach : sum_top t b < 9007199254740992 * b
  in_reach = omega (arith, w.some, w.under, level_fits)

  plus_big : HasValue (add binary64 z big) false (big_whole + L) 1
  plus_big =
      subst (λ (v : Float). HasValue v false (big_whole + L) 1)
      (sym (add_values z big t b big_whole 1 w.some (zero-lt-suc 0) w.value big_value
      ∙ ap (λ (k : ℕ). round binary64 false (sum_top t b) k) (mul-one b)))
      (whole_of_law (sum_top t b) b (big_whole + L) w.some (omega arith) in_reach
      (closest_is (sum_top t b) b (big_whole + L) w.some near_low near_high) (omega arith))

  whole_is : whole_of z ≡ of_int binary64 (pos L)
  unfolding of_int
  whole_is =
      sub_down (add binary64 z big) big (big_whole + L) big_whole plus_big big_value (omega arith)
      ∙ ap (λ (k : ℕ). round binary64 false k 1) (back L)
    where
      back : (k : ℕ) → big_whole + k - big_whole ≡ k
      back k = omega arith

-- ---- at most 65535.0
most_value : HasValue most false 65535 1
most_value = (refl, refl)

most_near : (L : ℕ) → L ≡ 65535 → NearWhole most L
most_near L e = record { top = 65535; bottom = 1; some = zero-lt-suc 0; value = most_value; above = omega arith; under = omega arith }

capped_below : (x : Float) (t b : ℕ) → 0 < b → HasValue x false t b → t < 65535 * b → capped_of x ≡ x
capped_below x t b B v l = rw (lt_fractions x most t b 65535 1 B (zero-lt-suc 0) v most_value, lt-ltb (t * 1) (65535 * b) (omega arith))

capped_above : (x : Float) (t b : ℕ) → 0 < b → HasValue x false t b → 65535 * b ≤ t → capped_of x ≡ most
capped_above x t b B v l = rw (lt_fractions x most t b 65535 1 B (zero-lt-suc 0) v most_value, le-ltb (t * 1) (65535 * b) (omega arith))

capped_inf : capped_of (inf false) ≡ most
unfolding lt
capped_inf = refl

-- a number at 65535 or above is not near a lower level
level_above : (L t b : ℕ) → 65535 * b ≤ t → 2 * t < 2 * (L * b) + b → 65535 ≤ L
level_above L t b h k =
    let e : (2 * L + 1) * b ≡ 2 * (L * b) + 1 * b = add-mul (2 * L) 1 b ∙ ap (λ (z : ℕ). z + 1 * b) (mul_assoc 2 L b) in
    let l : 131070 < 2 * L + 1 = lt_of_mul-lt-mul_right b (omega (arith, e)) in
    omega arith

capped_near : (x : Float) (L : ℕ) → L ≤ 65535 → NearWhole x L → NearWhole (capped_of x) L
capped_near x L least w =
    ⊎_elim
    (λ l. let m : 65535 ≤ L = level_above L w.top w.bottom l w.under in
    subst (λ (y : Float). NearWhole y L) (sym (capped_above x w.top w.bottom w.some w.value l)) (most_near L (omega arith)))
    (λ l. subst (λ (y : Float). NearWhole y L) (sym (capped_below x w.top w.bottom w.some w.value l)) w)
    (le_or_lt (65535 * w.bottom) w.top)

-- a number that is not below one at 65535
capped_over : (x y : Float) (t b : ℕ) → Shape false x → 0 < b → HasValue y false t b → 65535 * b ≤ t → T (le y x) → capped_of x ≡ most
capped_over x y t b shape some v h low =
    ⊎_elim (λ q. ap capped_of q ∙ capped_inf)
    (λ (m, e, q).
    let w : HasValue x false (m * up e) (down e) = subst (λ (z : Float). HasValue z false (m * up e) (down e)) (sym q) (refl, refl) in
    let k : t * down e ≤ m * up e * b = le_values y x t b (m * up e) (down e) v w low in
    let l : 65535 * b * down e ≤ t * down e = mul-le-mul_right (down e) h in
    let r : 65535 * b * down e ≡ 65535 * down e * b = mul_right_comm 65535 b (down e) in
    capped_above x (m * up e) (down e) (down_pos e) w (le_of_mul-le-mul_right (omega (arith, r)) some)) shape

-- ---- the law
module _ (S D : ℕ) (some : 0 < S) (small : S < 67108864) where
  level_none : D ≡ 0 → NearWhole (product_of S D) 0
  level_none e =
      let z : HasValue (round binary64 false 0 1) false 0 1 = round_whole binary64 false 0 (omega arith) in
      let q : product_of S 0 ≡ round binary64 false 0 1 = product_is S 0 some small (omega arith)
      ∙ round_same binary64 false (0 * grid_of S) (256 * 2 ^ 1074) 0 1 unit_some (zero-lt-suc 0)
      (ap (λ (z : ℕ). z * 1) (zero-mul (grid_of S)) ∙ sym (zero-mul (256 * 2 ^ 1074))) in
      subst (λ (x : Float). NearWhole x 0) (sym (ap (product_of S) e ∙ q))
      (record { top = 0; bottom = 1; some = zero-lt-suc 0; value = z; above = omega arith; under = omega arith })

  level_near : D ≤ S → NearWhole (product_of S D) (rounded_of (65535 * D) S)
  level_near inside =
      ⊎_elim (λ l. let e : D ≡ 0 = omega arith in
      subst (NearWhole (product_of S D)) (sym (ap (λ (k : ℕ). rounded_of (65535 * k) S) e ∙ rounded_none S D some)) (level_none e))
      (λ l. product_near S D (rounded_of (65535 * D) S) some small l (omega arith) (rounded_above S D some) (rounded_under S D some))
      (le_or_lt D 0)

  level_inside : D ≤ S → whole_of (capped_of (product_of S D)) ≡ of_int binary64 (pos (rounded_of (65535 * D) S))
  level_inside inside =
      let L : ℕ = rounded_of (65535 * D) S in
      let least : L ≤ 65535 = rounded_least S D some inside in
      whole_is L least (capped_of (product_of S D)) (capped_near (product_of S D) L least (level_near inside))

  full_over : 65535 * 2 ^ 1074 ≤ product_grid S S
  full_over =
      let P : ℕ = 2 ^ 1074 in
      let l : 65535 * (P * S) < product_grid S S * S = over_exact (P * S) (product_grid S S * S) (twice_over S S some small some small)
      (mul-pos (pow_pos 1074) some) in
      le_of_mul-le-mul_right (le_trans (le_of_eq (mul_assoc 65535 P S)) (le_of_lt l)) some

  level_over : S ≤ D → D < 2 ^ 53 → whole_of (capped_of (product_of S D)) ≡ of_int binary64 (pos 65535)
  level_over over reach =
      let shape : Shape false (product_of S D) = subst (Shape false) (sym (product_is S D some small reach))
      (round_shape binary64 false (D * grid_of S) (256 * 2 ^ 1074)) in
      let more : S * grid_of S * (256 * 2 ^ 1074) ≤ D * grid_of S * (256 * 2 ^ 1074) = mul-le-mul_right (256 * 2 ^ 1074)
      (mul-le-mul_right (grid_of S) over) in
      let low : T (le (product_of S S) (product_of S D)) =
      subst (λ (x : Float). T (le x (product_of S D))) (sym (product_is S S some small (omega arith)))
      (subst (λ (x : Float). T (le (round binary64 false (S * grid_of S) (256 * 2 ^ 1074)) x)) (sym (product_is S D some small reach))
      (round_mono binary64 (S * grid_of S) (256 * 2 ^ 1074) (D * grid_of S) (256 * 2 ^ 1074) unit_some unit_some more)) in
      let e : capped_of (product_of S D) ≡ most =
      capped_over (product_of S D) (product_of S S) (product_grid S S) (2 ^ 1074) shape (pow_pos 1074)
      (product_value S S some small some small) full_over low in
      ap whole_of e ∙ whole_is 65535 (omega arith) most (most_near 65535 refl)

  pub level_by_reciprocal : D < 2 ^ 53 → whole_of (capped_of (product_of S D)) ≡ of_int binary64 (pos (rounded_of (65535 * min D S) S))
  level_by_reciprocal reach =
      ⊎_elim (λ l. let e : min D S ≡ D = omega arith in level_inside l
      ∙ ap (λ (m : ℕ). of_int binary64 (pos (rounded_of (65535 * m) S))) (sym e))
      (λ l. let e : min D S ≡ S = omega arith in
      level_over (le_of_lt l) reach ∙ ap (λ (n : ℕ). of_int binary64 (pos n)) (sym (rounded_full S D some))
      ∙ ap (λ (m : ℕ). of_int binary64 (pos (rounded_of (65535 * m) S))) (sym e))
      (le_or_lt D S)
