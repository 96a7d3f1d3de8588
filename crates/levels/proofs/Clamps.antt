-- The steps before and after the product: D as f64, the clip at 0, and the law of the whole.
-- Assumes nothing.
use mathlib.Core.Path.{◌≡◌, refl, sym, ap, ◌∙◌}
use mathlib.Core.Logic.{◌⊎◌, inl, inr}
use mathlib.Core.Bool.{true, false, cond, true≢false}
use Prim.Native.Nat.{ℕ, zero, suc, ◌+◌, ◌*◌, ◌^◌, ◌≤◌, ◌<◌, min}
use native.Mathlib.Nat.{le_refl, zero-lt-suc}
use native.Mathlib.Omega.{arith}
use borrow.Author.Tests.{lt-ltb, lt-leb, le-leb}
use lib.Dec.{leb, ltb}
use lib.IntN.{ℤ, pos, negsuc, nat_abs, ◌+ℤ◌}
use lib.Ieee.{Float, nan, inf, fin, binary64, round, add, sub, div, lt, of_int}
use lib.Ieee.Exact.{HasValue}
use Rattle.reading.proofs.Magnitude.{nat_abs_add, nat_abs_sub}
use Rattle.reading.proofs.Wholes.{le_or_lt}
use Rattle.levels.specs.Clip.{plus_zero}
use Rattle.levels.specs.Level.{difference_of, level_of, rounded_of, scaled_of, most}
use Rattle.levels.specs.Facts.Reciprocal.{of_parts, inverse_of, floored_of, level_by, SpanIn, DifferenceIs, BlackIs, InverseIs}
use Rattle.levels.proofs.Values.{parts_value, add_parts, sub_parts, lt_fractions}
use Rattle.levels.proofs.Inverse.{rounded_none, rounded_full, level_by_reciprocal}

-- ---- the clip at 0
abbrev lifted : ℤ → ℕ
lifted (pos n) = n
lifted (negsuc n) = 0

lifted_le : (z : ℤ) → lifted z ≤ nat_abs z
lifted_le (pos n) = le_refl n
lifted_le (negsuc n) = omega arith

zero_value : HasValue plus_zero false 0 1
zero_value = (refl, refl)

is_zero : of_parts (pos 0) ≡ plus_zero
unfolding of_parts round
is_zero = refl

not_above : (x : Float) (a c : ℕ) → HasValue x true a c → lt plus_zero x ≡ false
unfolding lt
not_above nan a c h = refl
not_above (inf true) a c h = refl
not_above (inf false) a c h = absurd h
not_above (fin true m e) a c h = refl
not_above (fin false m e) a c h = absurd (true≢false (sym h.0))

floor_is : (z : ℤ) → nat_abs z < 2 ^ 53 → floored_of (of_parts z) ≡ of_parts (pos (lifted z))
floor_is (pos zero) h =
    rw (lt_fractions plus_zero (of_parts (pos 0)) 0 1 0 256 (zero-lt-suc 0) (zero-lt-suc _) zero_value (parts_value (pos 0) h), is_zero)
floor_is (pos (suc n)) h =
    let x : Float = of_parts (pos (suc n)) in
    let above : ltb (0 * 256) (suc n * 1) ≡ true = lt-ltb (0 * 256) (suc n * 1) (omega arith) in
    rw (lt_fractions plus_zero x 0 1 (suc n) 256 (zero-lt-suc 0) (zero-lt-suc _) zero_value (parts_value (pos (suc n)) h), above)
floor_is (negsuc n) h = rw (not_above (of_parts (negsuc n)) (suc n) 256 (parts_value (negsuc n) h), is_zero)

-- ---- the level of a clipped D
level_is : (z : ℤ) (s : ℕ) → 0 < s → level_of z (pos s) ≡ rounded_of (65535 * min (lifted z) s) s
unfolding level_of
level_is (negsuc n) s h = let e : min 0 s ≡ 0 = omega arith in sym (ap (λ (m : ℕ). rounded_of (65535 * m) s) e ∙ rounded_none s 0 h)
level_is (pos zero) s h = let e : min 0 s ≡ 0 = omega arith in sym (ap (λ (m : ℕ). rounded_of (65535 * m) s) e ∙ rounded_none s 0 h)
level_is (pos (suc n)) s h = rw (lt-leb (suc n) 0 (omega arith)) (go (le_or_lt s (suc n)))
  where
    go : (s ≤ suc n) ⊎ (suc n < s) → cond (leb s (suc n)) 65535 (rounded_of (65535 * suc n) s) ≡ rounded_of (65535 * min (suc n) s) s
    go (inl l) = let e : min (suc n) s ≡ s = omega arith in rw (le-leb s (suc n) l, e) (sym (rounded_full s 0 h))
    go (inr l) = let e : min (suc n) s ≡ suc n = omega arith in rw (lt-leb s (suc n) l, e)

-- ---- the laws: L as f64, and the scaled value
pub level_is_by : (z span : ℤ) (d r : Float) → DifferenceIs z d → InverseIs span r → level_by d r ≡ of_int binary64 (pos (level_of z span))
level_is_by z span d r p q =
    let s : ℕ = nat_abs span in
    let i : SpanIn span = q.inside in
    let n : nat_abs z ≤ 67107840 = p.small in
    let f : floored_of d ≡ of_parts (pos (lifted z)) = ap floored_of p.number ∙ floor_is z (omega arith) in
    let e : r ≡ inverse_of (pos s) = q.number ∙ ap inverse_of i.whole in
    rw (f, e) (level_by_reciprocal s (lifted z) i.some (omega (arith, i.small)) (omega (arith, lifted_le z)))
    ∙ ap (λ (m : ℕ). of_int binary64 (pos m)) (sym (level_is z s i.some) ∙ ap (level_of z) (sym i.whole))

difference_most : (v : ℕ) (black : ℤ) → v ≤ 65535 → nat_abs black ≤ 50330880 → nat_abs (difference_of v black) ≤ 67107840
difference_most v black h k = omega (arith, nat_abs_sub (pos (256 * v)) black)

pub difference_is : (v : ℕ) (black : ℤ) (b : Float) → v ≤ 65535 → BlackIs black b
    → DifferenceIs (difference_of v black) (sub binary64 (of_int binary64 (pos v)) b)
difference_is v black b h p =
    record {
      small = difference_most v black h p.small;
      number = ap (sub binary64 (of_int binary64 (pos v))) p.number ∙ sub_parts v black (omega arith) (omega (arith, p.small));
    }

pub scaled_is_by : (z span : ℤ) (d r : Float) → DifferenceIs z d → InverseIs span r →
    div binary64 (level_by d r) most ≡ scaled_of (level_of z span)
scaled_is_by z span d r p q = ap (λ (x : Float). div binary64 x most) (level_is_by z span d r p q)

-- ---- a black that is a sum
pub black_sum_is : (a b : ℤ) (x y : Float) → BlackIs a x → BlackIs b y → nat_abs a + nat_abs b ≤ 50330880 →
    BlackIs (a +ℤ b) (add binary64 x y)
black_sum_is a b x y p q h =
    record {
      small = omega (arith, nat_abs_add a b);
      number = ap (λ (z : Float). add binary64 z y) p.number ∙ ap (add binary64 (of_parts a)) q.number
          ∙ add_parts a b (omega arith) (omega arith);
    }
