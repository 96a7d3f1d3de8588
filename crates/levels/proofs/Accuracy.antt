-- A level is within half a step of 65535 D / S, and never falls as D or the stored sample grows.
-- Assumes nothing.
use mathlib.Core.Path.{◌≡◌, refl, sym, ap, ◌∙◌}
use mathlib.Core.Bool.{Bool, true, false, cond, true≢false}
use mathlib.Core.List.{List, [], ◌∷◌}
use Prim.Native.Nat.{ℕ, zero, suc, ◌+◌, ◌-◌, ◌*◌, ◌≤◌, ◌<◌, zero-le, suc-le-suc, min}
use native.Mathlib.Nat.{mul_left_comm, mul_comm, mul_assoc, div-mul-le_self, lt-div-mul-add, zero-mul, le-div_iff_mul-le, mul-le-mul, mul-sub, mul-add}
use native.Mathlib.Nat.{le_refl, le_trans, not-suc-le-zero, le-min, min-le_left, min-le_right}
use native.Mathlib.Omega.{arith}
use lib.Dec.{T, ltb}
use lib.IntN.{ℤ, pos, negsuc, neg_ℤ, nat_abs, ◌-ℤ◌, ◌*ℤ◌}
use lib.ListN.{length}
use lib.Signed.{le_z, non_neg}
use borrow.Author.Tests.{leb-true, leb-false, le-leb, ltb-true, ltb-false}
use Rattle.reading.proofs.Magnitude.{not_le_zero, not_le}
use Rattle.levels.specs.Table.{through_of}
use Rattle.levels.specs.Level.{level_of, rounded_of, difference_of}
use Rattle.levels.specs.Levels.{Levels, black_for, span_of, level_at, difference_at}
use Rattle.levels.specs.Accuracy.{WithinHalfAStep, Ascending, InStoredOrder}
use Rattle.levels.proofs.Rounding.{rounded_most, level_cases}
use Rattle.levels.proofs.SignedOrder.{le_z_trans, le_z_add}

-- ---- how near

-- a / s rounded to nearest, times s, is within half of s of a
rounded_near : (a s : ℕ) → 0 < s → (2 * (rounded_of a s * s) ≤ 2 * a + s) × (2 * a ≤ 2 * (rounded_of a s * s) + s)
rounded_near a s h =
    let p : 0 < 2 * s = omega arith in
    let e = mul_left_comm (rounded_of a s) 2 s in
    (omega (arith, e, div-mul-le_self (2 * a + s) (2 * s)), omega (arith, e, lt-div-mul-add {a = 2 * a + s} p))

-- so is L x S of 65535 x D
level_near : (d s : ℕ) → d ≤ s →
    let l = level_of (pos d) (pos s) in (2 * (l * s) ≤ 2 * (65535 * d) + s) × (2 * (65535 * d) ≤ 2 * (l * s) + s)
level_near d s h =
    level_cases (λ (l : ℕ). (2 * (l * s) ≤ 2 * (65535 * d) + s) × (2 * (65535 * d) ≤ 2 * (l * s) + s)) (pos d) (pos s)
    (λ e. let z = leb-true d 0 e in (omega (arith, zero-mul s), omega (arith, zero-mul s)))
    (λ e f. let z = leb-true s d f in (omega arith, omega arith))
    (λ e f. let z = leb-false s d f in rounded_near (65535 * d) s (omega arith))

-- two numbers whose doubles differ by at most s, in either direction
distance : (a b s : ℕ) → 2 * a ≤ 2 * b + s → 2 * b ≤ 2 * a + s → 2 * nat_abs (pos a -ℤ pos b) ≤ s
distance a zero s h k = omega arith
distance a (suc b) s h k = go (ltb a (suc b)) refl
  where
    go : (t : Bool) → ltb a (suc b) ≡ t → 2 * nat_abs (cond t (negsuc (suc b - suc a)) (pos (a - suc b))) ≤ s
    go true e = let l = ltb-true a (suc b) e in omega arith
    go false e = let l = ltb-false a (suc b) e in omega arith

pub level_within : (d s : ℤ) → WithinHalfAStep d s (level_of d s)
level_within (pos d) (pos s) z h =
    let n = level_near d s (leb-true d s h) in
    omega (arith, distance (level_of (pos d) (pos s) * s) (65535 * d) s n.0 n.1)
level_within (pos d) (negsuc s) z h = absurd (true≢false (sym h))
level_within (negsuc d) s z h = absurd (true≢false (sym z))

-- a tie reaches the bound: D is 1 and S is 2, L is 32768, and twice the distance between 65536 and 65535 is 2
tie_reaches : 2 * nat_abs (pos (level_of (pos 1) (pos 2)) *ℤ pos 2 -ℤ pos 65535 *ℤ pos 1) ≡ 2
unfolding level_of
tie_reaches = refl

-- ---- what this does to the ratio of two planes

-- 131070 D / S is from 2 L - 1 to 2 L + 1
level_between : (d s : ℕ) → d ≤ s →
    let l = level_of (pos d) (pos s) in (s * (2 * l - 1) ≤ 131070 * d) × (131070 * d ≤ s * (2 * l + 1))
level_between d s h =
    let l = level_of (pos d) (pos s) in
    let n = level_near d s h in
    let e : s * (2 * l) ≡ 2 * (l * s) = mul_left_comm s 2 l ∙ ap (λ (k : ℕ). 2 * k) (mul_comm s l) in
    (omega (arith, n.0, e, mul-sub s (2 * l) 1), omega (arith, n.1, e, mul-add s (2 * l) 1))

crossed : (d s d' s' m n : ℕ) → s * m ≤ 131070 * d → 131070 * d' ≤ s' * n → d' * (s * m) ≤ d * (s' * n)
crossed d s d' s' m n h k =
    let p : (s * m) * (131070 * d') ≤ (131070 * d) * (s' * n) = mul-le-mul h k in
    let a : 131070 * (d' * (s * m)) ≡ (s * m) * (131070 * d') = sym (mul_comm (s * m) (131070 * d') ∙ mul_assoc 131070 d' (s * m)) in
    let b : (131070 * d) * (s' * n) ≡ 131070 * (d * (s' * n)) = mul_assoc 131070 d (s' * n) in
    omega (arith, p, a, b)

-- With D, S and L of two planes, those of the second marked ', the ratio of D / S to D' / S' is from (2 L - 1) / (2 L' + 1) to
-- (2 L + 1) / (2 L' - 1), multiplied out; the second says nothing where L' is 0
pub ratio_between : (d s d' s' : ℕ) → d ≤ s → d' ≤ s' →
    let l = level_of (pos d) (pos s) in
    let l' = level_of (pos d') (pos s') in
    (d' * (s * (2 * l - 1)) ≤ d * (s' * (2 * l' + 1))) × (d * (s' * (2 * l' - 1)) ≤ d' * (s * (2 * l + 1)))
ratio_between d s d' s' h h' =
    let a = level_between d s h in
    let b = level_between d' s' h' in
    (crossed d s d' s' _ _ a.0 b.1, crossed d' s' d s _ _ b.0 a.1)

-- ---- in stored order

rounded_ordered : (a b s : ℕ) → 0 < s → a ≤ b → rounded_of a s ≤ rounded_of b s
rounded_ordered a b s p h =
    let q : 0 < 2 * s = omega arith in
    (le-div_iff_mul-le q).1 (omega (arith, div-mul-le_self (2 * a + s) (2 * s)))

magnitudes_ordered : (d e : ℤ) → T (non_neg d) → le_z d e ≡ true → nat_abs d ≤ nat_abs e
magnitudes_ordered (pos d) (pos e) n h = leb-true d e h
magnitudes_ordered (pos d) (negsuc e) n h = absurd (true≢false (sym h))
magnitudes_ordered (negsuc d) e n h = absurd n

-- a larger D never gives a smaller L
pub level_ordered : (d e s : ℤ) → le_z d e ≡ true → level_of d s ≤ level_of e s
level_ordered d e s h = level_cases (λ (l : ℕ). l ≤ level_of e s) d s (λ x. zero-le) full between
  where
    above : le_z d (pos 0) ≡ false → le_z e (pos 0) ≡ true → ⊥
    above x y = true≢false (sym (le_z_trans d e (pos 0) h y) ∙ x)

    full : le_z d (pos 0) ≡ false → le_z s d ≡ true → 65535 ≤ level_of e s
    full x f =
        level_cases (λ (l : ℕ). 65535 ≤ l) e s (λ y. absurd (above x y)) (λ y g. le_refl 65535)
        (λ y g. absurd (true≢false (sym (le_z_trans s d e f h) ∙ g)))

    rounded : le_z d (pos 0) ≡ false → le_z e (pos 0) ≡ false → le_z s e ≡ false →
        rounded_of (65535 * nat_abs d) (nat_abs s) ≤ rounded_of (65535 * nat_abs e) (nat_abs s)
    rounded x y g =
        let m = magnitudes_ordered d e (not_le_zero d x).0 h in
        let z = (not_le s e g (not_le_zero e y).0).1 in
        rounded_ordered (65535 * nat_abs d) (65535 * nat_abs e) (nat_abs s) (omega arith) (omega arith)

    between : le_z d (pos 0) ≡ false → le_z s d ≡ false → rounded_of (65535 * nat_abs d) (nat_abs s) ≤ level_of e s
    between x f =
        level_cases (λ (l : ℕ). rounded_of (65535 * nat_abs d) (nat_abs s) ≤ l) e s (λ y. absurd (above x y))
        (λ y g. rounded_most (nat_abs d) (nat_abs s) (not_le s d f (not_le_zero d x).0).1) (λ y g. rounded x y g)

-- a larger v never gives a smaller D
pub difference_ordered : (v w : ℕ) (b : ℤ) → v ≤ w → le_z (difference_of v b) (difference_of w b) ≡ true
difference_ordered v w b h = le_z_add (pos (256 * v)) (pos (256 * w)) (neg_ℤ b) (le-leb (256 * v) (256 * w) (omega arith))

-- an absent table never falls
pub ascending_none : Ascending []
ascending_none i j h k = absurd (not-suc-le-zero k)

-- where the table never falls, a larger stored sample never gives a smaller v
pub through_ordered : (t : List ℕ) → Ascending t → (a b : ℕ) → a ≤ b → through_of t a ≤ through_of t b
unfolding through_of
through_ordered [] n a b h = h
through_ordered (x ∷ xs) n a b h =
    let m = length xs in
    n (min a m) (min b m) (le-min (le_trans (min-le_left a m) h) (min-le_right a m)) (suc-le-suc (min-le_right b m))

-- both claims, of any levels
pub levels_in_order : (l : Levels) (r c p : ℕ) → InStoredOrder l r c p
unfolding level_at
levels_in_order l r c p n a b h =
    level_ordered (difference_at l r c p a) (difference_at l r c p b) (span_of l p)
    (difference_ordered (through_of l.table a) (through_of l.table b) (black_for l r c p) (through_ordered l.table n a b h))

pub levels_within : (l : Levels) (r c p v : ℕ) → WithinHalfAStep (difference_at l r c p v) (span_of l p) (level_at l r c p v)
unfolding level_at
levels_within l r c p v = level_within (difference_at l r c p v) (span_of l p)
