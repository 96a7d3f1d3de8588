-- The order of signed numbers: `le_z` is one, sums keep it, and the greater of two is none below either.
-- Assumes nothing.
use mathlib.Core.Path.{◌≡◌, refl, sym, ap}
use mathlib.Core.Bool.{Bool, true, false, cond}
use Prim.Native.Nat.{ℕ, zero, suc}
use native.Mathlib.Nat.{le_refl, le_trans, le_antisymm, not-suc-le-zero}
use native.Mathlib.Omega.{arith}
use borrow.Author.Tests.{leb-true, leb-false, le-leb}
use lib.IntN.{ℤ, pos, negsuc, suc_ℤ, pred_ℤ, ◌+ℤ◌, +ℤ-suc_ℤ, +ℤ-pred_ℤ, +ℤ_comm, +ℤ_idr}
use lib.Signed.{le_z}
use Rattle.levels.specs.Levels.{greater_of}

never : {A : Type 0} → false ≡ true → A
never e = absurd (let z : ◌≡◌ {A = ℕ} 0 1 = cc in omega arith)

pub le_z_refl : (a : ℤ) → le_z a a ≡ true
le_z_refl (pos a) = le-leb a a (le_refl a)
le_z_refl (negsuc a) = le-leb a a (le_refl a)

pub le_z_trans : (a b c : ℤ) → le_z a b ≡ true → le_z b c ≡ true → le_z a c ≡ true
le_z_trans (pos a) (pos b) (pos c) h k = le-leb a c (le_trans (leb-true a b h) (leb-true b c k))
le_z_trans (pos a) (pos b) (negsuc c) h k = never k
le_z_trans (pos a) (negsuc b) c h k = never h
le_z_trans (negsuc a) (pos b) (pos c) h k = refl
le_z_trans (negsuc a) (pos b) (negsuc c) h k = never k
le_z_trans (negsuc a) (negsuc b) (pos c) h k = refl
le_z_trans (negsuc a) (negsuc b) (negsuc c) h k = le-leb c a (le_trans (leb-true c b k) (leb-true b a h))

pub le_z_antisym : (a b : ℤ) → le_z a b ≡ true → le_z b a ≡ true → a ≡ b
le_z_antisym (pos a) (pos b) h k = ap pos (le_antisymm (leb-true a b h) (leb-true b a k))
le_z_antisym (pos a) (negsuc b) h k = never h
le_z_antisym (negsuc a) (pos b) h k = never k
le_z_antisym (negsuc a) (negsuc b) h k = ap negsuc (le_antisymm (leb-true a b k) (leb-true b a h))

le_z_total : (a b : ℤ) → le_z a b ≡ false → le_z b a ≡ true
le_z_total (pos a) (pos b) h = let l = leb-false a b h in le-leb b a (omega arith)
le_z_total (pos a) (negsuc b) h = refl
le_z_total (negsuc a) (pos b) h = never (sym h)
le_z_total (negsuc a) (negsuc b) h = let l = leb-false b a h in le-leb a b (omega arith)

le_z_suc : (a b : ℤ) → le_z a b ≡ true → le_z (suc_ℤ a) (suc_ℤ b) ≡ true
le_z_suc (pos a) (pos b) h = let l = leb-true a b h in le-leb (suc a) (suc b) (omega arith)
le_z_suc (pos a) (negsuc b) h = never h
le_z_suc (negsuc zero) (pos b) h = le-leb 0 (suc b) (omega arith)
le_z_suc (negsuc (suc a)) (pos b) h = refl
le_z_suc (negsuc zero) (negsuc zero) h = refl
le_z_suc (negsuc zero) (negsuc (suc b)) h = absurd (not-suc-le-zero (leb-true (suc b) 0 h))
le_z_suc (negsuc (suc a)) (negsuc zero) h = refl
le_z_suc (negsuc (suc a)) (negsuc (suc b)) h = let l = leb-true (suc b) (suc a) h in le-leb b a (omega arith)

le_z_pred : (a b : ℤ) → le_z a b ≡ true → le_z (pred_ℤ a) (pred_ℤ b) ≡ true
le_z_pred (pos zero) (pos zero) h = refl
le_z_pred (pos zero) (pos (suc b)) h = refl
le_z_pred (pos (suc a)) (pos zero) h = absurd (not-suc-le-zero (leb-true (suc a) 0 h))
le_z_pred (pos (suc a)) (pos (suc b)) h = let l = leb-true (suc a) (suc b) h in le-leb a b (omega arith)
le_z_pred (pos a) (negsuc b) h = never h
le_z_pred (negsuc a) (pos zero) h = le-leb 0 (suc a) (omega arith)
le_z_pred (negsuc a) (pos (suc b)) h = refl
le_z_pred (negsuc a) (negsuc b) h = let l = leb-true b a h in le-leb (suc b) (suc a) (omega arith)

pub le_z_add : (a b c : ℤ) → le_z a b ≡ true → le_z (a +ℤ c) (b +ℤ c) ≡ true
le_z_add a b (pos zero) h = rw (+ℤ_idr a, +ℤ_idr b) h
le_z_add a b (pos (suc n)) h = rw (+ℤ-suc_ℤ a (pos n), +ℤ-suc_ℤ b (pos n)) (le_z_suc (a +ℤ pos n) (b +ℤ pos n) (le_z_add a b (pos n) h))
le_z_add a b (negsuc zero) h =
    let e : le_z (a +ℤ pos 0) (b +ℤ pos 0) ≡ true = rw (+ℤ_idr a, +ℤ_idr b) h in
    rw (+ℤ-pred_ℤ a (pos 0), +ℤ-pred_ℤ b (pos 0)) (le_z_pred (a +ℤ pos 0) (b +ℤ pos 0) e)
le_z_add a b (negsuc (suc n)) h =
    rw (+ℤ-pred_ℤ a (negsuc n), +ℤ-pred_ℤ b (negsuc n)) (le_z_pred (a +ℤ negsuc n) (b +ℤ negsuc n) (le_z_add a b (negsuc n) h))

le_z_sum : (a b c d : ℤ) → le_z a b ≡ true → le_z c d ≡ true → le_z (a +ℤ c) (b +ℤ d) ≡ true
le_z_sum a b c d h k =
    let e : le_z (b +ℤ c) (b +ℤ d) ≡ true = rw (+ℤ_comm b c, +ℤ_comm b d) (le_z_add c d b k) in
    le_z_trans (a +ℤ c) (b +ℤ c) (b +ℤ d) (le_z_add a b c h) e

-- the greater of two is none below either
pub greater_left : (a b : ℤ) → le_z a (greater_of a b) ≡ true
greater_left a b = go (le_z a b) refl
  where
    go : (t : Bool) → le_z a b ≡ t → le_z a (cond t b a) ≡ true
    go true e = e
    go false e = le_z_refl a

pub greater_right : (a b : ℤ) → le_z b (greater_of a b) ≡ true
greater_right a b = go (le_z a b) refl
  where
    go : (t : Bool) → le_z a b ≡ t → le_z b (cond t b a) ≡ true
    go true e = le_z_refl b
    go false e = le_z_total a b e

-- sums of three with the same parts
pub sum_same : {a b c x y z : ℤ} → a ≡ x → b ≡ y → c ≡ z → a +ℤ b +ℤ c ≡ x +ℤ y +ℤ z
sum_same {a} {b} {c} {x} {y} {z} e h k = rw (e, h, k)

pub sum_above : (a b c x y z : ℤ) → a ≡ x → le_z b y ≡ true → le_z c z ≡ true → le_z (a +ℤ b +ℤ c) (x +ℤ y +ℤ z) ≡ true
sum_above a b c x y z e h k =
    let f : le_z a x ≡ true = rw e (le_z_refl x) in
    le_z_sum (a +ℤ b) (x +ℤ y) c z (le_z_sum a x b y f h) k
