-- `a.max(b)` is the greater of two blacks.
-- Assumes nothing.
use mathlib.Core.Path.{◌≡◌, refl, ap, ◌∙◌}
use mathlib.Core.Bool.{Bool, true, false, cond}
use Prim.Native.Nat.{ℕ, ◌+◌, ◌≤◌, ◌<◌}
use native.Mathlib.Omega.{arith}
use Rattle.std.proofs.lemmas.Int.{ints}
use lib.IntN.{ℤ, nat_abs}
use lib.Signed.{le_z}
use Rattle.std.specs.Prelude.{int_lt}
use Rattle.std.specs.Int.{int_max}
use Rattle.levels.specs.Levels.{greater_of}
use Rattle.levels.proofs.Maxima.{Folded, fold_step}

greater_is : (a b : ℤ) → int_max a b ≡ greater_of a b
greater_is a b = by (int_lt b a) (le_z a b) refl refl
  where
    by : (t u : Bool) → int_lt b a ≡ t → le_z a b ≡ u → cond t a b ≡ cond u b a
    by true true e h = omega (arith, ints)
    by true false e h = refl
    by false true e h = refl
    by false false e h = omega (arith, ints)

max_small : (a b : ℤ) (m : ℕ) → nat_abs a ≤ m → nat_abs b ≤ m → nat_abs (int_max a b) ≤ m
max_small a b m h k = by (int_lt b a)
  where
    by : (t : Bool) → nat_abs (cond t a b) ≤ m
    by true = h
    by false = k

-- one more of a family is looked at: the greatest so far and the next as the code holds them
pub fold_max : (f : ℕ → ℤ) (n i : ℕ) {a b : ℤ} (best next found : ℤ) (m : ℕ) → Folded f n i best × (nat_abs best ≤ m) → i < n →
    (next ≡ f i) × (nat_abs next ≤ m) → a ≡ best → b ≡ next → found ≡ int_max a b → Folded f n (i + 1) found × (nat_abs found ≤ m)
fold_max f n i {a} {b} best next found m s h e p q g =
    let k : found ≡ int_max best next = g ∙ ap (λ (z : ℤ). int_max z b) p ∙ ap (λ (z : ℤ). int_max best z) q in
    (fold_step f n i best next found s.0 h e.0 (k ∙ greater_is best next), rw k (max_small best next m s.1 e.1))
