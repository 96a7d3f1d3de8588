-- The clip by two comparisons, each with its own choice.
-- Assumes nothing.
use Rattle.std.proofs.Common.{◌≡◌, ℕ, ◌*◌, ◌<◌, ◌≤◌, Bool, true, false, ◌&&◌, ◌||◌, eqb, ltb, ℤ, sym, refl, subst, ⊎_elim, true≢false, one-mul}
use Rattle.std.proofs.Common.{zero-mul, arith, ltb-false, le-ltb, lt-ltb, eq-eqb, ne_eqb}
use lib.Ieee.{Float, nan, inf, fin, up, down, lt, le, eq}
use lib.Ieee.Fits.{down_pos}
use Rattle.levels.specs.Clip.{clip_of, plus_zero, one}
use Rattle.reading.proofs.Wholes.{le_or_lt}

-- q is at most p
at_most : (p q : ℕ) → q ≤ p → (ltb q p || (eqb q p && true)) ≡ true
at_most p q h = ⊎_elim (λ l. rw (le-ltb q p l, eq-eqb q p (omega arith)) refl) (λ l. rw (lt-ltb q p l) refl) (le_or_lt p q)

-- above 0 and not below 1 is at least 1
pub at_least : (x : Float) → lt plus_zero x ≡ true → lt x one ≡ false → le one x ≡ true
unfolding lt eq le
at_least nan a b = absurd (true≢false (sym a))
at_least (inf false) a b = refl
at_least (inf true) a b = absurd (true≢false (sym a))
at_least (fin true m e) a b = absurd (true≢false (sym a))
at_least (fin false m e) a b = at_most (m * up e * 1) (1 * down e) (ltb-false (m * up e * 1) (1 * down e) b)

down_positive : (e : ℤ) → 0 < 1 * down e
down_positive e = omega (arith, one-mul (down e), down_pos e)

and_no : (a b : Bool) → b ≡ false → (a && b) ≡ false
and_no true b h = h
and_no false b h = refl

-- not above 0 is not at least 1
pub not_least : (x : Float) → lt plus_zero x ≡ false → le one x ≡ false
unfolding lt eq le
not_least nan a = refl
not_least (inf false) a = absurd (true≢false a)
not_least (inf true) a = refl
not_least (fin true m e) a =
    and_no (eqb (1 * down e) (m * up e * 1)) (eqb (1 * down e) 0) (ne_eqb (1 * down e) 0 (λ h. omega (arith, down_positive e)))
not_least (fin false m e) a =
    let h : m * up e * 1 ≤ 0 * down e = ltb-false (0 * down e) (m * up e * 1) a in
    let l : m * up e * 1 ≤ 1 * down e = omega (arith, zero-mul (down e), down_positive e) in
    let n : 1 * down e ≡ m * up e * 1 → ⊥ = λ q. omega (arith, zero-mul (down e), down_positive e) in
    rw (le-ltb (1 * down e) (m * up e * 1) l, ne_eqb (1 * down e) (m * up e * 1) n) refl

-- ---- the clip by its two comparisons
module _ (x y : Float) where
  pub clip_inside : lt plus_zero x ≡ true → y ≡ x → lt y one ≡ true → y ≡ clip_of x
  unfolding clip_of
  clip_inside a e b = let b' : lt x one ≡ true = rw (← e) b in rw (a, b') e

  pub clip_under : lt plus_zero x ≡ false → y ≡ plus_zero → y ≡ clip_of x
  unfolding clip_of
  clip_under a e = rw (a, not_least x a) e

  pub clip_over : lt plus_zero x ≡ true → y ≡ x → lt y one ≡ false → one ≡ clip_of x
  unfolding clip_of
  clip_over a e b = let b' : lt x one ≡ false = rw (← e) b in rw (a, b', at_least x a b') refl

  pub zero_not_over : y ≡ plus_zero → lt y one ≡ false → ⊥
  unfolding lt
  zero_not_over e b = true≢false (subst (λ (z : Float). lt z one ≡ false) e b)
