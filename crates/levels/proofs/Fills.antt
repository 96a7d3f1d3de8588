-- A loop that fills the first places of a list of black levels.
-- Assumes nothing.
use mathlib.Core.Path.{◌≡◌, refl, sym, ap, ◌∙◌}
use mathlib.Core.Bool.{Bool, true, false}
use mathlib.Core.List.{List}
use Prim.Native.Nat.{ℕ, zero, suc, ◌+◌, ◌≤◌, ◌<◌}
use native.Mathlib.Omega.{arith}
use borrow.Author.Tests.{eqb-true, eqb-false}
use lib.Dec.{eqb}
use lib.IntN.{ℤ, pos, nat_abs}
use lib.ListN.{length, get_or, set, replicate, length-set}
use lib.Seq.{get_or-set_same, get_or-set_other}
use Rattle.levels.specs.Facts.Black.{most_black, Small}

pub record Filled (g : ℕ → ℤ) (j : ℕ) (old new : List ℤ) : Type 0 where
  pub same : length new ≡ length old
  pub below : (k : ℕ) → k < j → get_or new k (pos 0) ≡ g k
  pub small : Small new

module _ (g : ℕ → ℤ) where
  pub fill_start : (xs : List ℤ) → Small xs → Filled g 0 xs xs
  fill_start xs s = record { same = refl; below = λ k h. absurd (omega arith); small = s }

  pub fill_step : (j : ℕ) (old new : List ℤ) (v : ℤ) → j < length old → v ≡ g j → nat_abs v ≤ most_black →
      Filled g j old new → Filled g (j + 1) old (set new j v)
  fill_step j old new v h e s w =
      record { same = length-set new j v ∙ w.same; below = λ k b. below k b (eqb k j) refl; small = λ k. small k (eqb k j) refl }
    where
      here : (k : ℕ) → k ≡ j → get_or (set new j v) k (pos 0) ≡ v
      here k q = rw q (get_or-set_same new j v (pos 0) (omega (arith, w.same)))

      below : (k : ℕ) → k < j + 1 → (t : Bool) → eqb k j ≡ t → get_or (set new j v) k (pos 0) ≡ g k
      below k b true q = let q : k ≡ j = eqb-true k j q in here k q ∙ e ∙ ap g (sym q)
      below k b false q =
          let n : k ≡ j → ⊥ = eqb-false k j q in
          let l : k < j = omega arith in
          get_or-set_other new j k v (pos 0) n ∙ w.below k l

      small : (k : ℕ) (t : Bool) → eqb k j ≡ t → nat_abs (get_or (set new j v) k (pos 0)) ≤ most_black
      small k true q = rw (here k (eqb-true k j q)) s
      small k false q = rw (get_or-set_other new j k v (pos 0) (eqb-false k j q)) (w.small k)

  pub fill_end : (j count : ℕ) (old new : List ℤ) → count ≤ j → Filled g j old new →
      ((k : ℕ) → k < count → get_or new k (pos 0) ≡ g k) × Small new
  fill_end j count old new h w = (λ k b. w.below k (omega arith), w.small)

-- zeros
pub zeros_at : (n k : ℕ) → get_or (replicate n (pos 0)) k (pos 0) ≡ pos 0
zeros_at zero k = refl
zeros_at (suc n) zero = refl
zeros_at (suc n) (suc k) = zeros_at n k

pub zeros_small : (n : ℕ) → Small (replicate n (pos 0))
zeros_small n k = rw (zeros_at n k) (omega arith)
