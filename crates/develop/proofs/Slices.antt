-- A window's slice, place by place.
-- Assumes nothing.
use mathlib.Core.Path.{◌≡◌, refl, sym, ap, ◌∙◌}
use mathlib.Core.Bool.{Bool, true, false}
use Prim.Native.Nat.{ℕ, ◌+◌, ◌*◌, ◌/◌, ◌%◌, ◌≤◌, ◌<◌}
use native.Mathlib.Nat.{mul_assoc, add-mul, div-lt_iff_lt-mul, div-add-mod', mod-lt}
use native.Mathlib.Omega.{arith}
use lib.Dec.{ltb}
use lib.Ieee.{Float}
use lib.ListN.{get_or, get_or-eq_default}
use borrow.Author.Tests.{ltb-true, ltb-false}
use Rattle.develop.specs.Calls.{values_of, slot_row, slot_column}
use Rattle.develop.proofs.Windows.{some_of, window_length, values_at_law}

-- a place of h rows of w pixels of n values: its row, its pixel there and its value of the pixel
pub record PlaceIn (h w n k : ℕ) : Type 0 where
  pub row : k / n / w < h
  pub column : k / n % w < w
  pub plane : k % n < n

pub place_in : (h w n k : ℕ) → k < h * (w * n) → PlaceIn h w n k
place_in h w n k b =
    let m : k < h * w * n = omega (arith, mul_assoc h w n) in
    let some : 0 < n = some_of (h * w) n k m in
    let i : k / n < h * w = (div-lt_iff_lt-mul some).1 m in
    let wide : 0 < w = some_of h w (k / n) i in
    record { row = (div-lt_iff_lt-mul wide).1 i; column = mod-lt (k / n) wide; plane = mod-lt k some }

place_is : (w n k : ℕ) → k / n / w * (w * n) + (k / n % w * n + k % n) ≡ k
place_is w n k =
    let i = div-add-mod' (k / n) w in
    let j = div-add-mod' k n in
    let m : (k / n / w * w + k / n % w) * n ≡ k / n * n = ap (λ (x : ℕ). x * n) i in
    omega (arith, add-mul (k / n / w * w) (k / n % w) n, mul_assoc (k / n / w) w n)

module _ (x y : ℕ → ℕ → ℕ → Float) (t l h w n k : ℕ) (d : Float) where
  values_place : (z : ℕ → ℕ → ℕ → Float) → k < h * (w * n) →
      get_or (values_of z t l h w n) k d ≡ z (slot_row t w n k) (slot_column l w n k) (k % n)
  values_place z b =
      let p = place_in h w n k b in
      ap (λ (i : ℕ). get_or (values_of z t l h w n) i d) (sym (place_is w n k))
      ∙ values_at_law z t l h w n (k / n / w) (k / n % w) (k % n) d p.row p.column p.plane

  -- two windows agree in a place where their functions do
  pub place_same : (PlaceIn h w n k → x (slot_row t w n k) (slot_column l w n k) (k % n) ≡ y (slot_row t w n k) (slot_column l w n k) (k % n)) →
      get_or (values_of x t l h w n) k d ≡ get_or (values_of y t l h w n) k d
  place_same e = go (ltb k (h * (w * n))) refl
    where
      past : (z : ℕ → ℕ → ℕ → Float) → h * (w * n) ≤ k → get_or (values_of z t l h w n) k d ≡ d
      past z b = get_or-eq_default (values_of z t l h w n) d (omega (arith, window_length z t l h w n))

      go : (b : Bool) → ltb k (h * (w * n)) ≡ b → get_or (values_of x t l h w n) k d ≡ get_or (values_of y t l h w n) k d
      go true q = let b = ltb-true _ _ q in values_place x b ∙ e (place_in h w n k b) ∙ sym (values_place y b)
      go false q = let b = ltb-false _ _ q in past x b ∙ sym (past y b)
