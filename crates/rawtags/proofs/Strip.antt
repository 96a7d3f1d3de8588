-- The strips, one at a time.
-- Assumes nothing.
use Rattle.directory.specs.Names.{strip_byte_counts, strip_offsets}
use mathlib.Core.Path.{◌≡◌, refl, sym, ap, subst, ◌∙◌}
use mathlib.Core.Bool.{Bool, true, false}
use mathlib.Core.List.{List}
use Prim.Native.Nat.{ℕ, zero, suc, ◌+◌, ◌*◌, ◌-◌, ◌/◌, ◌≤◌, ◌<◌, min}
use native.Mathlib.Nat.{mul-suc, add-div_right}
use native.Mathlib.Numerals.{add-one}
use native.Mathlib.Omega.{arith}
use lib.Dec.{eqb, leb}
use borrow.Author.Tests.{eq-eqb, ne_eqb, le-leb, lt-leb, eqb-true, eqb-false, leb-true, leb-false}
use Rattle.reading.specs.Bytes.{part}
use Rattle.reading.specs.Number.{number_of}
use Rattle.reading.specs.Reading.{run}
use Rattle.reading.specs.declared.number.Order.{Order}
use Rattle.reading.proofs.Reading.{running, run_answer}
use Rattle.directory.specs.Out.{Out.refused, Out.is}
use Rattle.rawtags.specs.Strips.{strip_from}
use Rattle.directory.proofs.Outs.{not_refused}

-- "length / rows per strip, rounded up": the same as (length + rows - 1) / rows, which is more than a word for great rows
rounded_up : (n r : ℕ) → 1 ≤ n → 1 ≤ r → (n - 1) / r + 1 ≡ (n + r - 1) / r
rounded_up n r h k =
    let e : n - 1 + r ≡ n + r - 1 = omega arith in
    sym (add-div_right (n - 1) k) ∙ ap (λ (m : ℕ). m / r) e

pub some_strips : (n r : ℕ) → 0 < (n - 1) / r + 1
some_strips n r = omega arith

module _ (f : List ℕ) (size : ℕ) (o : Order) (wide broad rows row p q rest : ℕ) where
  pub strip_none : is 0 ≡ run f (strip_from size o wide broad rows row 0 p q rest)
  unfolding strip_from
  strip_none = sym (run_answer f (is 0))

  module _ (n m : ℕ) (s : n ≡ m + 1) (h : ℕ) (eh : h ≡ min rows rest) (b : ℕ) (eb : b ≡ number_of o (part f q broad)) where
    pub strip_bytes_law : (b ≡ h * row → ⊥) → refused 4 strip_byte_counts ≡ run f (strip_from size o wide broad rows row n p q rest)
    unfolding strip_from
    strip_bytes_law e = rw (s, add-one m) (simp (running, ← eb, ← eh, ne_eqb _ _ e))

    module _ (e : b ≡ h * row) (a : ℕ) (ea : a ≡ number_of o (part f p wide)) where
      pub strip_outside : size < a + b → refused 4 strip_offsets ≡ run f (strip_from size o wide broad rows row n p q rest)
      unfolding strip_from
      strip_outside l = rw (s, add-one m) (simp (running, ← eb, ← eh, eq-eqb _ _ e, ← ea, lt-leb _ _ l))

      pub strip_next : a + b ≤ size →
          run f (strip_from size o wide broad rows row n p q rest) ≡ run f
          (strip_from size o wide broad rows row m (p + wide) (q + broad) (rest - h))
      unfolding strip_from
      strip_next l = rw (s, add-one m) (simp (running, ← eb, ← eh, eq-eqb _ _ e, ← ea, le-leb _ _ l))

module _ (f : List ℕ) (size : ℕ) (o : Order) (wide broad rows row z : ℕ) where
  strip_step : (n p q rest : ℕ) → is z ≡ run f (strip_from size o wide broad rows row (suc n) p q rest) →
      (number_of o (part f p wide) + min rows rest * row ≤ size)
      × (is z ≡ run f (strip_from size o wide broad rows row n (p + wide) (q + broad) (rest - min rows rest)))
  strip_step n p q rest t = go (eqb (number_of o (part f q broad)) (min rows rest * row))
      (leb (number_of o (part f p wide) + number_of o (part f q broad)) size) refl refl
    where
      go : (u v : Bool) → eqb (number_of o (part f q broad)) (min rows rest * row) ≡ u →
          leb (number_of o (part f p wide) + number_of o (part f q broad)) size ≡ v →
          (number_of o (part f p wide) + min rows rest * row ≤ size)
          × (is z ≡ run f (strip_from size o wide broad rows row n (p + wide) (q + broad) (rest - min rows rest)))
      go false v e l = absurd (not_refused z 4 strip_byte_counts
          (t ∙ sym (strip_bytes_law f size o wide broad rows row p q rest (suc n) n (omega arith) _ refl _ refl (eqb-false _ _ e))))
      go true false e l = absurd (not_refused z 4 strip_offsets
          (t ∙ sym (strip_outside f size o wide broad rows row p q rest (suc n) n (omega arith) _ refl _ refl (eqb-true _ _ e) _ refl
          (leb-false _ _ l))))
      go true true e l =
          let h = eqb-true _ _ e in (
            subst (λ m. number_of o (part f p wide) + m ≤ size) h (leb-true _ _ l),
            t
                ∙ strip_next f size o wide broad rows row p q rest (suc n) n (omega arith) _ refl _ refl h _ refl (leb-true _ _ l),
          )

  pub strip_in : (n i p q rest : ℕ) → is z ≡ run f (strip_from size o wide broad rows row n p q rest) → i < n →
      number_of o (part f (p + wide * i) wide) + min rows (rest - rows * i) * row ≤ size
  strip_in zero i p q rest t h = absurd (omega arith)
  strip_in (suc n) zero p q rest t h =
      let e : p + wide * 0 ≡ p = omega arith in
      let g : rest - rows * 0 ≡ rest = omega arith in
      rw (e, g) (strip_step n p q rest t).0
  strip_in (suc n) (suc i) p q rest t h =
      let a = mul-suc wide i in
      let b = mul-suc rows i in
      let e : p + wide * suc i ≡ p + wide + wide * i = omega arith in
      let g : rest - rows * suc i ≡ rest - min rows rest - rows * i = omega arith in
      rw (e, g) (strip_in n i (p + wide) (q + broad) (rest - min rows rest) (strip_step n p q rest t).1 (omega arith))
