-- A stored sample's bytes are read for no other sample, where strips do not overlap: so those of a sample outside the active area
-- are read for no active sample.
-- Assumes nothing.
use mathlib.Core.Path.{◌≡◌, refl, sym, ap}
use mathlib.Core.Bool.{Bool, true, false}
use mathlib.Core.List.{List}
use mathlib.Core.Logic.{◌⊎◌, ⊎_elim}
use Prim.Native.Nat.{ℕ, ◌+◌, ◌-◌, ◌*◌, ◌/◌, ◌%◌, ◌≤◌, ◌<◌, min}
use native.Mathlib.Nat.{mul-le-mul_right, add-mul, one-mul, div-add-mod'}
use native.Mathlib.Omega.{arith}
use lib.Dec.{ltb, eqb}
use lib.ListN.{get_or}
use borrow.Author.Tests.{ltb-true, ltb-false, eqb-true, eqb-false}
use Rattle.reading.specs.Reading.{covers}
use Rattle.reading.proofs.Unread.{Off, off_below, off_behind}
use Rattle.rawtags.specs.Facts.Area.{AreaWithin}
use Rattle.rawtags.specs.Strips.{strip_count, row_bytes}
use Rattle.raw.specs.Sample.{strip_of, within_strip, place_of, cell_of, ActiveIn}
use Rattle.rawtags.specs.declared.Tags.{Tags}
use Rattle.raw.proofs.TagFacts.{strip_below, line_below, sample_below}

-- so many more are as many times n more
above : (n x y : ℕ) → x < y → x * n + n ≤ y * n
above n x y h =
    let l : x + 1 ≤ y = omega arith in
    omega (arith, mul-le-mul_right n l, add-mul x 1 n, one-mul n)

-- two numbers by quotient and rest
digits : (n a b i k : ℕ) → i < n → k < n → a * n + i ≡ b * n + k → (a ≡ b) × (i ≡ k)
digits n a b i k hi hk e = go (ltb a b) refl (ltb b a) refl
  where
    go : (u : Bool) → ltb a b ≡ u → (v : Bool) → ltb b a ≡ v → (a ≡ b) × (i ≡ k)
    go true p v q = absurd (omega (arith, above n a b (ltb-true a b p)))
    go false p true q = absurd (omega (arith, above n b a (ltb-true b a q)))
    go false p false q =
        let s : a ≡ b = omega (arith, ltb-false a b p, ltb-false b a q) in
        let m : a * n ≡ b * n = ap (λ (x : ℕ). x * n) s in
        (s, omega arith)

-- two different ones of so many bytes each, one after another
row_apart : (at bytes x y i : ℕ) → (x ≡ y → ⊥) → at + x * bytes ≤ i → i < at + x * bytes + bytes → Off i (at + y * bytes) bytes
row_apart at bytes x y i d l h = go (ltb x y) refl
  where
    go : (b : Bool) → ltb x y ≡ b → Off i (at + y * bytes) bytes
    go true e = off_below i (at + y * bytes) bytes (omega (arith, above bytes x y (ltb-true x y e)))
    go false e =
        let g : y ≤ x = ltb-false x y e in
        let s : y < x = omega arith in
        off_behind i (at + y * bytes) bytes (omega (arith, above bytes y x s))

module _ (t : Tags) where
  -- a stored row, a stored column and a plane
  pub record StoredIn (r c p : ℕ) : Type 0 where
    pub row : r < t.frame.length
    pub column : c < t.frame.width
    pub plane : p < t.frame.samples

  -- the bytes of a strip
  abbrev pub strip_bytes : ℕ → ℕ
  strip_bytes s = min t.layout.rows (t.frame.length - t.layout.rows * s) * row_bytes t.frame t.layout

  -- no two strips overlap
  abbrev pub StripsApart : List ℕ → Type 0
  StripsApart offsets =
      (a b : ℕ) → a < strip_count t.frame t.layout → b < strip_count t.frame t.layout → (a ≡ b → ⊥) →
      (get_or offsets a 0 + strip_bytes a ≤ get_or offsets b 0) ⊎ (get_or offsets b 0 + strip_bytes b ≤ get_or offsets a 0)

  -- in a strip, a sample has a place of its own
  pub within_injective :
      (r c p r₀ c₀ p₀ : ℕ) → StoredIn r c p → StoredIn r₀ c₀ p₀ → strip_of t r ≡ strip_of t r₀ →
      ((r % t.layout.rows) * t.frame.width + c) * t.frame.samples + p
      ≡ ((r₀ % t.layout.rows) * t.frame.width + c₀) * t.frame.samples + p₀ →
      (r ≡ r₀) × (c ≡ c₀) × (p ≡ p₀)
  within_injective r c p r₀ c₀ p₀ h k s e =
      let n = t.layout.rows in
      let x = digits t.frame.samples _ _ p p₀ h.plane k.plane e in
      let y = digits t.frame.width (r % n) (r₀ % n) c c₀ h.column k.column x.0 in
      let m : r / n * n ≡ r₀ / n * n = ap (λ (z : ℕ). z * n) s in
      (omega (arith, div-add-mod' r n, div-add-mod' r₀ n, y.0), y.1, x.1)

  module _ (some_rows : 1 ≤ t.layout.rows) (offsets : List ℕ) where
    -- a sample's bytes lie in its strip
    within_strip_law : (r c p : ℕ) → StoredIn r c p → within_strip t r c p + t.layout.bytes ≤ strip_bytes (strip_of t r)
    within_strip_law r c p h =
        sample_below (r % t.layout.rows) _ t.frame.width c t.frame.samples p t.layout.bytes
        (line_below r t.layout.rows t.frame.length h.row some_rows) h.column h.plane

    -- a byte of a stored sample is no byte of another one of its strip
    pub strip_unread :
        (r c p r₀ c₀ p₀ : ℕ) → StoredIn r c p → StoredIn r₀ c₀ p₀ → strip_of t r ≡ strip_of t r₀ →
        ((r ≡ r₀) × (c ≡ c₀) × (p ≡ p₀) → ⊥) → (i : ℕ) → place_of t offsets r₀ c₀ p₀ ≤ i →
        i < place_of t offsets r₀ c₀ p₀ + t.layout.bytes → Off i (place_of t offsets r c p) t.layout.bytes
    strip_unread r c p r₀ c₀ p₀ h k s other i l u =
        let at : get_or offsets (strip_of t r) 0 ≡ get_or offsets (strip_of t r₀) 0 = ap (λ (x : ℕ). get_or offsets x 0) s in
        row_apart (get_or offsets (strip_of t r) 0) t.layout.bytes
        (((r₀ % t.layout.rows) * t.frame.width + c₀) * t.frame.samples + p₀)
        (((r % t.layout.rows) * t.frame.width + c) * t.frame.samples + p) i
        (λ e. other (within_injective r c p r₀ c₀ p₀ h k s (sym e))) (omega arith) (omega arith)

    -- nor of another one at all
    pub other_sample_unread :
        StripsApart offsets → (r c p r₀ c₀ p₀ : ℕ) → StoredIn r c p → StoredIn r₀ c₀ p₀ →
        ((r ≡ r₀) × (c ≡ c₀) × (p ≡ p₀) → ⊥) → (i : ℕ) → place_of t offsets r₀ c₀ p₀ ≤ i →
        i < place_of t offsets r₀ c₀ p₀ + t.layout.bytes → Off i (place_of t offsets r c p) t.layout.bytes
    other_sample_unread apart r c p r₀ c₀ p₀ h k other i l u = go (eqb (strip_of t r) (strip_of t r₀)) refl
      where
        go : (b : Bool) → eqb (strip_of t r) (strip_of t r₀) ≡ b → Off i (place_of t offsets r c p) t.layout.bytes
        go true e = strip_unread r c p r₀ c₀ p₀ h k (eqb-true _ _ e) other i l u
        go false e =
            let n = t.layout.rows in
            let a = within_strip_law r c p h in
            let b = within_strip_law r₀ c₀ p₀ k in
            ⊎_elim (λ q. off_behind i (place_of t offsets r c p) t.layout.bytes (omega (arith, a, b)))
            (λ q. off_below i (place_of t offsets r c p) t.layout.bytes (omega (arith, a, b)))
            (apart (strip_of t r) (strip_of t r₀) (strip_below r n t.frame.length h.row some_rows)
            (strip_below r₀ n t.frame.length k.row some_rows) (eqb-false _ _ e))

    module _ (area : AreaWithin t.frame t.area) where
      -- an active sample is a stored one
      active_stored : (r c p : ℕ) → ActiveIn t r c p → StoredIn (t.area.top + r) (t.area.left + c) p
      active_stored r c p a =
          record {
            row = omega (arith, a.row, area.rows, area.bottom);
            column = omega (arith, a.column, area.columns, area.right);
            plane = a.plane;
          }

      -- a byte of a stored sample is read for no other active sample
      pub sample_unread :
          StripsApart offsets → (r₀ c₀ p₀ : ℕ) → StoredIn r₀ c₀ p₀ → (i : ℕ) → place_of t offsets r₀ c₀ p₀ ≤ i →
          i < place_of t offsets r₀ c₀ p₀ + t.layout.bytes → (r c p : ℕ) → ActiveIn t r c p →
          ((t.area.top + r ≡ r₀) × (t.area.left + c ≡ c₀) × (p ≡ p₀) → ⊥) → covers (cell_of t offsets r c p) i ≡ false
      sample_unread apart r₀ c₀ p₀ k i l u r c p a other =
          other_sample_unread apart (t.area.top + r) (t.area.left + c) p r₀ c₀ p₀ (active_stored r c p a) k other i l u

      -- one of a sample outside the active area for none
      pub outside_unread :
          StripsApart offsets → (r₀ c₀ p₀ : ℕ) → StoredIn r₀ c₀ p₀ →
          (t.area.top ≤ r₀ → r₀ < t.area.bottom → t.area.left ≤ c₀ → c₀ < t.area.right → ⊥) →
          (i : ℕ) → place_of t offsets r₀ c₀ p₀ ≤ i → i < place_of t offsets r₀ c₀ p₀ + t.layout.bytes →
          (r c p : ℕ) → ActiveIn t r c p → covers (cell_of t offsets r c p) i ≡ false
      outside_unread apart r₀ c₀ p₀ k out i l u r c p a =
          sample_unread apart r₀ c₀ p₀ k i l u r c p a (λ e.
          let er : t.area.top + r ≡ r₀ = e.0 in
          let ec : t.area.left + c ≡ c₀ = e.1 in
          out (omega arith) (omega (arith, a.row, area.rows)) (omega arith) (omega (arith, a.column, area.columns)))
