-- Laws of entries: sizes, products that fit, the types that the rules speak of, and the fields in the file.
-- Assumes nothing.
use mathlib.Core.Path.{◌≡◌, refl, sym, ap, subst, ◌∙◌}
use mathlib.Core.Bool.{Bool, true, false, ◌&&◌}
use mathlib.Core.List.{List, [], ◌∷◌}
use mathlib.Core.Logic.{◌⊎◌, inl, inr, ⊎_elim}
use Prim.Native.Nat.{ℕ, zero, suc, ◌+◌, ◌-◌, ◌*◌, ◌≤◌, ◌<◌, min, zero-le}
use native.Mathlib.Nat.{mul-le-mul, zero-mul, suc-mul, min-le_right, min-eq_left}
use native.Mathlib.Omega.{arith}
use lib.Dec.{T, eqb, leb, leb→le}
use borrow.Author.Tests.{eqb-true, eqb-false, leb-true, leb-false, eq-eqb, ne_eqb, le-leb, lt-leb}
use lib.Ieee.Fits.{and_l, and_r}
use lib.ListN.{get_or, get_or-map}
use Rattle.reading.specs.Bytes.{part}
use Rattle.reading.specs.Number.{number_of}
use Rattle.reading.specs.Facts.Number.{Wide}
use Rattle.reading.specs.declared.number.Order.{Order}
use Rattle.reading.proofs.Bytes.{part_part}
use Rattle.reading.proofs.Reading.{pick_yes, pick_no}
use Rattle.directory.specs.Widths.{head_width, entry_width}
use Rattle.directory.specs.Entry.{kinds, kind_of, code_of, plain_of, sizes, kind_width, entry_of}
use Rattle.directory.specs.declared.Widths.{Widths}
use Rattle.directory.specs.declared.entry.Kind.{Kind}
use Rattle.directory.specs.declared.entry.Kind.TheVariants as kind
use Rattle.directory.specs.declared.entry.Entry.{Entry}

all_to : ℕ → List ℕ → Bool
all_to n [] = true
all_to n (x ∷ xs) = leb x n && all_to n xs

at_most : (n : ℕ) (l : List ℕ) → T (all_to n l) → (i : ℕ) → get_or l i 0 ≤ n
unfolding all_to
at_most n [] t i = zero-le
at_most n (x ∷ xs) t zero = leb→le x n (and_l (leb x n) (all_to n xs) t)
at_most n (x ∷ xs) t (suc i) = at_most n xs (and_r (leb x n) (all_to n xs) t) i

pub size_listed : (t : ℕ) → get_or sizes t 0 ≤ 8
unfolding all_to
size_listed t = at_most 8 sizes tt t

-- the bytes of one value by the type's number, where the layout knows it
pub size_known : (types t : ℕ) → t ≤ types → get_or sizes t 0 ≡ kind_width (kind_of types t)
unfolding kind_of kind_width
size_known types t h = rw (le-leb _ _ h, pick_yes) (get_or-map kind_width kinds t kind.Unknown)

pub size_unknown : (types t : ℕ) → types < t → 0 ≡ kind_width (kind_of types t)
unfolding kind_of kind_width
size_unknown types t h = rw (lt-leb _ _ h, pick_no)

pub wide_most : (s : ℕ) → Wide s → s ≤ 8
wide_most s h = ⊎_elim (λ e. omega arith) (λ q. ⊎_elim (λ e. omega arith) (λ e. omega arith) q) h

pub entry_most : (w : Widths) → Wide w.word → entry_width w ≤ 20
entry_most w h = omega (arith, wide_most w.word h)

-- ---- whether so many fit
pub product_most : (s n cap c : ℕ) → c ≡ min n cap → s ≤ 20 → s * c ≤ 20 * cap
product_most s n cap c e h = rw e (mul-le-mul h (min-le_right n cap))

-- of more than there is room for, only those that have no bytes fit
over : (s n room : ℕ) → room < n → leb (s * n) room ≡ eqb s 0
over zero n room h = let l : 0 ≤ room = zero-le in rw (zero-mul n) (le-leb 0 room l)
over (suc s) n room h =
    let l : room < suc s * n = omega (arith, suc-mul s n) in
    let z : suc s ≡ 0 → ⊥ = λ e. absurd (omega arith) in
    lt-leb _ _ l ∙ sym (ne_eqb _ _ z)

-- and a number past the room is as good as any other
pub capped : (s n room cap c : ℕ) → c ≡ min n cap → room < cap → leb (s * c) room ≡ leb (s * n) room
capped s n room cap c q h = go (leb n cap) refl
  where
    go : (b : Bool) → leb n cap ≡ b → leb (s * c) room ≡ leb (s * n) room
    go true e = ap (λ (m : ℕ). leb (s * m) room) (q ∙ min-eq_left (leb-true _ _ e))
    go false e =
        let l : cap < n = leb-false _ _ e in
        let m : room < c = omega (arith, q) in
        over s c room m ∙ sym (over s n room (omega arith))

-- ---- the types that the rules speak of
pub plain_long : (k : Kind) → code_of k ≡ 16 → 4 ≡ plain_of k
unfolding plain_of
plain_long k e = sym (simp (eq-eqb _ _ e, pick_yes))

module _ (k : Kind) (n : code_of k ≡ 16 → ⊥) where
  pub plain_ifd : code_of k ≡ 18 → 13 ≡ plain_of k
  unfolding plain_of
  plain_ifd e = sym (simp (ne_eqb _ _ n, eq-eqb _ _ e, pick_yes, pick_no))

  pub plain_other : (code_of k ≡ 18 → ⊥) → code_of k ≡ plain_of k
  unfolding plain_of
  plain_other m = sym (simp (ne_eqb _ _ n, ne_eqb _ _ m, pick_no))

-- a type is the one that the rules speak of, or LONG8 for LONG, or IFD8 for IFD
pub plain_is : (k : Kind) (a : ℕ) → plain_of k ≡ a → (code_of k ≡ a) ⊎ (((code_of k ≡ 16) × (a ≡ 4)) ⊎ ((code_of k ≡ 18) × (a ≡ 13)))
plain_is k a e = go (eqb (code_of k) 16) refl (eqb (code_of k) 18) refl
  where
    go : (b : Bool) → eqb (code_of k) 16 ≡ b → (d : Bool) → eqb (code_of k) 18 ≡ d →
        (code_of k ≡ a) ⊎ (((code_of k ≡ 16) × (a ≡ 4)) ⊎ ((code_of k ≡ 18) × (a ≡ 13)))
    go true p d q = let z = eqb-true _ _ p in inr (inl (z, sym (plain_long k z ∙ e)))
    go false p true q = let z = eqb-true _ _ q in inr (inr (z, sym (plain_ifd k (eqb-false _ _ p) z ∙ e)))
    go false p false q = inl (plain_other k (eqb-false _ _ p) (eqb-false _ _ q) ∙ e)

-- what a test of values of a size says of a type's values
module _ (bytes : ℕ → ℕ) (k : Kind) (s room : ℕ) (b : Bool) (e : s ≡ kind_width k) (t : b ≡ leb (bytes s) room) where
  pub fit : b ≡ true → bytes (kind_width k) ≤ room
  fit y = subst (λ (m : ℕ). bytes m ≤ room) e (leb-true _ _ (sym t ∙ y))

  pub unfit : b ≡ false → room < bytes (kind_width k)
  unfit y = subst (λ (m : ℕ). room < bytes m) e (leb-false _ _ (sym t ∙ y))

-- one more of a size lies in a length, and so do the others after it
abbrev pub OneMore : ℕ → ℕ → ℕ → ℕ → Type 0
OneMore p size n len = (p + size ≤ len) × (p + size + size * (n - 1) ≤ len)

pub one_more : (p size n len : ℕ) → 0 < n → p + size * n ≤ len → OneMore p size n len
one_more p size n len s l =
    let e : n ≡ n - 1 + 1 = omega arith in
    let z : size * (n - 1 + 1) ≡ size * (n - 1) + size = omega arith in
    let y : size * n ≡ size * (n - 1 + 1) = ap (λ (m : ℕ). size * m) e in
    (omega arith, omega arith)

-- the same with a name for how many are left
pub one_further : (p size n m len : ℕ) → n ≡ m + 1 → p + size * n ≤ len → (p + size ≤ len) × (p + size + size * m ≤ len)
one_further p size n m len e l =
    let y : size * n ≡ size * (m + 1) = ap (λ (k : ℕ). size * k) e in
    (omega arith, omega arith)

-- ---- the fields of an entry, in the file
module _ (w : Widths) (f : List ℕ) (o : Order) (at : ℕ) where
  field : (i n : ℕ) → i + n ≤ head_width w → number_of o (part (part f at (head_width w)) i n) ≡ number_of o (part f (at + i) n)
  field i n h = ap (number_of o) (part_part f at (head_width w) i n h)

  pub head_tag : (entry_of w o (part f at (head_width w))).tag ≡ number_of o (part f at 2)
  unfolding entry_of
  head_tag = let z : at + 0 ≡ at = omega arith in field 0 2 (omega arith) ∙ ap (λ (p : ℕ). number_of o (part f p 2)) z

  pub header_at : (t n : ℕ) (k : Kind) →
      t ≡ number_of o (part f at 2) → k ≡ kind_of w.types (number_of o (part f (at + 2) 2)) → n ≡ number_of o (part f (at + 4) w.word) →
      ◌≡◌ {A = Entry} (record { tag = t; kind = k; count = n }) (entry_of w o (part f at (head_width w)))
  unfolding entry_of
  header_at t n k et ek en =
      let p = et ∙ sym head_tag in
      let q = ek ∙ ap (kind_of w.types) (sym (field 2 2 (omega arith))) in
      let r = en ∙ sym (field 4 w.word (omega arith)) in
      λ i. record { tag = p i; kind = q i; count = r i }
