-- The list's definitions by the code's tests.
-- Assumes nothing.
use Rattle.std.proofs.Common.{◌≡◌, ℕ, suc, ◌+◌, ◌-◌, ◌*◌, ◌%◌, ◌<◌, ◌≤◌, Bool, true, false, not, ◌&&◌, ◌||◌, eqb, leb, ◌⊎◌, List, length, sym, refl}
use Rattle.std.proofs.Common.{ap, ◌∙◌, inl, inr, true≢false, arith, ltb-true, eqb-true, le-leb, leb-true}
use lib.Seq.{take-length}
use borrow.Author.Tests.{lt-leb}
use Rattle.std.specs.Prelude.{Option, Some, None, Float}
use Rattle.std.specs.Option.{is_some}
use Rattle.reading.specs.Bytes.{part}
use Rattle.reading.specs.Reading.{pick}
use Rattle.reading.specs.Number.{number_of}
use Rattle.reading.specs.declared.number.Order.TheVariants.{Big}
use Rattle.reading.proofs.Bytes.{part_part}
use Rattle.opcodes.specs.Grid.{long_of, grid_of, fits_of}
use Rattle.opcodes.specs.Facts.Grid.{FitsIn}
use Rattle.opcodes.specs.OpcodeList.{listed_id, class_of, count_of, rows_of, columns_of, table_form, polynomial_form, lines_form, form_of}
use Rattle.opcodes.specs.OpcodeList.{refused_real, refused_at, refused_in, exact_of, plain_fault}
use Rattle.opcodes.specs.declared.grid.Size.{Size}
use Rattle.opcodes.specs.declared.grid.Grid.{Grid}
use Rattle.opcodes.specs.declared.list.Header.{Header}
use Rattle.opcodes.specs.declared.list.Form.{Form}
use Rattle.opcodes.specs.declared.list.Class.TheVariants as class

module _ (h : Header) where
  pub class_carried : listed_id h.id ≡ true → leb h.version 0x01070100 ≡ true → class.Carried ≡ class_of h
  unfolding class_of pick
  class_carried a b = rw (a, b)

  -- newer, or not listed
  pub class_other :
      {l : Bool} → l ≡ listed_id h.id → ((l ≡ true) × (0x01070100 < h.version)) ⊎ (l ≡ false) → (b : Bool) → eqb (h.flags % 2) 1 ≡ b →
      pick b class.Optional class.Compulsory ≡ class_of h
  unfolding class_of pick
  class_other a (inl v) b e = rw (sym a ∙ v.0, lt-leb _ _ v.1, e)
  class_other a (inr v) b e = rw (sym a ∙ v, e)

-- an opcode that is carried is listed
pub carried_listed : (h : Header) → class.Carried ≡ class_of h → listed_id h.id ≡ true
unfolding class_of pick
carried_listed h e = go (listed_id h.id) (leb h.version 0x01070100) (eqb (h.flags % 2) 1) e
  where
    go : (a b d : Bool) → class.Carried ≡ pick (a && b) class.Carried (pick d class.Optional class.Compulsory) → a ≡ true
    go true b d q = refl
    go false b true q = absurd (grind arith)
    go false b false q = absurd (grind arith)

module _ (g : Grid) (id n : ℕ) where
  pub form_table : eqb id 7 ≡ true → table_form n ≡ form_of g id n
  unfolding form_of pick
  form_table a = rw a

  module _ (a : eqb id 7 ≡ false) where
    pub form_polynomial : eqb id 8 ≡ true → polynomial_form n ≡ form_of g id n
    unfolding form_of pick
    form_polynomial b = rw (a, b)

    module _ (b : eqb id 8 ≡ false) where
      pub form_rows : (eqb id 10 || eqb id 12) ≡ true → lines_form (rows_of g) n ≡ form_of g id n
      unfolding form_of pick
      form_rows e = rw (a, b, e)

      pub form_columns : (eqb id 10 || eqb id 12) ≡ false → lines_form (columns_of g) n ≡ form_of g id n
      unfolding form_of pick
      form_columns e = rw (a, b, e)

module _ (w : ℕ) (ps : List ℕ) where
  -- what is left of n numbers at the i-th
  pub refused_over : (p n i : ℕ) → n ≤ i → refused_in w ps p (n - i) ≡ false
  unfolding refused_in
  refused_over p n i h = let q : n - i ≡ 0 = omega arith in rw q

  pub refused_here : (p n i : ℕ) → i < n → refused_at w ps p ≡ true → refused_in w ps p (n - i) ≡ true
  unfolding refused_in
  refused_here p n i h e = let q : n - i ≡ suc (n - (i + 1)) = omega arith in rw (q, e)

  pub refused_there : (p n i : ℕ) → i < n → refused_at w ps p ≡ false → refused_in w ps p (n - i) ≡ refused_in w ps (p + w) (n - (i + 1))
  unfolding refused_in
  refused_there p n i h e = let q : n - i ≡ suc (n - (i + 1)) = omega arith in rw (q, e)

-- as `is_none` says it
pub refused_told : (x : Option Float) (r : Bool) → is_some x ≡ not r → r ≡ refused_real x
refused_told None true e = refl
refused_told None false e = absurd (true≢false (sym e))
refused_told (Some v) true e = absurd (true≢false e)
refused_told (Some v) false e = refl

-- ---- an opcode's parameters
module _ (z : Size) (id : ℕ) (ps : List ℕ) where
  pub fault_short : length ps < 36 → 10 ≡ plain_fault z id ps
  unfolding plain_fault pick
  fault_short h = rw (lt-leb 36 (length ps) h)

  module _ (h : 36 ≤ length ps) where
    pub fault_grid : fits_of z (grid_of ps) ≡ false → 10 ≡ plain_fault z id ps
    unfolding plain_fault pick
    fault_grid a = rw (le-leb 36 (length ps) h, a)

    module _ (a : fits_of z (grid_of ps) ≡ true) where
      pub fault_form : exact_of (form_of (grid_of ps) id (count_of ps)) (length ps) ≡ false → 10 ≡ plain_fault z id ps
      unfolding plain_fault pick
      fault_form b = rw (le-leb 36 (length ps) h, a, b)

      -- of a form that was found for the grid and the LONG
      module _ (g : Grid) (i : g ≡ grid_of ps) (n : ℕ) (j : n ≡ count_of ps) (m : Form) (k : m ≡ form_of g id n) where
        f : m ≡ form_of (grid_of ps) id (count_of ps)
        f = k ∙ rw (i, j)

        pub fault_inexact : exact_of m (length ps) ≡ false → 10 ≡ plain_fault z id ps
        fault_inexact b = fault_form (rw (← f) b)

        pub fault_numbers : exact_of m (length ps) ≡ true → (r : Bool) → r ≡ refused_in m.width ps 36 m.numbers →
            pick r 12 0 ≡ plain_fault z id ps
        unfolding plain_fault pick
        fault_numbers b r e = rw (le-leb 36 (length ps) h, a, ← f, b, e)

pub and-true : (a b : Bool) → (a && b) ≡ true → (a ≡ true) × (b ≡ true)
and-true true b h = (refl, h)
and-true false b h = absurd (true≢false (sym h))

pub fits_in : (z : Size) (g : Grid) → fits_of z g ≡ true → FitsIn z g
unfolding fits_of
fits_in z g e =
    let a = and-true _ _ e in
    let b = and-true _ _ a.1 in
    let r = and-true _ _ a.0 in
    let c = and-true _ _ b.0 in
    let p = and-true _ _ b.1 in
    let q = and-true _ _ p.1 in
    let s = and-true _ _ q.1 in
    record {
      some_rows = ltb-true _ _ r.0;
      rows = leb-true _ _ r.1;
      some_columns = ltb-true _ _ c.0;
      columns = leb-true _ _ c.1;
      some_planes = leb-true _ _ p.0;
      planes = leb-true _ _ q.0;
      row_pitch = leb-true _ _ s.0;
      column_pitch = leb-true _ _ s.1;
    }

-- the grid that was read in an opcode's own bytes, 32 of them and some more
module _ (ps : List ℕ) (g : Grid) (more : ℕ) (h : 32 + more ≤ length ps) (e : (n : ℕ) → 32 ≤ n → g ≡ grid_of (part ps 0 n)) where
  pub own_grid : g ≡ grid_of ps
  own_grid = e (length ps) (omega arith) ∙ ap grid_of (take-length ps)

  pub own_fits : (z : Size) (t : Bool) → fits_of z g ≡ t → fits_of z (grid_of ps) ≡ t
  own_fits z t k = ap (fits_of z) (sym own_grid) ∙ k

-- the numbers of an opcode's own bytes, as they stand in the file
pub long_part : (f : List ℕ) (at n k : ℕ) → k + 4 ≤ n → long_of f (at + k) ≡ long_of (part f at n) k
long_part f at n k h = ap (number_of Big) (sym (part_part f at n k 4 h))

-- what a form has behind the LONG: numbers of 4 or 8 bytes, inside its bytes
pub record FormIn (m : Form) : Type 0 where
  pub small : m.bytes < 0x1000_0000_0000
  pub wide : 0 < m.numbers → (m.width ≡ 4) ⊎ (m.width ≡ 8)
  pub inside : m.width * m.numbers ≤ m.bytes

pub form_in : (g : Grid) (id n : ℕ) → n < 0x1_0000_0000 → FormIn (form_of g id n)
unfolding form_of pick
form_in g id n h = go (eqb id 7) (eqb id 8) (eqb id 10 || eqb id 12)
  where
    lines_in : (k : ℕ) → FormIn (lines_form k n)
    lines_in k = record { small = omega arith; wide = λ _. inl refl; inside = omega arith }

    go : (a b c : Bool) → FormIn (pick a (table_form n)
        (pick b (polynomial_form n) (pick c (lines_form (rows_of g) n) (lines_form (columns_of g) n))))
    go true b c = record { small = omega arith; wide = λ h. absurd (omega arith); inside = omega arith }
    go false true c = record { small = omega arith; wide = λ _. inr refl; inside = omega arith }
    go false false true = lines_in (rows_of g)
    go false false false = lines_in (columns_of g)

-- an exact form's bytes
pub exact_bytes : (m : Form) (n : ℕ) → exact_of m n ≡ true → n ≡ 36 + m.bytes
exact_bytes m n e = go m.legal e
  where
    go : (a : Bool) → (a && eqb n (36 + m.bytes)) ≡ true → n ≡ 36 + m.bytes
    go true h = eqb-true _ _ h
    go false h = absurd (true≢false (sym h))
