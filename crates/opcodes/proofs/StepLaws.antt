-- The step of an accepted opcode acts as the opcode does.
-- Assumes nothing.
use Rattle.std.proofs.Common.{◌≡◌, ℕ, zero, suc, ◌+◌, ◌-◌, ◌*◌, ◌/◌, ◌<◌, ◌≤◌, Bool, true, false, ◌&&◌, ◌||◌, eqb, ltb, leb, List, length, get_or}
use Rattle.std.proofs.Common.{sym, refl, ap, ◌∙◌, true≢false, add-mul, one-mul, le-div_iff_mul-le, div-mul-le_self, arith, ltb-true, eq-eqb, ne_eqb}
use Rattle.std.proofs.Common.{eqb-true, le-leb, leb-false, leb-true}
use lib.Ieee.{Float, binary32, binary64, add, mul}
use borrow.Author.Tests.{eqb-false}
use Rattle.reading.specs.Bytes.{part}
use Rattle.reading.specs.Number.{number_of}
use Rattle.reading.specs.Reading.{pick}
use Rattle.reading.specs.Real.{refused_pattern, real_of}
use Rattle.reading.specs.declared.number.Order.TheVariants.{Big}
use Rattle.reading.proofs.Bytes.{part_part, length_part}
use Rattle.reading.proofs.Pattern.{is_refused}
use Rattle.levels.specs.Clip.{clip_of, plus_zero}
use Rattle.levels.specs.Run.{run_of}
use Rattle.levels.specs.Table.{table_of}
use Rattle.levels.proofs.Runs.{run_at, run_same, within}
use Rattle.levels.proofs.Unit.{unit}
use Rattle.opcodes.specs.Grid.{long_of, every_of, lines_of, grid_of, on_of, fits_of}
use Rattle.opcodes.specs.Facts.Grid.{FitsIn}
use Rattle.opcodes.specs.Step.{horner_of, mapped_of, result_of, applied_of, value_of, coefficients_of, polynomial_of}
use Rattle.opcodes.specs.Opcode.{row, column, act_of, line_of}
use Rattle.opcodes.specs.OpcodeList.{listed_id, count_of, rows_of, columns_of, table_form, polynomial_form, lines_form, form_of}
use Rattle.opcodes.specs.OpcodeList.{refused_real, refused_at, refused_in, exact_of, plain_fault, floats_of, opcode_kind}
use Rattle.opcodes.specs.Facts.StepAt.{plain_id, float_at, FloatIn, step_of}
use Rattle.opcodes.specs.declared.grid.Size.{Size}
use Rattle.opcodes.specs.declared.grid.Grid.{Grid}
use Rattle.opcodes.specs.declared.list.Form.{Form}
use Rattle.opcodes.specs.declared.step.Step.{Step}
use Rattle.opcodes.specs.declared.step.Step.TheVariants.{Add, Scale, Table}
use Rattle.opcodes.proofs.Polynomial.{polynomial_read}
use Rattle.opcodes.proofs.Places.{or-false}
use Rattle.opcodes.proofs.OpcodeLists.{long_part, and-true, fits_in, fault_short, fault_grid, fault_form, form_table}
use Rattle.opcodes.proofs.OpcodeLists.{form_polynomial, form_rows, form_columns, exact_bytes}

-- the line of a row or column of the grid is one of its lines
pub line_below : (first end pitch n : ℕ) → 1 ≤ pitch → first ≤ n → n < end → (n - first) / pitch < lines_of first end pitch
line_below first end pitch n h l e =
    (le-div_iff_mul-le h).1 (omega (arith, div-mul-le_self (n - first) pitch, add-mul ((n - first) / pitch) 1 pitch, one-mul pitch))

-- the parameters' numbers, as they stand in the file
module _ (f : List ℕ) (at n : ℕ) where
  abbrev own : List ℕ
  own = part f at n

  run_own : {A : Type 0} (g : List ℕ → A) (w m : ℕ) → 36 + w * m ≤ n →
      run_of (λ (p : ℕ). g (part f p w)) w (at + 36) m ≡ run_of (λ (p : ℕ). g (part own p w)) w 36 m
  run_own g w m h =
      run_same _ _ w w (at + 36) 36 m (λ i k.
      let l : 36 + w * i + w ≤ n = omega (arith, within w m i k) in
      let q : at + 36 + w * i ≡ at + (36 + w * i) = omega arith in
      rw q (ap g (sym (part_part f at n (36 + w * i) w l))))

  long_own : 36 ≤ n → long_of f (at + 32) ≡ count_of own
  long_own h = long_part f at n 32 (omega arith)

  float_own : (m k : ℕ) → 36 + 4 * m ≤ n → k < m → float_at f at k ≡ get_or (floats_of own 36 m) k plus_zero
  float_own m k h l =
      sym (run_at (λ (p : ℕ). value_of (real_of binary32 (number_of Big (part f p 4)))) 4 (at + 36) m k plus_zero l)
      ∙ ap (λ (vs : List Float). get_or vs k plus_zero) (run_own (λ bs. value_of (real_of binary32 (number_of Big bs))) 4 m h)

  module _ (i j : ℕ) (x : Float) (some : 36 ≤ n) where
    table_step : 36 + 2 * count_of own ≤ n → applied_of (Table (at + 32)) f x ≡ clip_of (mapped_of (table_of Big own 36 (count_of own)) x)
    unfolding applied_of result_of
    table_step h =
        let q : at + 32 + 4 ≡ at + 36 = omega arith in
        ap (λ (t : List ℕ). clip_of (mapped_of t x)) (rw (q, long_own some) (run_own (number_of Big) 2 (count_of own) h))

    polynomial_step : count_of own ≤ 8 → 36 + 8 * (count_of own + 1) ≤ n → unit x →
        applied_of (polynomial_of (coefficients_of f (at + 36) (long_of f (at + 32) + 1))) f x ≡ clip_of
        (horner_of (coefficients_of own 36 (count_of own + 1)) x)
    polynomial_step m h u =
        let e : long_of f (at + 32) + 1 ≡ suc (count_of own) = omega (arith, long_own some) in
        let q : count_of own + 1 ≡ suc (count_of own) = omega arith in
        let h' : 36 + 8 * suc (count_of own) ≤ n = rw q at h in
        rw (e, q) (polynomial_read f (at + 36) (count_of own) x (omega arith) u
        ∙ ap (λ (cs : List Float). clip_of (horner_of cs x))
        (run_own (λ bs. value_of (real_of binary64 (number_of Big bs))) 8 (suc (count_of own)) h'))

    add_step : (m k : ℕ) → 36 + 4 * m ≤ n → k < m →
        applied_of (Add (float_at f at k)) f x ≡ clip_of (add binary64 x (get_or (floats_of own 36 m) k plus_zero))
    unfolding applied_of result_of
    add_step m k h l = ap (λ (v : Float). clip_of (add binary64 x v)) (float_own m k h l)

    scale_step : (m k : ℕ) → 36 + 4 * m ≤ n → k < m →
        applied_of (Scale (float_at f at k)) f x ≡ clip_of (mul binary64 x (get_or (floats_of own 36 m) k plus_zero))
    unfolding applied_of result_of
    scale_step m k h l = ap (λ (v : Float). clip_of (mul binary64 x v)) (float_own m k h l)

-- every listed id but 9
pub plain_listed : (id : ℕ) → listed_id id ≡ true → (id ≡ 9 → ⊥) → plain_id id ≡ true
plain_listed id h n = go (eqb id 7) (eqb id 8) refl refl
  where
    go : (a b : Bool) → eqb id 7 ≡ a → eqb id 8 ≡ b → (a || (b || (leb 10 id && leb id 13))) ≡ true
    go true b p q = refl
    go false true p q = refl
    go false false p q =
        let l = and-true (leb 7 id) (leb id 13) h in
        let low = leb-true 7 id l.0 in
        let n7 = eqb-false id 7 p in
        let n8 = eqb-false id 8 q in
        rw (le-leb 10 id (omega arith)) l.1

pub plain_other : (id : ℕ) → plain_id id ≡ true → id ≡ 9 → ⊥
plain_other id h e = true≢false (sym h ∙ ap plain_id e)

-- the last of the ids
pub listed_last : (id : ℕ) → plain_id id ≡ true → (id ≡ 7 → ⊥) → (id ≡ 8 → ⊥) → (id ≡ 10 → ⊥) → (id ≡ 11 → ⊥) →
    (id ≡ 12 → ⊥) → id ≡ 13
listed_last id h a b c d e = go (leb 10 id) (leb id 13) refl refl (rw (ne_eqb id 7 a, ne_eqb id 8 b) at h)
  where
    go : (p q : Bool) → leb 10 id ≡ p → leb id 13 ≡ q → (leb 10 id && leb id 13) ≡ true → id ≡ 13
    go true true l m k =
        let x : 10 ≤ id = leb-true 10 id l in
        let y : id ≤ 13 = leb-true id 13 m in
        omega arith
    go true false l m k = absurd (true≢false (sym k ∙ rw (l, m)))
    go false q l m k = absurd (true≢false (sym k ∙ rw l))

-- ---- the step by the id
module _ (f : List ℕ) (at id i j : ℕ) where
  pub step_7 : id ≡ 7 → Table (at + 32) ≡ step_of f at id i j
  unfolding step_of pick
  step_7 e = rw (eq-eqb id 7 e)

  module _ (a : id ≡ 7 → ⊥) where
    pub step_8 : id ≡ 8 → polynomial_of (coefficients_of f (at + 36) (long_of f (at + 32) + 1)) ≡ step_of f at id i j
    unfolding step_of pick
    step_8 e = rw (ne_eqb id 7 a, eq-eqb id 8 e)

    module _ (b : id ≡ 8 → ⊥) where
      pub step_10 : id ≡ 10 → Add (float_at f at i) ≡ step_of f at id i j
      unfolding step_of pick
      step_10 e = rw (ne_eqb id 7 a, ne_eqb id 8 b, eq-eqb id 10 e)

      module _ (c : id ≡ 10 → ⊥) where
        pub step_11 : id ≡ 11 → Add (float_at f at j) ≡ step_of f at id i j
        unfolding step_of pick
        step_11 e = rw (ne_eqb id 7 a, ne_eqb id 8 b, ne_eqb id 10 c, eq-eqb id 11 e)

        module _ (d : id ≡ 11 → ⊥) where
          pub step_12 : id ≡ 12 → Scale (float_at f at i) ≡ step_of f at id i j
          unfolding step_of pick
          step_12 e = rw (ne_eqb id 7 a, ne_eqb id 8 b, ne_eqb id 10 c, ne_eqb id 11 d, eq-eqb id 12 e)

          pub step_13 : (id ≡ 12 → ⊥) → Scale (float_at f at j) ≡ step_of f at id i j
          unfolding step_of pick
          step_13 e = rw (ne_eqb id 7 a, ne_eqb id 8 b, ne_eqb id 10 c, ne_eqb id 11 d, ne_eqb id 12 e)

-- ---- what an accepted opcode's parameters are
pub record Accepted (z : Size) (id : ℕ) (ps : List ℕ) : Type 0 where
  pub some : 36 ≤ length ps
  pub fits : fits_of z (grid_of ps) ≡ true
  pub grid : FitsIn z (grid_of ps)
  pub exact : exact_of (form_of (grid_of ps) id (count_of ps)) (length ps) ≡ true

pub accepted : (z : Size) (id : ℕ) (ps : List ℕ) → plain_fault z id ps ≡ 0 → Accepted z id ps
accepted z id ps e =
    go (leb 36 (length ps)) (fits_of z (grid_of ps)) (exact_of (form_of (grid_of ps) id (count_of ps)) (length ps)) refl refl refl
  where
    no : 10 ≡ plain_fault z id ps → ⊥
    no h = let q : ◌≡◌ {A = ℕ} 10 0 = h ∙ e in omega arith

    go : (a b c : Bool) → leb 36 (length ps) ≡ a → fits_of z (grid_of ps) ≡ b → exact_of (form_of (grid_of ps) id (count_of ps)) (length ps) ≡ c →
        Accepted z id ps
    go false b c h k l = absurd (no (fault_short z id ps (leb-false 36 (length ps) h)))
    go true false c h k l = absurd (no (fault_grid z id ps (leb-true 36 (length ps) h) k))
    go true true false h k l = absurd (no (fault_form z id ps (leb-true 36 (length ps) h) k l))
    go true true true h k l = record { some = leb-true 36 (length ps) h; fits = k; grid = fits_in z (grid_of ps) k; exact = l }

-- none of its numbers is refused
numbers_kept : (z : Size) (id : ℕ) (ps : List ℕ) (w : Form) → w ≡ form_of (grid_of ps) id (count_of ps) → plain_fault z id ps ≡ 0 →
    (r : Bool) → r ≡ refused_in w.width ps 36 w.numbers → r ≡ false
unfolding plain_fault pick
numbers_kept z id ps w k e true q =
    let a = accepted z id ps e in
    let t : exact_of w (length ps) ≡ true = rw k a.exact in
    let c : ◌≡◌ {A = ℕ} 12 0 = rw (le-leb 36 (length ps) a.some, a.fits, ← k, t, ← q) at e in
    absurd (omega arith)
numbers_kept z id ps w k e false q = refl

each_kept : (ps : List ℕ) (p n k : ℕ) → refused_in 4 ps p n ≡ false → k < n → refused_at 4 ps (p + 4 * k) ≡ false
unfolding refused_in
each_kept ps p zero k h l = absurd (omega arith)
each_kept ps p (suc n) zero h l = let z : p + 4 * 0 ≡ p = omega arith in rw z (or-false (refused_at 4 ps p) (refused_in 4 ps (p + 4) n) h).0
each_kept ps p (suc n) (suc k) h l =
    let z : p + 4 * suc k ≡ p + 4 + 4 * k = omega arith in
    rw z (each_kept ps (p + 4) n k (or-false (refused_at 4 ps p) (refused_in 4 ps (p + 4) n) h).1 (omega arith))

kept_pattern : (b : ℕ) → refused_real (real_of binary32 b) ≡ false → refused_pattern binary32 b ≡ false
kept_pattern b h = go (refused_pattern binary32 b) refl
  where
    go : (t : Bool) → refused_pattern binary32 b ≡ t → t ≡ false
    go false e = refl
    go true e = absurd (true≢false (ap refused_real (is_refused binary32 b e) ∙ h))

-- the FLOATs of lines, each in the file
pub floats_in : (f : List ℕ) (at n : ℕ) (z : Size) (id lines m k : ℕ) → at + n ≤ length f → plain_fault z id (part f at n) ≡ 0
    → lines_form lines m ≡ form_of (grid_of (part f at n)) id (count_of (part f at n)) → n ≡ 36 + 4 * m → k < m → FloatIn f at k
unfolding pick
floats_in f at n z id lines m k i e w b l =
    let ps = part f at n in
    let r = each_kept ps 36 m k (numbers_kept z id ps (lines_form lines m) w e (refused_in 4 ps 36 m) refl) l in
    let p : part ps (36 + 4 * k) 4 ≡ part f (at + 36 + 4 * k) 4 =
    part_part f at n (36 + 4 * k) 4 (omega arith)
    ∙ ap (λ (q : ℕ). part f q 4) (let q : at + (36 + 4 * k) ≡ at + 36 + 4 * k = omega arith in q) in
    record { inside = omega arith; accepted = rw (← p) (kept_pattern (number_of Big (part ps (36 + 4 * k) 4)) r) }

-- a sample on the grid
pub record On (g : Grid) (r c p : ℕ) : Type 0 where
  pub row : every_of g.top g.bottom g.row_pitch r ≡ true
  pub column : every_of g.left g.right g.column_pitch c ≡ true
  pub top : g.top ≤ r
  pub bottom : r < g.bottom
  pub left : g.left ≤ c
  pub right : c < g.right
  pub plane : g.plane ≤ p

pub on_in : (g : Grid) (r c p : ℕ) → on_of g r c p ≡ true → On g r c p
unfolding on_of
on_in g r c p e =
    let row = every_of g.top g.bottom g.row_pitch r in
    let column = every_of g.left g.right g.column_pitch c in
    let plane = leb g.plane p in
    let below = ltb p (g.plane + g.planes) in
    let a = and-true row (column && (plane && below)) e in
    let b = and-true column (plane && below) a.1 in
    let r' = and-true _ _ a.0 in
    let c' = and-true _ _ b.0 in
    record {
      row = a.0;
      column = b.0;
      top = leb-true _ _ r'.0;
      bottom = ltb-true _ _ (and-true _ _ r'.1).0;
      left = leb-true _ _ c'.0;
      right = ltb-true _ _ (and-true _ _ c'.1).0;
      plane = leb-true g.plane p (and-true plane below b.1).0;
    }

-- ---- the step acts as the opcode does
module _ (f : List ℕ) (at n : ℕ) (z : Size) (id : ℕ) (inside : at + n ≤ length f) (ok : plain_fault z id (part f at n) ≡ 0)
    (n9 : id ≡ 9 → ⊥) (r c p : ℕ) (x : Float) where
  abbrev ps : List ℕ
  ps = part f at n

  abbrev g : Grid
  g = grid_of ps

  abbrev m : ℕ
  m = count_of ps

  abbrev Acts : Type 0
  Acts = applied_of (step_of f at id (line_of row g r c) (line_of column g r c)) f x ≡ act_of (opcode_kind z id ps) g r c p x

  size : length ps ≡ n
  size = length_part f at n inside

  enough : 36 ≤ n
  enough = let h = (accepted z id ps ok).some in rw size at h

  bytes : (k : Form) → k ≡ form_of g id m → n ≡ 36 + k.bytes
  bytes k e = let h = (accepted z id ps ok).exact in sym size ∙ exact_bytes k (length ps) (rw e h)

  legal : (k : Form) → k ≡ form_of g id m → k.legal ≡ true
  legal k e = let h : exact_of k (length ps) ≡ true = rw e (accepted z id ps ok).exact in (and-true k.legal
      (eqb (length ps) (36 + k.bytes)) h).0

  acts_7 : id ≡ 7 → Acts
  unfolding act_of opcode_kind pick
  acts_7 e =
      let k = form_table g id m (eq-eqb id 7 e) in
      let b = bytes (table_form m) k in
      ap (λ (s : Step). applied_of s f x) (sym (step_7 f at id _ _ e)) ∙ table_step f at n 0 0 x enough (omega arith)
      ∙ rw (eq-eqb id 7 e) refl

  module _ (n7 : id ≡ 7 → ⊥) where
    acts_8 : id ≡ 8 → unit x → Acts
    unfolding act_of opcode_kind pick
    acts_8 e u =
        let k = form_polynomial g id m (ne_eqb id 7 n7) (eq-eqb id 8 e) in
        let b = bytes (polynomial_form m) k in
        let l : m ≤ 8 = leb-true m 8 (legal (polynomial_form m) k) in
        ap (λ (s : Step). applied_of s f x) (sym (step_8 f at id _ _ n7 e)) ∙ polynomial_step f at n 0 0 x enough l (omega arith) u
        ∙ rw (ne_eqb id 7 n7, eq-eqb id 8 e) refl

    module _ (n8 : id ≡ 8 → ⊥) (on : on_of g r c p ≡ true) where
      row_line : (eqb id 10 || eqb id 12) ≡ true → (36 + 4 * m ≤ n) × (line_of row g r c < m)
      row_line e =
          let k = form_rows g id m (ne_eqb id 7 n7) (ne_eqb id 8 n8) e in
          let b = bytes (lines_form (rows_of g) m) k in
          let l : m ≡ rows_of g = eqb-true m (rows_of g) (legal (lines_form (rows_of g) m) k) in
          let o = on_in g r c p on in
          let q : line_of row g r c < rows_of g = line_below g.top g.bottom g.row_pitch r (accepted z id ps ok).grid.row_pitch
          o.top o.bottom in
          (omega arith, omega arith)

      column_line : (eqb id 10 || eqb id 12) ≡ false → (36 + 4 * m ≤ n) × (line_of column g r c < m)
      column_line e =
          let k = form_columns g id m (ne_eqb id 7 n7) (ne_eqb id 8 n8) e in
          let b = bytes (lines_form (columns_of g) m) k in
          let l : m ≡ columns_of g = eqb-true m (columns_of g) (legal (lines_form (columns_of g) m) k) in
          let o = on_in g r c p on in
          let q : line_of column g r c < columns_of g = line_below g.left g.right g.column_pitch c
          (accepted z id ps ok).grid.column_pitch o.left o.right in
          (omega arith, omega arith)

      acts_10 : id ≡ 10 → Acts
      unfolding act_of opcode_kind pick
      acts_10 e =
          let l = row_line (rw (eq-eqb id 10 e) refl) in
          ap (λ (s : Step). applied_of s f x) (sym (step_10 f at id _ _ n7 n8 e)) ∙ add_step f at n 0 0 x enough m _ l.0 l.1
          ∙ rw (ne_eqb id 7 n7, ne_eqb id 8 n8, ne_eqb id 9 n9, eq-eqb id 10 e) refl

      module _ (n10 : id ≡ 10 → ⊥) where
        acts_11 : id ≡ 11 → Acts
        unfolding act_of opcode_kind pick
        acts_11 e =
            let l = column_line (rw (ne_eqb id 10 n10, ne_eqb id 12 (λ q. omega arith)) refl) in
            ap (λ (s : Step). applied_of s f x) (sym (step_11 f at id _ _ n7 n8 n10 e)) ∙ add_step f at n 0 0 x enough m _ l.0 l.1
            ∙ rw (ne_eqb id 7 n7, ne_eqb id 8 n8, ne_eqb id 9 n9, ne_eqb id 10 n10, eq-eqb id 11 e) refl

        module _ (n11 : id ≡ 11 → ⊥) where
          acts_12 : id ≡ 12 → Acts
          unfolding act_of opcode_kind pick
          acts_12 e =
              let l = row_line (rw (ne_eqb id 10 n10, eq-eqb id 12 e) refl) in
              ap (λ (s : Step). applied_of s f x) (sym (step_12 f at id _ _ n7 n8 n10 n11 e))
              ∙ scale_step f at n 0 0 x enough m _ l.0 l.1
              ∙ rw (ne_eqb id 7 n7, ne_eqb id 8 n8, ne_eqb id 9 n9, ne_eqb id 10 n10, ne_eqb id 11 n11, eq-eqb id 12 e) refl

          acts_13 : (id ≡ 12 → ⊥) → Acts
          unfolding act_of opcode_kind pick
          acts_13 e =
              let l = column_line (rw (ne_eqb id 10 n10, ne_eqb id 12 e) refl) in
              ap (λ (s : Step). applied_of s f x) (sym (step_13 f at id _ _ n7 n8 n10 n11 e))
              ∙ scale_step f at n 0 0 x enough m _ l.0 l.1
              ∙ rw (ne_eqb id 7 n7, ne_eqb id 8 n8, ne_eqb id 9 n9, ne_eqb id 10 n10, ne_eqb id 11 n11, ne_eqb id 12 e) refl

  -- at a sample of its grid, an accepted opcode's step makes of a number from 0 to 1 what the opcode does
  pub step_acts : on_of g r c p ≡ true → unit x → Acts
  step_acts on u = go (eqb id 7) (eqb id 8) (eqb id 10) (eqb id 11) (eqb id 12) refl refl refl refl refl
    where
      no : (k : ℕ) → eqb id k ≡ false → id ≡ k → ⊥
      no k = eqb-false id k

      go : (a b d e h : Bool) → eqb id 7 ≡ a → eqb id 8 ≡ b → eqb id 10 ≡ d → eqb id 11 ≡ e → eqb id 12 ≡ h → Acts
      go true b d e h ea eb ed ee eh = acts_7 (eqb-true id 7 ea)
      go false true d e h ea eb ed ee eh = acts_8 (no 7 ea) (eqb-true id 8 eb) u
      go false false true e h ea eb ed ee eh = acts_10 (no 7 ea) (no 8 eb) on (eqb-true id 10 ed)
      go false false false true h ea eb ed ee eh = acts_11 (no 7 ea) (no 8 eb) on (no 10 ed) (eqb-true id 11 ee)
      go false false false false true ea eb ed ee eh = acts_12 (no 7 ea) (no 8 eb) on (no 10 ed) (no 11 ee) (eqb-true id 12 eh)
      go false false false false false ea eb ed ee eh = acts_13 (no 7 ea) (no 8 eb) on (no 10 ed) (no 11 ee) (no 12 eh)
