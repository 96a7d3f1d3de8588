-- M by residues is the greatest B over the active samples.
-- Assumes nothing.
use mathlib.Core.Path.{◌≡◌, refl, sym, ◌∙◌}
use mathlib.Core.Bool.{true}
use mathlib.Core.List.{List}
use Prim.Native.Nat.{ℕ, ◌+◌, ◌-◌, ◌*◌, ◌/◌, ◌%◌, ◌≤◌, ◌<◌, min}
use native.Mathlib.Nat.{mod-lt, mod-le, mod-mod, mod-eq_of_lt, add-mul-mod_self_left, div-add-mod'}
use native.Mathlib.Nat.{div-mul-le_self, le-div_iff_mul-le, mul_comm, mul-le-mul_left}
use native.Mathlib.Omega.{arith}
use lib.IntN.{ℤ, pos}
use lib.ListN.{get_or}
use lib.Signed.{le_z}
use Rattle.levels.specs.Levels.{Levels, max_below, cell_for, black_for, greatest_black}
use Rattle.levels.specs.Facts.Residues.{times_of, greatest_delta, ByResidue, residue_black, greatest_by_residues}
use Rattle.levels.proofs.SignedOrder.{le_z_refl, sum_same, sum_above}
use Rattle.levels.proofs.Maxima.{Greatest, unique, Meets, carried_over, Below, below_greatest, Spot, spots_greatest, pairs_greatest}

-- the places below n with a residue
pub record Residue (n step i : ℕ) : Type 0 where
  pub place : ℕ
  pub inside : place < n
  pub same : place % step ≡ i

-- the k-th of them is one
pub nth_inside : (n step i k : ℕ) → i < n → k < times_of n step i → i + step * k < n
nth_inside n step i k occurs h =
    let a : k ≤ (n - 1 - i) / step = omega arith in
    omega (arith, div-mul-le_self (n - 1 - i) step, mul_comm ((n - 1 - i) / step) step, mul-le-mul_left step a)

module _ (n step i : ℕ) (some : 1 ≤ step) (low : i < step) (occurs : i < n) where
  nth_residue : (k : ℕ) → (i + step * k) % step ≡ i
  nth_residue k = add-mul-mod_self_left i step k ∙ mod-eq_of_lt low

  -- which of them a place is
  which : (r : ℕ) → r < n → r % step ≡ i → r / step < times_of n step i
  which r h e =
      let a : r / step * step ≤ n - 1 - i = omega (arith, div-add-mod' r step) in
      omega (arith, (le-div_iff_mul-le some).1 a)

  which_place : (r : ℕ) → r % step ≡ i → i + step * (r / step) ≡ r
  which_place r e = omega (arith, div-add-mod' r step, mul_comm step (r / step))

  pub delta_greatest : (deltas : List ℤ) → Greatest (Residue n step i) (λ x. get_or deltas x.place (pos 0)) (greatest_delta deltas n step i)
  delta_greatest deltas =
      carried_over (Below (times_of n step i)) (Residue n step i) (λ x. get_or deltas (i + step * x.place) (pos 0))
      (λ x. get_or deltas x.place (pos 0))
      (max_below (times_of n step i) (λ (k : ℕ). get_or deltas (i + step * k) (pos 0)))
      (record {
        to = λ x. record {
          place = i + step * x.place;
          inside = nth_inside n step i x.place occurs x.inside;
          same = nth_residue
              x.place;
        };
        to_same = λ x. refl;
        from = λ y. record { place = y.place / step; inside = which y.place y.inside y.same };
        from_above = λ y.
            let e : i + step * (y.place / step) ≡ y.place = which_place y.place y.same in
            rw e (le_z_refl (get_or deltas y.place (pos 0)));
      })
      (below_greatest (times_of n step i) (λ (k : ℕ). get_or deltas (i + step * k) (pos 0)) (omega arith))

  -- so is what stands at its place among the greatest by residue
  pub by_residue_greatest : (deltas found : List ℤ) → ByResidue deltas n step found →
      Greatest (Residue n step i) (λ x. get_or deltas x.place (pos 0)) (get_or found i (pos 0))
  by_residue_greatest deltas found h = rw (h.each i (omega arith)) (delta_greatest deltas)

-- a residue that occurs is one of the first n places
residue_below : (n step r : ℕ) → 1 ≤ step → r < n → r % step < min step n
residue_below n step r h k = omega (arith, mod-lt r h, mod-le r step)

-- rows with one residue, and columns with one, have one cell
pub cell_same : (l : Levels) (r c i j p : ℕ) → r % l.repeat_rows ≡ i % l.repeat_rows → c % l.repeat_columns ≡ j % l.repeat_columns →
    cell_for l r c p ≡ cell_for l i j p
unfolding cell_for
cell_same l r c i j p e f = rw (e, f)

module _
    (l : Levels) (p : ℕ) (columns rows : List ℤ)
    (some_rows : 0 < l.rows) (some_columns : 0 < l.columns) (down : 1 ≤ l.repeat_rows) (across : 1 ≤ l.repeat_columns)
    (by_columns : ByResidue l.column_deltas l.columns l.repeat_columns columns)
    (by_rows : ByResidue l.row_deltas l.rows l.repeat_rows rows)
  where
    abbrev Pair : Type 0
    Pair = Spot (min l.repeat_rows l.rows) (min l.repeat_columns l.columns)

    abbrev Sample : Type 0
    Sample = Spot l.rows l.columns

    abbrev at_pair : Pair → ℤ
    at_pair s = residue_black l columns rows p s.row.place s.column.place

    abbrev at_sample : Sample → ℤ
    at_sample s = black_for l s.row.place s.column.place p

    -- the greatest deltas of a pair of residues
    row_delta : (s : Pair) → let i = s.row.place in
        Greatest (Residue l.rows l.repeat_rows i) (λ x. get_or l.row_deltas x.place (pos 0)) (get_or rows i (pos 0))
    row_delta s =
        let h = s.row.inside in
        by_residue_greatest l.rows l.repeat_rows s.row.place down (omega arith) (omega arith) l.row_deltas rows by_rows

    column_delta : (s : Pair) → let j = s.column.place in
        Greatest (Residue l.columns l.repeat_columns j) (λ x. get_or l.column_deltas x.place (pos 0)) (get_or columns j (pos 0))
    column_delta s =
        let h = s.column.inside in
        by_residue_greatest l.columns l.repeat_columns s.column.place across (omega arith) (omega arith) l.column_deltas
        columns by_columns

    -- the sample where they meet
    met : Pair → Sample
    met s =
        let r = (row_delta s).at in
        let c = (column_delta s).at in
        record { row = record { place = r.place; inside = r.inside }; column = record { place = c.place; inside = c.inside } }

    met_same : (s : Pair) → at_sample (met s) ≡ at_pair s
    unfolding black_for met
    met_same s =
        let r = row_delta s in
        let c = column_delta s in
        let i = s.row.place in
        let j = s.column.place in
        let h : i < l.repeat_rows = omega (arith, s.row.inside) in
        let k : j < l.repeat_columns = omega (arith, s.column.inside) in
        let e = r.at.same ∙ sym (mod-eq_of_lt h) in
        let f = c.at.same ∙ sym (mod-eq_of_lt k) in
        sum_same (cell_same l r.at.place c.at.place i j p e f) c.attained r.attained

    -- the residues of a sample
    residues : Sample → Pair
    residues s =
        let r = s.row in
        let c = s.column in
        record {
          row = record { place = r.place % l.repeat_rows; inside = residue_below l.rows l.repeat_rows r.place down r.inside };
          column = record {
            place = c.place % l.repeat_columns;
            inside = residue_below l.columns l.repeat_columns c.place across
                c.inside;
          };
        }

    residues_above : (s : Sample) → le_z (at_sample s) (at_pair (residues s)) ≡ true
    unfolding black_for residues
    residues_above s =
        let r = s.row.place in
        let c = s.column.place in
        let e = sym (mod-mod r l.repeat_rows) in
        let f = sym (mod-mod c l.repeat_columns) in
        sum_above _ _ _ _ _ _
        (cell_same l r c (r % l.repeat_rows) (c % l.repeat_columns) p e f)
        ((column_delta (residues s)).above (record { place = c; inside = s.column.inside; same = refl }))
        ((row_delta (residues s)).above (record { place = r; inside = s.row.inside; same = refl }))

    -- the greatest over the pairs of residues that occur is the greatest over the active samples
    pub greatest_by_residues_law : (n m : ℕ) → n ≡ min l.repeat_rows l.rows → m ≡ min l.repeat_columns l.columns →
        greatest_by_residues l columns rows p n m ≡ greatest_black l p
    unfolding greatest_black
    greatest_by_residues_law n m e f =
        let z = greatest_by_residues l columns rows p (min l.repeat_rows l.rows) (min l.repeat_columns l.columns) in
        let pairs : Greatest Pair at_pair z =
        pairs_greatest (min l.repeat_rows l.rows) (min l.repeat_columns l.columns) (residue_black l columns rows p) (omega arith)
        (omega arith) in
        let meets : Meets Pair Sample at_pair at_sample = record
        { to = met; to_same = met_same; from = residues; from_above = residues_above } in
        let samples = spots_greatest l.rows l.columns (λ (r c : ℕ). black_for l r c p) some_rows some_columns in
        rw (e, f) (unique Sample at_sample z _ (carried_over Pair Sample at_pair at_sample z meets pairs) samples)
