use Rattle.std.proofs.Common.{◌≡◌, ℕ, true, false, sym, ap, arith}
use Rattle.reading.specs.Reading.{pick}
use Rattle.opcodes.specs.Grid.{grid_of, fits_of}
use Rattle.opcodes.specs.Facts.OpcodeList.{id_of, tested}
use Rattle.opcodes.proofs.OpcodeLists.{fault_short, fault_grid, fault_inexact, fault_numbers, fits_in, own_grid, own_fits}
use Rattle.opcodes.proofs.OpcodeLists.{FormIn, form_in, exact_bytes}
use Rattle.opcodes.proofs.list.test_plain.Goals as goal
use Rattle.opcodes.proofs.list.test_plain.Goals.{After-form_for-m}

pub returns-then-ps-lt36 : goal.returns-then-ps-lt36
unfolding pick
returns-then-ps-lt36 c =
    let a = c.args in
    ap (λ (n : ℕ). tested n a.i) (fault_short a.size (id_of a.kind) a.ps.now c.if-ps-lt36.true)

pub returns-then-not-fits : goal.returns-then-not-fits
unfolding pick
returns-then-not-fits c =
    let a = c.args in
    let g = c.grid_at-g in
    let h = c.if-ps-lt36.false in
    ap (λ (n : ℕ). tested n a.i)
    (fault_grid a.size (id_of a.kind) a.ps.now h (own_fits a.ps.now g.result 4 h g.ensures.by_index a.size false (sym c.if-not-fits.ensures)))

pub form_for-m-requires : goal.form_for-m-requires
form_for-m-requires c =
    let fit = fits_in _ _ (sym c.if-not-fits.ensures) in
    let z = c.requires in
    let r = c.grid_at-g.ensures.plane_bound in
    record {
      top_le_bottom = (omega (arith, fit.some_rows), omega (arith, fit.rows, z.0), fit.row_pitch, r.2);
      left_le_right = (omega (arith, fit.some_columns), omega (arith, fit.columns, z.1), fit.column_pitch, r.3);
      n_bound = c.field.ensures.1;
    }

-- the form, and the grid that was read: it is the opcode's own, and lies in the frame
form : (d : After-form_for-m) → FormIn d.form_for-m.result
form d = rw d.form_for-m.ensures (form_in d.grid_at-g.result (id_of d.args.kind) d.field.result d.field.ensures.1)

own : (d : After-form_for-m) → d.grid_at-g.result ≡ grid_of d.args.ps.now
own d = own_grid d.args.ps.now d.grid_at-g.result 4 d.if-ps-lt36.false d.grid_at-g.ensures.by_index

fit : (d : After-form_for-m) → fits_of d.args.size (grid_of d.args.ps.now) ≡ true
fit d =
    let g = d.grid_at-g in
    let a = d.args in
    own_fits a.ps.now g.result 4 d.if-ps-lt36.false g.ensures.by_index a.size true (sym d.if-not-fits.ensures)

pub exact-requires : goal.exact-requires
exact-requires c = (form (goal.at.exact-requires c).After-form_for-m).small

pub returns-then-not-exact : goal.returns-then-not-exact
unfolding pick
returns-then-not-exact c =
    let d = (goal.at.returns-then-not-exact c).After-form_for-m in
    let a = d.args in
    ap (λ (n : ℕ). tested n a.i)
    (fault_inexact a.size (id_of a.kind) a.ps.now d.if-ps-lt36.false (fit d) _ (own d) _ d.field.ensures.0 _ d.form_for-m.ensures (sym c.if-not-exact.ensures))

pub refused_in-requires : goal.refused_in-requires
refused_in-requires c =
    let q = form (goal.at.refused_in-requires c).After-form_for-m in
    (omega (arith, exact_bytes c.form_for-m.result _ (sym c.if-not-exact.ensures), q.inside), q.wide)

pub returns-then-refused_in : goal.returns-then-refused_in
unfolding pick
returns-then-refused_in c =
    let d = (goal.at.returns-then-refused_in c).After-form_for-m in
    let a = d.args in
    ap (λ (n : ℕ). tested n a.i)
    (fault_numbers a.size (id_of a.kind) a.ps.now d.if-ps-lt36.false (fit d) _ (own d) _ d.field.ensures.0 _ d.form_for-m.ensures (sym c.if-not-exact.ensures)
    true c.if-refused_in.ensures)

pub returns : goal.returns
unfolding pick
returns c =
    let d = (goal.at.returns c).After-form_for-m in
    let a = d.args in
    ap (λ (n : ℕ). tested n a.i)
    (fault_numbers a.size (id_of a.kind) a.ps.now d.if-ps-lt36.false (fit d) _ (own d) _ d.field.ensures.0 _ d.form_for-m.ensures (sym c.if-not-exact.ensures)
    false c.if-refused_in.ensures)
