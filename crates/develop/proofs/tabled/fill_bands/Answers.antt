use mathlib.Core.Path.{◌≡◌, ap, ◌∙◌, subst}
use Prim.Native.Nat.{ℕ, ◌+◌, ◌-◌, ◌*◌, ◌/◌, ◌≤◌}
use native.Mathlib.Nat.{mul-le-mul_right, div-mul-le_self, le-div_iff_mul-le, min-eq_left, min-eq_right, min-le_left, min-le_right}
use native.Mathlib.Omega.{arith}
use borrow.Author.Rules.{rules}
use Rattle.develop.specs.Calls.{alone_in}
use Rattle.develop.specs.Facts.Fill.{number_of}
use Rattle.develop.specs.Facts.Tabled.{rows_met, RowsUpto}
use Rattle.develop.proofs.Bands.{some_met, one_sample, rows_values}
use Rattle.develop.proofs.tabled.fill_bands.Goals as goal
use Rattle.develop.proofs.tabled.fill_bands.Goals.{After-columns_met-columns}

-- a row of cells at least has room for its tables, and so many have
some_room : (c : After-columns_met-columns) → let n = c.columns_met-columns.result in (1 ≤ n) × (1 ≤ 16 / n) × (16 / n * n ≤ 16)
some_room c =
    let a = c.args in
    let m = some_met a.file.now a.view a.window c.requires.0 in
    let n = c.columns_met-columns.result in
    let some : 1 ≤ n = omega (arith, c.columns_met-columns.ensures, m.2) in
    let few : 1 * n ≤ 16 = omega (arith, c.columns_met-columns.ensures, m.3) in
    (some, (le-div_iff_mul-le some).1 few, div-mul-le_self 16 n)

pub loop-from-init : goal.loop-from-init
loop-from-init c q r k h l b = absurd (omega arith)

pub fill_band-requires : goal.fill_band-requires
fill_band-requires c =
    let met = (goal.at.fill_band-requires c).After-columns_met-columns in
    let l = c.loop-from in
    let n = c.min-count in
    let across = met.columns_met-columns in
    let room = some_room met in
    let most = 16 / across.result in
    let left = c.rows_met-rows.result - l.from in
    let w : n.result * across.result ≤ most * across.result =
    mul-le-mul_right across.result (omega (arith, n.ensures, min-le_left most left)) in (
      c.requires.0,
      omega (arith, n.ensures, min-le_right most left, c.loop-from-test.true, c.rows_met-rows.ensures),
      omega (arith, w, room.2, l.auto.tables, c.requires.1, ap (λ (z : ℕ). n.result * z) across.ensures),
      l.auto.out ∙ c.requires.2,
    )

pub loop-from-preserved : goal.loop-from-preserved
loop-from-preserved c q =
    let l = c.loop-from in
    let a = c.args in
    let w = a.window in
    let x = number_of (alone_in a.file.now q.file) w a.view.size.samples in
    let e : c.min-count.result ≡ 16 / c.columns_met-columns.result = c.min-count.ensures ∙ min-eq_left (omega (arith, c.if-most-rows.true)) in
    subst (λ (z : ℕ). RowsUpto x (rows_met a.view w) w.height w.width (l.from + z) c.fill_band.new.out) e (c.fill_band.ensures q (l.invariant q))

pub returns : goal.returns
returns c q =
    let l = c.loop-from in
    let a = c.args in
    let w = a.window in
    rows_values (alone_in a.file.now q.file) w (rows_met a.view w) a.view.size.samples l.out (one_sample a.file.now a.view w c.requires.0)
    (some_met a.file.now a.view w c.requires.0).0 (l.auto.out ∙ c.requires.2)
    (λ r k h b t. l.invariant q r k h b (omega (arith, t, c.loop-from-test.false, c.rows_met-rows.ensures)))

pub returns-2 : goal.returns-2
returns-2 c q =
    let l = c.loop-from in
    let a = c.args in
    let w = a.window in
    let m = c.min-count in
    let left : m.result ≡ c.rows_met-rows.result - l.from = m.ensures ∙ min-eq_right (omega (arith, c.if-most-rows.false)) in
    let e : l.from + m.result ≡ rows_met a.view w = omega (arith, left, c.loop-from-test.true, c.rows_met-rows.ensures) in
    rows_values (alone_in a.file.now q.file) w (rows_met a.view w) a.view.size.samples c.fill_band.new.out
    (one_sample a.file.now a.view w c.requires.0) (some_met a.file.now a.view w c.requires.0).0 (search rules)
    (λ r k h b t. c.fill_band.ensures q (l.invariant q) r k h b (omega (arith, t, e)))
