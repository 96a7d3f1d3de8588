use mathlib.Core.Path.{sym, ◌∙◌}
use Prim.Native.Nat.{◌<◌}
use native.Mathlib.Nat.{mul-suc, mul-zero, sub-zero}
use native.Mathlib.Omega.{arith}
use Rattle.std.proofs.lemmas.Result.{err_from_is_err_and}
use Rattle.levels.specs.Black.{black_at}
use Rattle.levels.proofs.Runs.{refused_here, refused_on, refused_over}
use Rattle.levels.proofs.black.first_refused.Goals as goal

pub loop-init : goal.loop-init
loop-init c = (omega (arith, mul-zero c.args.step), rw sub-zero)

pub black_at-requires : goal.black_at-requires
black_at-requires c = omega (arith, c.requires.0 c.loop.counter c.loop-test.true, c.loop.invariant.0)

pub returns-in_err-black_at : goal.returns-in_err-black_at
returns-in_err-black_at c =
    let a = c.args in
    let l = c.loop in
    let p = err_from_is_err_and c.from_residual.result c.from_residual.ensures.1 in
    rw (p.1, p.2)
    (sym (refused_here (black_at a.kind a.order a.s.now) a.step l.p a.count l.counter c.loop-test.true
    (sym c.black_at.ensures ∙ c.in_err-black_at.was)) ∙ l.invariant.1)

pub overflow_add-p : goal.overflow_add-p
overflow_add-p c =
    let t = c.loop-test.true in
    let some : 0 < c.args.count = omega (arith, t) in
    omega (arith, c.requires.0 c.loop.counter t, c.requires.1 some, c.loop.invariant.0, c.well_formed)

pub loop-preserved : goal.loop-preserved
loop-preserved c =
    let a = c.args in
    let l = c.loop in (
      omega (arith, mul-suc a.step l.counter, l.invariant.0),
      sym (refused_on (black_at a.kind a.order a.s.now) a.step l.p a.count l.counter c.loop-test.true
          (sym c.black_at.ensures ∙ c.in_ok-black_at.was)) ∙ l.invariant.1,
    )

pub returns : goal.returns
returns c =
    let a = c.args in
    let l = c.loop in
    sym (refused_over (black_at a.kind a.order a.s.now) a.step l.p a.count l.counter c.loop-test.false) ∙ l.invariant.1
