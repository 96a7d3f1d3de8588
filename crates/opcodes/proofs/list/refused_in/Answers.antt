use Rattle.std.proofs.Common.{◌<◌, sym, ◌∙◌, mul-suc, mul-zero, arith}
use native.Mathlib.Nat.{sub-zero}
use Rattle.opcodes.proofs.OpcodeLists.{refused_over, refused_here, refused_there}
use Rattle.levels.proofs.Runs.{within}
use Rattle.opcodes.proofs.list.refused_in.Goals as goal

pub loop-init : goal.loop-init
loop-init c = (omega (arith, mul-zero c.args.width), rw sub-zero)

pub refused_at-requires : goal.refused_at-requires
refused_at-requires c =
    let a = c.args in
    let t = c.loop-test.true in
    let some : 0 < a.n = omega (arith, t) in
    (omega (arith, c.requires.0, c.loop.invariant.0, within a.width a.n c.loop.counter t), c.requires.1 some)

pub returns-then-refused_at : goal.returns-then-refused_at
returns-then-refused_at c =
    let l = c.loop in
    sym (refused_here _ _ l.p c.args.n l.counter c.loop-test.true (sym c.refused_at.ensures ∙ c.if-refused_at.true)) ∙ l.invariant.1

pub overflow_add-p : goal.overflow_add-p
overflow_add-p c =
    let a = c.args in
    omega (arith, c.requires.0, c.loop.invariant.0, within a.width a.n c.loop.counter c.loop-test.true)

pub loop-preserved : goal.loop-preserved
loop-preserved c =
    let l = c.loop in
    let n = refused_there _ _ l.p c.args.n l.counter c.loop-test.true (sym c.refused_at.ensures ∙ c.if-refused_at.false) in
    (omega (arith, mul-suc c.args.width l.counter, l.invariant.0), sym n ∙ l.invariant.1)

pub returns : goal.returns
returns c = sym (refused_over _ _ c.loop.p c.args.n c.loop.counter c.loop-test.false) ∙ c.loop.invariant.1
