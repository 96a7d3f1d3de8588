use mathlib.Core.Path.{◌≡◌, sym, ap, ◌∙◌}
use Prim.Native.Nat.{◌+◌, ◌-◌}
use native.Mathlib.Omega.{arith}
use lib.Ieee.{nan}
use lib.ListN.{get_or}
use Rattle.samples.proofs.Lines.{filled_more}
use Rattle.samples.proofs.along.repeated.Goals as goal

pub loop-i-preserved : goal.loop-i-preserved
loop-i-preserved g c v first =
    let l = c.loop-i in
    filled_more nan v l.i l.out _ (omega arith) (l.invariant v first) (first l.i _ (omega arith) c.number.ensures)

pub loop-i-2-init : goal.loop-i-2-init
loop-i-2-init g c v first again k b m =
    c.loop-i.invariant v first k (omega (arith, c.min-i-end.ensures))

pub loop-i-2-preserved : goal.loop-i-2-preserved
loop-i-2-preserved g c v first again k b m =
    let l = c.loop-i-2 in
    let i = l.i in
    let p = c.args.period in
    let j : i - p + p ≡ i = omega arith in
    let e : get_or l.out (i - p) nan ≡ v i = l.invariant v first again (i - p) (omega (arith, c.requires.some)) (omega arith)
    ∙ sym (again (i - p)) ∙ ap v j in
    filled_more nan v i l.out _ (omega arith) (λ q z. l.invariant v first again q z (omega arith)) e k b

pub returns : goal.returns
returns g c v first again k h =
    c.loop-i-2.invariant v first again k (omega arith) (omega arith)
