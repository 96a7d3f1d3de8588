use mathlib.Core.Path.{◌≡◌}
use Prim.Native.Nat.{◌+◌, ◌*◌, ◌<◌, ◌≤◌}
use native.Mathlib.Omega.{arith}
use lib.ListN.{length}
use Rattle.colour.proofs.Passes.{passed_start, passed_step, passed_end}
use Rattle.colour.proofs.pass.colour_pass.Goals as goal

pub loop-k-init : goal.loop-k-init
loop-k-init c =
    passed_start _ _

pub loop-k-preserved : goal.loop-k-preserved
loop-k-preserved c =
    let l = c.loop-k in
    let e : 3 * l.k + 3 ≡ 3 * (l.k + 1) = omega arith in
    let h : 3 * l.k + 2 < length l.out = omega (arith, c.loop-k-test.true, l.invariant.same) in
    rw (← e) (passed_step _ _ _ l.out c.xyz_of-v.result h c.xyz_of-v.ensures.value l.invariant)

pub returns : goal.returns
returns c =
    let l = c.loop-k in
    let h : length l.out ≤ 3 * l.k + 2 = omega (arith, c.loop-k-test.false, l.invariant.same) in
    passed_end _ _ _ _ h l.invariant
