use Prim.Native.Nat.{◌<◌}
use native.Mathlib.Omega.{arith}
use borrow.Author.Rules.{rules}
use mir.Syntax.{w64}
use mir.Val.{SFits}
use mir.Facts.{to_z-of_z}
use Rattle.levels.proofs.Fills.{fill_step}
use Rattle.raw.proofs.greatest.by_residue.Goals as goal

pub loop-i-preserved : goal.loop-i-preserved
loop-i-preserved c =
    let l = c.loop-i in
    let g = c.greatest_delta.ensures in
    let f : SFits w64 c.greatest_delta.result = search rules in
    let place : l.i < 8 = omega (arith, c.loop-i-test.true, c.min-i-end.ensures, c.requires.n_bound.2) in
    rw (to_z-of_z f) (fill_step _ l.i _ l.found _ place g.value g.result_bound l.invariant)
