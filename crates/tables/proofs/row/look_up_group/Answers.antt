use mathlib.Core.Path.{◌≡◌, ◌∙◌, subst}
use Prim.Native.Nat.{ℕ, ◌+◌}
use native.Mathlib.Omega.{arith}
use lib.Ieee.{nan}
use lib.ListN.{set}
use Rattle.samples.specs.Facts.Line.{Filled}
use Rattle.samples.proofs.Lines.{filled_more}
use Rattle.tables.proofs.row.look_up_group.Goals as goal

pub loop-c-preserved : goal.loop-c-preserved
loop-c-preserved c x f w =
    let at = c.args.at in
    let l = c.loop-c in
    let e : at + l.c + 1 ≡ at + (l.c + 1) = omega arith in
    subst (λ (z : ℕ). Filled nan x z (set l.out (at + l.c) c.look_up.result)) e
    (filled_more nan x (at + l.c) l.out _ (omega (arith, c.requires)) (l.invariant x f w) (c.look_up.ensures ∙ f l.c c.loop-c-test.true))

pub returns : goal.returns
returns c x f w k h =
    c.loop-c.invariant x f w k (omega arith)
