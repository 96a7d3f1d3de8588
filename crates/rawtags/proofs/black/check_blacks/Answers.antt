use Prim.Native.Nat.{◌<◌}
use native.Mathlib.Omega.{arith}
use Rattle.levels.proofs.Runs.{within}
use Rattle.rawtags.proofs.BlackLaws.{width_most, blacks_test_law}
use Rattle.rawtags.proofs.black.check_blacks.Goals as goal

pub first_refused-requires : goal.first_refused-requires
first_refused-requires c =
    let a = c.args in
    let p = c.requires in (
      λ i h. let s : 0 < a.v.count = omega arith in omega (arith, within a.v.size a.v.count i h, p.0, p.1 s),
      λ h. omega (arith, p.1 h, width_most a.kind),
    )

pub returns-in-Ok : goal.returns-in-Ok
returns-in-Ok c = blacks_test_law _ _ _ _ _ _ c.requires.1 _ _ c.in-Ok.ensures

pub returns-in-Err-Illegal : goal.returns-in-Err-Illegal
returns-in-Err-Illegal c = blacks_test_law _ _ _ _ _ _ c.requires.1 _ _ (rw c.in-Err-Illegal.field-0-is at c.in-Err-Illegal.ensures)

pub returns-in-Err-NotCarried : goal.returns-in-Err-NotCarried
returns-in-Err-NotCarried c = blacks_test_law _ _ _ _ _ _ c.requires.1 _ _ (rw c.in-Err-NotCarried.field-0-is at c.in-Err-NotCarried.ensures)
