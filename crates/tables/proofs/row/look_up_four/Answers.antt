use mathlib.Core.Path.{ap, ◌∙◌}
use Prim.Native.Nat.{ℕ}
use native.Mathlib.Omega.{arith}
use lib.Ieee.{nan}
use lib.ListN.{get_or, length-set}
use Rattle.tables.proofs.FoundLaws.{four_more}
use Rattle.tables.proofs.row.look_up_four.Goals as goal
use Rattle.tables.proofs.row.look_up_four.Goals.{Start}

pub bounds-out-i-2 : goal.bounds-out-i-2
bounds-out-i-2 c =
    simp length-set (omega (arith, c.requires))

pub bounds-out-i-3 : goal.bounds-out-i-3
bounds-out-i-3 c =
    simp length-set (omega (arith, c.requires))

pub bounds-out-i-4 : goal.bounds-out-i-4
bounds-out-i-4 c =
    simp length-set (omega (arith, c.requires))

pub returns : goal.returns
returns c x bytes word f w =
    let a = c.args in
    let t = a.first.now in
    let u = a.second.now in
    let v = a.third.now in
    let z = a.fourth.now in
    four_more x t u v z bytes a.i a.out.now _ _ _ _ c.requires
    (c.value_of-a.ensures ∙ ap (λ (n : ℕ). get_or t n nan) word.one)
    (c.value_of-b.ensures ∙ ap (λ (n : ℕ). get_or u n nan) word.two)
    (c.value_of-c.ensures ∙ ap (λ (n : ℕ). get_or v n nan) word.three)
    (c.value_of-d.ensures ∙ ap (λ (n : ℕ). get_or z n nan) word.four) f w
