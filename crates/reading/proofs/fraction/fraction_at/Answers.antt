use mathlib.Core.Path.{ap, ◌∙◌}
use Prim.Native.Nat.{◌^◌, ◌<◌}
use native.Mathlib.Omega.{arith}
use lib.IntN.{pos}
use mir.Syntax.{w64}
use mir.Facts.{to_z_pos, to_z-of_z}
use Rattle.reading.proofs.Fractions.{of_short, of_rational, of_signed}
use Rattle.reading.proofs.Magnitude.{sfits64}
use Rattle.reading.proofs.fraction.fraction_at.Goals as goal

pub returns-in-Short-clause-value : goal.returns-in-Short-clause-value
returns-in-Short-clause-value c =
    let a = c.args in
    let h : c.short.result < 2 ^ 63 = omega arith in
    of_short a.s.now a.order a.at c.in-Short.is (to_z_pos w64 h ∙ ap pos c.short.ensures)

pub returns-in-Rational-clause-value : goal.returns-in-Rational-clause-value
returns-in-Rational-clause-value c =
    let a = c.args in
    let h : c.long.result < 2 ^ 63 = omega arith in
    let k : c.long-in-Rational.result < 2 ^ 63 = omega arith in
    of_rational a.s.now a.order a.at c.in-Rational.is (to_z_pos w64 h ∙ ap pos c.long.ensures)
    (to_z_pos w64 k ∙ ap pos c.long-in-Rational.ensures)

pub returns-in-SignedRational-clause-value : goal.returns-in-SignedRational-clause-value
returns-in-SignedRational-clause-value c =
    let a = c.args in
    let h = c.signed_long.ensures in
    let k = c.signed_long-in-SignedRational.ensures in
    let e = to_z-of_z (sfits64 c.signed_long.result (omega (arith, h.result_bound))) in
    let d = to_z-of_z (sfits64 c.signed_long-in-SignedRational.result (omega (arith, k.result_bound))) in
    of_signed a.s.now a.order a.at c.in-SignedRational.is (e ∙ h.value) (d ∙ k.value)
