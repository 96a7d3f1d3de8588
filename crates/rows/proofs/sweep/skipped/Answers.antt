use mathlib.Core.Path.{refl, sym}
use Prim.Native.Nat.{◌+◌, ◌-◌, ◌<◌}
use native.Mathlib.Omega.{arith}
use native.Mathlib.Nat.{div-eq_of_lt, zero-mul, div-mul-le_self}
use Rattle.rows.specs.Facts.Sweep.{skip_of}
use Rattle.rows.proofs.sweep.skipped.Goals as goal

pub returns-then-l-left : goal.returns-then-l-left
unfolding skip_of
returns-then-l-left c =
    let a = c.args in
    let h : a.l - a.left + (a.pitch - 1) < a.pitch = omega (arith, c.requires) in
    (sym (div-eq_of_lt h), omega (arith, zero-mul a.pitch))

pub returns : goal.returns
unfolding skip_of
returns c =
    let a = c.args in
    let x = a.l - a.left + (a.pitch - 1) in
    (refl, omega (arith, div-mul-le_self x a.pitch, c.requires))
