use mathlib.Core.Path.{◌≡◌, sym, ap, ◌∙◌}
use Prim.Native.Nat.{ℕ, ◌-◌, ◌*◌, min, zero-le}
use native.Mathlib.Omega.{arith}
use native.Mathlib.Nat.{zero-mul, min-eq_left, min-eq_right, mul-le-mul_left}
use Rattle.rows.specs.Facts.Sweep.{end_of}
use Rattle.rows.proofs.sweep.end_at.Goals as goal

pub returns-then-right-l : goal.returns-then-right-l
unfolding end_of
returns-then-right-l c =
    let a = c.args in
    let e : a.right - a.l ≡ 0 = omega arith in
    sym (ap (λ (x : ℕ). min (x * a.n) a.len) e ∙ ap (λ (x : ℕ). min x a.len) (zero-mul a.n) ∙ min-eq_left zero-le)

pub overflow_mul-end : goal.overflow_mul-end
overflow_mul-end c =
    omega (arith, mul-le-mul_left (c.args.right - c.args.l) c.requires.1, c.requires.0)

pub returns-then-end-len : goal.returns-then-end-len
unfolding end_of
returns-then-end-len c =
    sym (min-eq_left c.if-end-len.true)

pub returns-else-end-len : goal.returns-else-end-len
unfolding end_of
returns-else-end-len c =
    sym (min-eq_right (omega (arith, c.if-end-len.false)))
