use mathlib.Core.Path.{◌≡◌, sym, ap, ◌∙◌}
use mathlib.Core.Bool.{false}
use Prim.Native.Nat.{ℕ, ◌*◌, ◌/◌, ◌%◌, ◌^◌, ◌≤◌, ◌<◌}
use native.Mathlib.Nat.{div-le_self, mul-le-mul}
use native.Mathlib.Omega.{arith}
use lib.IntN.{ℤ, pos, nat_abs, ◌*ℤ◌}
use lib.Signed.{lt_z}
use mir.Syntax.{w64}
use mir.Val.{to_z, of_z}
use mir.Facts.{to_z-of_z, to_z_pos}
use Rattle.reading.proofs.Magnitude.{nat_abs_mul, sfits64}
use Rattle.levels.proofs.Carried.{black_zero, black_negative, black_other, black_large, black_parts}
use Rattle.levels.proofs.black.of_fraction.Goals as goal
use Rattle.levels.proofs.black.of_fraction.Goals.{After-unsigned_abs, After-unsigned_abs-d, Else-d-ne0, Else-den-lt0}

-- what the two fields hold, and their magnitudes
fits : (z : ℤ) → nat_abs z < 0x1_0000_0000 → to_z w64 (of_z w64 z) ≡ z
fits z h = to_z-of_z (sfits64 z (omega arith))

magnitude_is : (z : ℤ) (n : ℕ) → nat_abs z < 0x1_0000_0000 → n ≡ nat_abs (to_z w64 (of_z w64 z)) → n ≡ nat_abs z
magnitude_is z n h e = e ∙ ap nat_abs (fits z h)

den : (c : After-unsigned_abs-d) → c.unsigned_abs-d.result ≡ nat_abs c.args.x.denominator
den c = magnitude_is c.args.x.denominator _ c.requires.1 c.unsigned_abs-d.ensures.value

num : (c : After-unsigned_abs) → c.unsigned_abs.result ≡ nat_abs c.args.x.numerator
num c = magnitude_is c.args.x.numerator _ c.requires.0 c.unsigned_abs.ensures.value

pub returns-then-d-eq0 : goal.returns-then-d-eq0
returns-then-d-eq0 c =
    black_zero _ (sym (den (goal.at.returns-then-d-eq0 c).After-unsigned_abs-d) ∙ c.if-d-eq0.true)

pub returns-then-den-lt0 : goal.returns-then-den-lt0
returns-then-den-lt0 c =
    black_negative _ (λ h. c.if-d-eq0.false (den (goal.at.returns-then-den-lt0 c).After-unsigned_abs-d ∙ h))
    (rw (fits c.args.x.denominator c.requires.1) at c.if-den-lt0.true)

some : (c : Else-den-lt0) → nat_abs c.args.x.denominator ≡ 0 → ⊥
some c h = c.if-d-eq0.false (magnitude_is c.args.x.denominator _ c.requires.1 c.unsigned_abs-d.ensures.value ∙ h)

positive : (c : Else-den-lt0) → lt_z c.args.x.denominator (pos 0) ≡ false
positive c = rw (fits c.args.x.denominator c.requires.1) at c.if-den-lt0.false

pub returns-then-d-ne0 : goal.returns-then-d-ne0
returns-then-d-ne0 c =
    let w = goal.at.returns-then-d-ne0 c in
    black_other _ (some w.Else-den-lt0) (positive w.Else-den-lt0)
    (λ h. c.if-d-ne0.true (ap (λ (d : ℕ). 256 % d) (den w.After-unsigned_abs-d) ∙ h))

product : (n : ℤ) (d : ℕ) → nat_abs n < 0x1_0000_0000 → nat_abs (n *ℤ pos (256 / d)) < 2 ^ 63
product n d h =
    let l : nat_abs n ≤ 0x1_0000_0000 = omega arith in
    omega (arith, nat_abs_mul n (pos (256 / d)), mul-le-mul l (div-le_self 256 d))

divides : (c : Else-d-ne0) → 256 % nat_abs c.args.x.denominator ≡ 0
divides c =
    let e = magnitude_is c.args.x.denominator _ c.requires.1 c.unsigned_abs-d.ensures.value in
    sym (ap (λ (d : ℕ). 256 % d) e) ∙ c.if-d-ne0.false

pub returns-then-unsigned_abs-d : goal.returns-then-unsigned_abs-d
returns-then-unsigned_abs-d c =
    let w = goal.at.returns-then-unsigned_abs-d c in
    let n = c.args.x.numerator in
    let d = c.unsigned_abs-d.result in
    let unit : 256 / d < 2 ^ 63 = omega (arith, div-le_self 256 d) in
    let e = den w.After-unsigned_abs-d in
    let h : nat_abs n ≤ 65535 * nat_abs c.args.x.denominator = omega (arith, c.if-unsigned_abs-d.true, num w.After-unsigned_abs, e) in
    rw (fits n c.requires.0, to_z_pos w64 unit, to_z-of_z (sfits64 (n *ℤ pos (256 / d)) (product n d c.requires.0)), e)
    (black_parts c.args.x (some w.Else-den-lt0) (positive w.Else-den-lt0) (divides w.Else-d-ne0) h)

pub returns-else-unsigned_abs-d : goal.returns-else-unsigned_abs-d
returns-else-unsigned_abs-d c =
    let w = goal.at.returns-else-unsigned_abs-d c in
    black_large c.args.x (some w.Else-den-lt0) (positive w.Else-den-lt0) (divides w.Else-d-ne0)
    (omega (arith, c.if-unsigned_abs-d.false, num w.After-unsigned_abs, den w.After-unsigned_abs-d))
