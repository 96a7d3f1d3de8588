use mathlib.Core.Path.{◌≡◌, sym, ap, ◌∙◌}
use Prim.Native.Nat.{ℕ, ◌+◌, ◌*◌, ◌/◌, ◌%◌, ◌≤◌, ◌<◌}
use native.Mathlib.Nat.{one-mul, mul-le-mul_right}
use native.Mathlib.Omega.{arith}
use lib.Ieee.{nan}
use lib.ListN.{length, get_or}
use Rattle.half.proofs.BlockLaws.{pair_at}
use borrow.Author.Rules.{rules, scaled_Fits}
use Rattle.half.proofs.half_window.sample_at.Goals as goal
use Rattle.half.proofs.half_window.sample_at.Goals.{Start}

-- the sample is one of the two rows
inside : (k : Start) → let a = k.args in a.place / 2 * a.width + (2 * a.j + a.place % 2) < length a.pair.now
inside k =
    let a = k.args in
    let h : a.place / 2 * a.width ≤ 1 * a.width = mul-le-mul_right a.width (omega (arith, k.requires.0)) in
    omega (arith, h, one-mul a.width, k.requires.1, k.requires.2)

pub overflow_mul-result : goal.overflow_mul-result
overflow_mul-result c =
    omega (arith, inside (goal.at.overflow_mul-result c).Start, c.well_formed.0.1)

pub overflow_add-result-2 : goal.overflow_add-result-2
overflow_add-result-2 c =
    omega (arith, inside (goal.at.overflow_add-result-2 c).Start, c.well_formed.0.1)

pub offset_bounds-pair-place : goal.offset_bounds-pair-place
offset_bounds-pair-place c =
    scaled_Fits _ (length c.args.pair.now) 8 (inside (goal.at.offset_bounds-pair-place c).Start) c.well_formed.0.1

pub bounds-pair-place : goal.bounds-pair-place
bounds-pair-place c =
    inside (goal.at.bounds-pair-place c).Start

pub returns : goal.returns
returns c =
    let a = c.args in
    let xs = a.pair.now in
    let z : 2 * 0 + a.place / 2 ≡ a.place / 2 = omega arith in
    sym (pair_at xs a.width _ _ 0 ∙ ap (λ (n : ℕ). get_or xs (n * a.width + (2 * a.j + a.place % 2)) nan) z)
