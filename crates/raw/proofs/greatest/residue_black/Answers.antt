use mathlib.Core.Path.{refl, ◌∙◌}
use Prim.Native.Nat.{◌≤◌}
use native.Mathlib.Omega.{arith}
use lib.IntN.{ℤ, nat_abs}
use mir.Syntax.{w64}
use mir.Val.{SFits}
use mir.Facts.{to_z-of_z}
use Rattle.reading.proofs.Magnitude.{sfits64}
use Rattle.levels.proofs.SignedOrder.{sum_same}
use borrow.Author.Rules.{rules}
use Rattle.levels.specs.Facts.Black.{most_black}
use Rattle.raw.proofs.greatest.residue_black.Goals as goal

delta_fits : (z : ℤ) → nat_abs z ≤ most_black → SFits w64 z
delta_fits z h = sfits64 z (omega arith)

pub black_sum-requires : goal.black_sum-requires
black_sum-requires c =
    let cell = c.cell_at-cell in
    let f : SFits w64 cell.result = search rules in
    let column = c.requires.small.0 c.args.j in
    let row = c.requires.small.1 c.args.i in
    rw (to_z-of_z f, to_z-of_z (delta_fits _ column), to_z-of_z (delta_fits _ row)) (cell.ensures.result_bound, column, row)

pub returns : goal.returns
returns c =
    let cell = c.cell_at-cell in
    let f : SFits w64 c.black_sum.result = search rules in
    let g : SFits w64 cell.result = search rules in
    let column = c.requires.small.0 c.args.j in
    let row = c.requires.small.1 c.args.i in
    let e = rw (to_z-of_z g, to_z-of_z (delta_fits _ column), to_z-of_z (delta_fits _ row)) at c.black_sum.ensures.value in
    rw (to_z-of_z f) record { value = e ∙ sum_same cell.ensures.value refl refl; result_bound = c.black_sum.ensures.result_bound }
