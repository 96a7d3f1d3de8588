use Rattle.std.proofs.Common.{refl, ◌∙◌, to_z-of_z, w64, SFits, rules}
use Rattle.levels.proofs.SignedOrder.{sum_same}
use Rattle.board.proofs.short_black.Goals as goal

pub returns : goal.returns
returns c =
    let b = c.parts_at-b in
    let d = c.parts_at-column in
    let fs : SFits w64 c.black_sum.result = search rules in
    let fb : SFits w64 b.result = search rules in
    let fd : SFits w64 d.result = search rules in
    let e = rw (to_z-of_z fb, to_z-of_z fd) at c.black_sum.ensures.value in
    rw (to_z-of_z fs) record { value = e ∙ sum_same b.ensures.value d.ensures.value refl; result_bound = c.black_sum.ensures.result_bound }
