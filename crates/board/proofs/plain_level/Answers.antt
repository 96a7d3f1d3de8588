use Rattle.std.proofs.Common.{ℕ, ℤ, pos, ◌+ℤ◌, sym, ap, ◌∙◌, subst, to_z-of_z, w64, SFits, rules}
use lib.IntN.{+ℤ_idr}
use Rattle.levels.specs.Level.{difference_of}
use Rattle.levels.specs.Facts.Reciprocal.{SpanIn}
use Rattle.levels.specs.Run.{run_of}
use Rattle.levels.specs.Table.{through_of}
use Rattle.levels.specs.Levels.{max_from, max_of, max_below, cell_for, black_for, greatest_black, span_of, level_at}
use Rattle.board.proofs.plain_level.Goals as goal
use Rattle.board.proofs.plain_level.Goals.{Start}

-- a black with no deltas
sums : (w : ℕ) (z : ℤ) → SpanIn (difference_of w z) → SpanIn (difference_of w (z +ℤ pos 0 +ℤ pos 0))
sums w z h = subst (λ (y : ℤ). SpanIn (difference_of w y)) (sym (ap (λ (y : ℤ). y +ℤ pos 0) (+ℤ_idr z) ∙ +ℤ_idr z)) h

pub level-requires : goal.level-requires
level-requires c =
    let s = c.black_sum-b in
    let d = c.difference in
    let e = c.difference-2 in
    let fs : SFits w64 s.result = search rules in
    let fd : SFits w64 d.result = search rules in
    let fe : SFits w64 e.result = search rules in
    rw (to_z-of_z fd, to_z-of_z fe) (
      d.ensures.result_bound,
      rw e.ensures.value (rw (to_z-of_z fs)
          (rw (s.ensures.value, to_z-of_z c.ranges.black) (sums c.args.white c.args.black c.requires.1))),
    )

pub returns : goal.returns
unfolding run_of through_of max_from max_of max_below cell_for black_for greatest_black span_of level_at
returns c =
    let fits = c.ranges in
    let s = c.black_sum-b in
    let d = c.difference in
    let e = c.difference-2 in
    let fs : SFits w64 s.result = search rules in
    let fd : SFits w64 d.result = search rules in
    let fe : SFits w64 e.result = search rules in
    c.level.ensures
    ∙ rw (to_z-of_z fd, to_z-of_z fe) (rw (d.ensures.value, e.ensures.value) (rw (to_z-of_z fs) (rw (s.ensures.value, to_z-of_z fits.black))))
