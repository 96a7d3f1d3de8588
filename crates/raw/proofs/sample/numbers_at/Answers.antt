use mathlib.Core.Path.{ap, ◌∙◌}
use native.Mathlib.Omega.{arith}
use lib.IntN.{ℤ}
use mir.Syntax.{w64}
use mir.Val.{SFits}
use mir.Facts.{to_z-of_z}
use Rattle.levels.specs.Level.{level_of}
use Rattle.raw.proofs.TagFacts.{table_inside, numbers_are, span_in}
use borrow.Author.Rules.{rules}
use Rattle.raw.proofs.sample.numbers_at.Goals as goal

pub through-table_value-requires : goal.through-table_value-requires
through-table_value-requires c =
    table_inside c.args.source.file.now c.args.source.order c.args.source.raw.tags c.args.source.within.tags

pub cell_at-cell-requires : goal.cell_at-cell-requires
cell_at-cell-requires c =
    c.requires.plane

pub delta_at-column_delta-requires : goal.delta_at-column_delta-requires
delta_at-column_delta-requires c =
    let q = c.args.source.within.tags.levels.column_deltas in
    (q.inside, λ n. (q.sized n, omega (arith, q.enough n, c.requires.column)))

pub delta_at-row_delta-requires : goal.delta_at-row_delta-requires
delta_at-row_delta-requires c =
    let q = c.args.source.within.tags.levels.row_deltas in
    (q.inside, λ n. (q.sized n, omega (arith, q.enough n, c.requires.row)))

pub level-level-requires : goal.level-level-requires
level-level-requires c =
    let difference = c.difference in
    let fs : SFits w64 c.span_at.result = search rules in
    let fd : SFits w64 difference.result = search rules in
    rw (to_z-of_z fs, to_z-of_z fd) (difference.ensures.result_bound, rw c.span_at.ensures (c.args.source.within.spans c.args.plane c.requires.plane))

pub returns : goal.returns
returns c =
    let a = c.args in
    let f = a.source.file.now in
    let stored_at = c.stored_at-stored in
    let through = c.through-table_value in
    let cell_at = c.cell_at-cell in
    let across = c.delta_at-column_delta in
    let down = c.delta_at-row_delta in
    let greatest = c.greatest_at-greatest_black in
    let difference = c.difference in
    let span-at = c.span_at in
    let fc : SFits w64 cell_at.result = search rules in
    let fa : SFits w64 across.result = search rules in
    let fr : SFits w64 down.result = search rules in
    let fb : SFits w64 c.black_sum-black.result = search rules in
    let fs : SFits w64 span-at.result = search rules in
    let fg : SFits w64 greatest.result = search rules in
    let fd : SFits w64 difference.result = search rules in
    let eb = rw (to_z-of_z fc, to_z-of_z fa, to_z-of_z fr) at c.black_sum-black.ensures.value in
    let es = span-at.ensures ∙ span_in f a.source.order a.source.raw c.args.source.within a.plane c.requires.plane in
    let ed = rw (to_z-of_z fb) at difference.ensures.value in
    let el = rw (to_z-of_z fd, to_z-of_z fs) at c.level-level.ensures ∙ ap (λ (d : ℤ). level_of d span-at.result) ed in
    rw (to_z-of_z fc, to_z-of_z fa, to_z-of_z fr, to_z-of_z fb, to_z-of_z fg)
    (numbers_are f a.source.order a.source.raw.tags a.row.0 a.column.0 a.plane c.args.source.within.tags _ _ _ _ _ _ _ _ span-at.result
    stored_at.ensures through.ensures cell_at.ensures.value across.ensures.value down.ensures.value eb greatest.ensures es el)
