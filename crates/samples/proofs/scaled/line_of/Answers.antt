use mathlib.Core.Path.{refl, sym, ap, ◌∙◌}
use native.Mathlib.Omega.{arith}
use lib.IntN.{ℤ, pos}
use lib.ListN.{get_or}
use Rattle.levels.specs.Facts.Reciprocal.{of_parts}
use mathlib.Core.List.{List}
use Rattle.reading.specs.Reading.{run}
use Rattle.raw.specs.Sample.{place_of}
use Rattle.raw.specs.Stored.{numbers_reading}
use Rattle.raw.proofs.StoredLaws.{row_deltas_are}
use Rattle.samples.proofs.Lines.{back}
use Rattle.samples.proofs.scaled.line_of.Goals as goal
use Rattle.samples.proofs.scaled.line_of.Goals.{Start}

pub stored_row-r-requires : goal.stored_row-r-requires
stored_row-r-requires c =
    let a = c.args.source.within.tags.area in
    let b = c.args.source.within.tags.frame in
    (omega (arith, a.rows, a.bottom, b.rows), omega (arith, c.requires.0, a.bottom, b.rows))

pub stored_column-c-requires : goal.stored_column-c-requires
stored_column-c-requires c =
    let a = c.args.source.within.tags.area in
    let b = c.args.source.within.tags.frame in
    (omega (arith, a.columns, a.right, b.columns), omega (arith, c.requires.1, a.right, b.columns))

pub delta_at-down-requires : goal.delta_at-down-requires
delta_at-down-requires c =
    let q = c.args.source.within.tags.levels.row_deltas in
    (q.inside, λ h. (q.sized h, omega (arith, q.enough h, c.requires.0)))

pub place_of-requires : goal.place_of-requires
place_of-requires c =
    let a = c.args.source.within.tags.area in
    let r = c.stored_row-r.ensures in
    let l = c.stored_column-c.ensures in
    (omega (arith, r, c.requires.0, a.bottom), omega (arith, l, c.requires.1, a.right), c.args.source.within.tags.frame.some_samples)

pub number_of-requires : goal.number_of-requires
number_of-requires c = let h =
    c.delta_at-down.ensures.result_bound in rw (back c.delta_at-down.result (omega arith)) (omega arith)

pub returns : goal.returns
returns c =
    let Stored-row = c.stored_row-r in
    let stored-column = c.stored_column-c in
    let f = c.args.source.file.now in
    let t = c.args.source.raw.tags in
    let d = c.delta_at-down in
    let o = run f (numbers_reading c.args.source.order t.strips) in
    let e = d.ensures.value ∙ ap (λ (ds : List ℤ). get_or ds c.args.row.0 (pos 0)) (sym (row_deltas_are f c.args.source.order t)) in
    record {
      order = refl;
      bytes = refl;
      place =
          c.place_of.ensures.0
          ∙ (λ i. place_of t o (Stored-row.ensures i) (stored-column.ensures i) 0);
      table = refl;
      count = refl;
      down = record {
        small = rw (← e) d.ensures.result_bound;
        number = c.number_of.ensures ∙ ap of_parts (back d.result (omega (arith, d.ensures.result_bound)) ∙ e);
      };
    }
