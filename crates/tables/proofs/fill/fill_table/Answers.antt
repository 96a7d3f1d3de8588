use mathlib.Core.Path.{ap, ◌∙◌}
use Prim.Native.Nat.{◌≤◌}
use native.Mathlib.Omega.{arith}
use lib.IntN.{nat_abs}
use Rattle.levels.specs.Facts.Reciprocal.{of_parts, inverse_of}
use Rattle.raw.proofs.TagFacts.{span_in}
use Rattle.samples.proofs.Lines.{back}
use Rattle.tables.proofs.TableLaws.{table_holds}
use Rattle.tables.proofs.fill.fill_table.Goals as goal

pub returns : goal.returns
returns c =
    let cell = c.cell_at-cell in
    let s = c.span_at in
    let f = c.args.source.file.now in
    let r = c.args.source.raw in
    let some = c.args.source.within.tags.frame.some_samples in
    let m : nat_abs s.result ≤ 67107840 = rw s.ensures (c.args.source.within.spans 0 some).small in
    table_holds f c.args.source.order r c.args.source.within c.args.row.0 c.args.column.0 c.fill_values.new.values _ _
    (c.number_of-black.ensures ∙ ap of_parts (back cell.result (omega (arith, cell.ensures.result_bound)) ∙ cell.ensures.value))
    (c.inverse-inverse.ensures ∙ ap inverse_of (back s.result (omega arith) ∙ s.ensures ∙ span_in f c.args.source.order r c.args.source.within 0 some))
    c.fill_values.ensures
