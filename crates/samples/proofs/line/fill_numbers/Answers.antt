use mathlib.Core.Path.{ap, ◌∙◌}
use native.Mathlib.Omega.{arith}
use Rattle.levels.specs.Table.{table_of, through_of}
use Rattle.samples.proofs.Lines.{filled_more}
use Rattle.samples.proofs.line.fill_numbers.Goals as goal

pub loop-i-preserved : goal.loop-i-preserved
loop-i-preserved c =
    let l = c.loop-i in
    let t = table_of c.args.line.order c.args.file.now c.args.line.table c.args.line.count in
    λ down. filled_more 0 _ l.i l.out _ (omega arith) (l.invariant down) (c.through.ensures ∙ ap (through_of t) c.stored_at-stored.ensures)

pub returns : goal.returns
returns c k h =
    c.loop-i.invariant c.args.line.down k (omega arith)
