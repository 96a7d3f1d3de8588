use mathlib.Core.Path.{sym, ap, ◌∙◌}
use Prim.Native.Nat.{◌+◌, ◌/◌}
use native.Mathlib.Omega.{arith}
use lib.IntN.{pos}
use lib.ListN.{length, get_or}
use Rattle.levels.proofs.Fills.{fill_step, fill_end}
use Rattle.raw.proofs.StoredLaws.{column_deltas_are}
use Rattle.samples.proofs.Lines.{held_short}
use Rattle.samples.proofs.along.fill_deltas.Goals as goal

pub loop-i-preserved : goal.loop-i-preserved
loop-i-preserved c =
    let l = c.loop-i in
    let z = c.delta_at in
    let e = held_short z.result z.ensures.result_bound in
    fill_step _ l.i c.args.out.now l.out _ (omega (arith, l.invariant.same)) (e ∙ z.ensures.value) (rw e z.ensures.result_bound) l.invariant

pub returns : goal.returns
returns c =
    let l = c.loop-i in
    let e = fill_end _ l.i (length c.args.out.now) c.args.out.now l.out (omega arith) l.invariant in
    record {
      same = λ k h. e.0 k h ∙ ap (λ (ds : _). get_or ds (c.args.column.0 + k / c.args.source.tags.frame.samples) (pos 0))
          (sym (column_deltas_are c.args.source.file.now c.args.source.order c.args.source.tags));
      small = e.1;
      long = λ h. omega (arith, l.invariant.same);
    }
