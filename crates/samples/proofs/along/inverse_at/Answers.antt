use mathlib.Core.Path.{ap, ◌∙◌}
use Prim.Native.Nat.{◌<◌}
use lib.IntN.{nat_abs}
use Rattle.levels.specs.Facts.Reciprocal.{inverse_of}
use Rattle.samples.proofs.Lines.{back}
use Rattle.samples.proofs.along.inverse_at.Goals as goal

pub inverse-requires : goal.inverse-requires
inverse-requires c =
    let z = c.span_at in
    let m : nat_abs z.result < 0x1_0000_0000 = rw z.ensures c.requires in
    rw (back z.result m) m

pub returns : goal.returns
returns c =
    let z = c.span_at in
    let m : nat_abs z.result < 0x1_0000_0000 = rw z.ensures c.requires in
    c.inverse.ensures ∙ ap inverse_of (back z.result m ∙ z.ensures)
