use Rattle.reading.proofs.Reading.{running}
use Rattle.rawtags.specs.Layout.{depth_reading}
use Rattle.rawtags.proofs.Chain.{on}
use Rattle.rawtags.proofs.layout.depth.Goals as goal

pub returns : goal.returns
unfolding depth_reading
returns c =
    let q = rw c.required-rule.ensures at c.in_ok-v.ensures.0 in
    (on _ _ _ q (simp (running, ← c.value-bits.ensures) c.depth_from.ensures.0), c.depth_from.ensures.1)
