use mathlib.Core.Path.{◌≡◌, sym, ap, ◌∙◌}
use Prim.Native.Nat.{◌<◌}
use native.Mathlib.Nat.{mod-eq_of_lt}
use native.Mathlib.Omega.{arith}
use borrow.Author.Rules.{rules}
use Rattle.reading.specs.Reading.{run}
use Rattle.levels.specs.Levels.{span_of}
use Rattle.levels.specs.Facts.Reciprocal.{inverse_of}
use Rattle.raw.specs.Facts.Spans.{span_at}
use Rattle.raw.specs.Stored.{levels_reading}
use Rattle.raw.proofs.TagFacts.{span_in}
use Rattle.samples.specs.Facts.Along.{span_along}
use Rattle.samples.proofs.Alongs.{span_next}
use Rattle.samples.proofs.along.inverses_row.Goals as goal

pub returns : goal.returns
returns c =
    let raw = c.args.source.raw in
    let n = raw.tags.frame.samples in
    let some = c.args.source.within.tags.frame.some_samples in
    let v = run c.args.source.file.now (levels_reading c.args.source.order raw.tags) in
    c.repeated.ensures (λ j. inverse_of (span_along v n j))
    (λ j x b h.
    let i : j < n = omega (arith, b, some) in
    let e : x ≡ inverse_of (span_at raw.spans j) = search rules in
    e ∙ ap inverse_of (span_in c.args.source.file.now c.args.source.order raw c.args.source.within j i ∙ ap (span_of v) (sym (mod-eq_of_lt i))))
    (λ j. ap inverse_of (span_next v n some j))
