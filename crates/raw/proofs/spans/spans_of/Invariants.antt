use Rattle.reading.specs.Reading.{run}
use Rattle.raw.specs.Stored.{levels_reading}
use Rattle.raw.proofs.SpanLaws.{Found}
use Rattle.raw.proofs.spans.spans_of.Given as goal

-- S of the planes before this one is positive, and in its place.
abbrev pub invariant-loop-plane : goal.invariant-loop-plane
invariant-loop-plane l = Found (run l.source.file.now (levels_reading l.source.order l.source.tags)) l.plane l.planes
