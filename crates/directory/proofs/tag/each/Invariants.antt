use mathlib.Core.Path.{◌≡◌}
use Prim.Native.Nat.{◌+◌, ◌-◌, ◌*◌, ◌≤◌, ◌<◌}
use lib.ListN.{length}
use Rattle.reading.specs.Reading.{run}
use Rattle.reading.specs.Facts.Number.{Wide}
use Rattle.directory.specs.Tag.{each_reading}
use Rattle.directory.proofs.tag.each.Given as goal

abbrev pub invariant-loop : goal.invariant-loop
invariant-loop l =
    (run l.file (each_reading l.order l.size l.tag l.range l.count l.place) ≡ run l.file (each_reading l.order l.size l.tag l.range (l.count - l.counter) l.p))
    × (l.p + l.size * (l.count - l.counter) ≤ length l.file) × (0 < (l.count - l.counter) → Wide l.size)
