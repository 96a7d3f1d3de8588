use Rattle.std.proofs.Common.{◌≡◌, ◌+◌, ◌-◌, ◌≤◌, length}
use Rattle.reading.specs.Reading.{run}
use Rattle.opcodes.specs.OpcodeList.{list_from}
use Rattle.opcodes.specs.Facts.OpcodeList.{none, counted_on}
use Rattle.opcodes.proofs.list.test_opcodes.Given as goal

abbrev pub invariant-loop-i : goal.invariant-loop-i
invariant-loop-i l =
    (counted_on l.counts (run l.file (list_from l.size (l.count - l.i) l.i l.p l.rest))
    ≡ counted_on none (run l.file (list_from l.size l.count 0 l.at l.bytes)))
    × (l.p + l.rest ≤ length l.file) × (l.counts.kept ≤ l.i) × (l.counts.skipped ≤ l.i)
