use mathlib.Core.Path.{◌≡◌}
use Prim.Native.Nat.{◌+◌, ◌-◌, ◌*◌, ◌≤◌}
use lib.ListN.{length}
use Rattle.reading.specs.Reading.{run}
use Rattle.rawtags.specs.Strips.{strip_from}
use Rattle.rawtags.proofs.strips.check_strips.Given as goal

abbrev pub invariant-loop : goal.invariant-loop
invariant-loop l =
    let left = l.count - l.counter in
    let os = l.offsets.size in
    let cs = l.counts.size in
    (run l.file (strip_from (length l.file) l.order os cs l.rows l.row l.count l.initial.p l.initial.q l.lines)
    ≡ run l.file (strip_from (length l.file) l.order os cs l.rows l.row left l.p l.q l.rest))
    × (l.p + os * left ≤ length l.file) × (l.q + cs * left ≤ length l.file) × (l.rest ≤ l.lines)
