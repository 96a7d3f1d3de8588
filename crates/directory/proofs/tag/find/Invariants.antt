use mathlib.Core.Path.{◌≡◌}
use Prim.Native.Nat.{◌+◌, ◌-◌, ◌*◌, ◌≤◌}
use lib.ListN.{length}
use Rattle.reading.specs.Reading.{run}
use Rattle.directory.specs.Widths.{entry_width}
use Rattle.directory.specs.Tag.{find_from}
use Rattle.directory.proofs.tag.find.Given as goal

abbrev pub invariant-loop : goal.invariant-loop
invariant-loop l =
    let d = l.dir.ifd in
    (run l.dir.file.now (find_from d.widths d.order d.count d.at l.tag) ≡ run l.dir.file.now (find_from d.widths d.order (d.count - l.counter) l.p l.tag))
    × (l.p + entry_width d.widths * (d.count - l.counter) ≤ length l.dir.file.now)
