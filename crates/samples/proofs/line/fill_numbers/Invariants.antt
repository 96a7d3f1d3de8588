use lib.Ieee.{Float}
use Rattle.samples.specs.Facts.Line.{Filled, number_at}
use Rattle.samples.proofs.line.fill_numbers.Given as goal

abbrev pub invariant-loop-i : goal.invariant-loop-i
invariant-loop-i l =
    (down : Float) → Filled 0 (number_at l.file
    (record { order = l.order; bytes = l.bytes; place = l.place; table = l.table; count = l.count; down = down })) l.i l.out
