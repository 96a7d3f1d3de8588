use Rattle.develop.specs.Calls.{alone_in}
use Rattle.develop.specs.Facts.Fill.{number_of}
use Rattle.develop.specs.Facts.Tabled.{rows_met, RowsUpto}
use Rattle.develop.specs.Facts.View.{Viewed}
use Rattle.develop.proofs.tabled.fill_bands.Given as goal

abbrev pub invariant-loop-from : goal.invariant-loop-from
invariant-loop-from l =
    (q : Viewed l.file l.view) → let w = l.window in
    RowsUpto (number_of (alone_in l.file q.file) w l.view.size.samples) (rows_met l.view w) w.height w.width l.from l.out
