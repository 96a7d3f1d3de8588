use mathlib.Core.Path.{◌≡◌}
use Prim.Native.Nat.{◌*◌}
use Rattle.develop.specs.Calls.{alone_in}
use Rattle.develop.specs.Facts.Fill.{number_of}
use Rattle.develop.specs.Facts.Tabled.{rows_met, RowsUpto}
use Rattle.develop.specs.Facts.View.{Viewed}
use Rattle.develop.proofs.Bands.{Banded}
use Rattle.develop.proofs.tabled.band_rows.Given as goal

abbrev pub invariant-loop-i : goal.invariant-loop-i
invariant-loop-i l =
    (l.a ≡ l.i * l.width)
    × ((q : Viewed l.file l.view) → let x = number_of (alone_in l.file q.file) l.window l.view.size.samples in
    let met = rows_met l.view l.window in
    RowsUpto x met l.window.height l.width l.from l.initial.out → Banded x met l.window.height l.width l.from l.count l.i l.out)
