use mathlib.Core.Path.{◌≡◌}
use Prim.Native.Nat.{◌+◌, ◌*◌}
use Rattle.develop.specs.Facts.Fill.{Upto}
use Rattle.develop.specs.Facts.View.{Viewed}
use Rattle.develop.proofs.Windows.{Partly, value_of}
use Rattle.develop.proofs.fill.fill_columns.Given as goal

abbrev pub invariant-loop-i : goal.invariant-loop-i
invariant-loop-i l =
    (l.a ≡ l.i * l.m + l.from * l.view.size.samples)
    × ((q : Viewed l.file l.view) → Upto (value_of l.file l.view q l.top l.left) l.height l.m (l.from * l.view.size.samples) l.initial.out
    → Partly (value_of l.file l.view q l.top l.left) l.height l.m (l.from * l.view.size.samples) l.n l.i l.out)
