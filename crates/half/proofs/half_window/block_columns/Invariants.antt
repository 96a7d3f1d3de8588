use mathlib.Core.Path.{◌≡◌}
use Prim.Native.Nat.{◌+◌, ◌*◌}
use lib.ListN.{length}
use Rattle.develop.specs.Facts.Fill.{Upto}
use Rattle.develop.specs.Facts.View.{Viewed}
use Rattle.develop.proofs.Windows.{Partly}
use Rattle.half.proofs.BlockLaws.{value}
use Rattle.half.proofs.half_window.block_columns.Given as goal

abbrev pub invariant-loop-i : goal.invariant-loop-i
invariant-loop-i l =
    (length l.pair ≡ 2048) × (l.a ≡ l.i * l.m + l.from * 3)
    × ((q : Viewed l.file l.view) → let x = value l.file l.view l.half q l.top l.left in
    Upto x l.height l.m (l.from * 3) l.initial.out → Partly x l.height l.m (l.from * 3) l.n l.i l.out)
