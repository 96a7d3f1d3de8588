use Prim.Native.Nat.{◌*◌}
use Rattle.develop.specs.Calls.{alone_in}
use Rattle.develop.specs.Facts.Fill.{FillIn, number_of, Upto}
use Rattle.develop.proofs.fill.fill_window.Given as goal

abbrev pub invariant-loop-from : goal.invariant-loop-from
invariant-loop-from l =
    (q : FillIn l.file l.view l.window l.initial.out) → let n = l.view.size.samples in
    Upto (number_of (alone_in l.file q.file.file) l.window n) l.window.height (l.window.width * n) (l.from * n) l.out
