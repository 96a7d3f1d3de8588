use Prim.Native.Nat.{◌*◌}
use Rattle.half.specs.Half.{block_in}
use Rattle.develop.specs.Calls.{alone_in}
use Rattle.develop.specs.Facts.Fill.{number_of, Upto}
use Rattle.develop.specs.Facts.View.{Viewed}
use Rattle.half.proofs.half_window.fill_blocks.Given as goal

abbrev pub invariant-loop-from : goal.invariant-loop-from
invariant-loop-from l =
    (q : Viewed l.file l.view) →
    Upto (number_of (block_in l.half (alone_in l.file q.file)) l.blocks 3) l.blocks.height (l.blocks.width * 3) (l.from * 3) l.out
