use Prim.Native.Nat.{ℕ, ◌*◌}
use Rattle.levels.specs.Run.{run_of}
use Rattle.half.specs.Half.{block_in}
use Rattle.half.specs.Facts.Half.{pair_of}
use Rattle.develop.proofs.Windows.{Rows}
use Rattle.half.proofs.half_window.blocks_of.Given as goal

abbrev pub invariant-loop-j : goal.invariant-loop-j
invariant-loop-j l =
    Rows (λ (c : ℕ). run_of (block_in l.half (pair_of l.pair (2 * l.count)) 0 c) 1 0 3) 3 0 l.j l.a l.initial.out l.out
