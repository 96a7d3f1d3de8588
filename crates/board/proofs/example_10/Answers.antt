use lib.Ieee.{add, mul, div, to_bits, of_bits, is_nan}
use Rattle.board.specs.Board.{board}
use Rattle.board.proofs.Holds.{row_holds}
use Rattle.board.proofs.example_10.Goals as goal

pub bits_of-requires : goal.bits_of-requires
unfolding add mul div of_bits is_nan
bits_of-requires c =
    rw c.xyz_of-xyz.ensures.value tt

pub returns : goal.returns
unfolding board add mul div to_bits of_bits
returns c =
    rw c.bits_of.ensures (rw c.xyz_of-xyz.ensures.value (row_holds 10))
