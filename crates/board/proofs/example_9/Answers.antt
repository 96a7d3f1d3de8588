use lib.Ieee.{to_bits, of_bits, is_nan}
use Rattle.reading.specs.Real.{real_of}
use Rattle.reading.specs.Number.{number_of, big_of}
use Rattle.board.specs.Board.{example, board}
use Rattle.board.proofs.example_9.Goals as goal

pub float_number-requires : goal.float_number-requires
unfolding number_of big_of real_of of_bits is_nan
float_number-requires c =
    tt

pub float_number-requires-2 : goal.float_number-requires-2
unfolding number_of big_of real_of of_bits is_nan
float_number-requires-2 c =
    tt

pub float_number-requires-3 : goal.float_number-requires-3
unfolding number_of big_of real_of of_bits is_nan
float_number-requires-3 c =
    tt

pub returns : goal.returns
unfolding board example to_bits number_of big_of real_of of_bits
returns c =
    let float-number = c.float_number in
    rw (c.float_number-3.ensures, c.float_number-2.ensures, float-number.ensures)
