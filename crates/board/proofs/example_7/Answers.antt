use lib.Ieee.{add, mul, le, to_bits, of_bits, is_nan}
use Rattle.levels.specs.Clip.{clip_of}
use Rattle.opcodes.specs.Step.{result_of, applied_of}
use Rattle.board.specs.Board.{board, example}
use Rattle.board.proofs.example_7.Goals as goal

pub bits_of-requires : goal.bits_of-requires
unfolding add mul le clip_of result_of applied_of of_bits is_nan
bits_of-requires c =
    let apply = c.apply-scaled in
    rw c.apply.ensures (rw apply.ensures tt)

pub bits_of-requires-2 : goal.bits_of-requires-2
unfolding add mul le clip_of result_of applied_of of_bits is_nan
bits_of-requires-2 c =
    let apply2 = c.apply-raised in
    rw c.apply-2.ensures (rw apply2.ensures tt)

pub returns : goal.returns
unfolding board example to_bits add mul le clip_of result_of applied_of of_bits
returns c =
    let apply = c.apply-scaled in
    let apply2 = c.apply-raised in
    let apply3 = c.apply in
    let bits_of = c.bits_of in
    rw (c.bits_of-2.ensures, bits_of.ensures) (rw (c.apply-2.ensures, apply3.ensures)
    (rw (apply2.ensures, apply.ensures)))
