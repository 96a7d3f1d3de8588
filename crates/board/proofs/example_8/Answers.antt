use lib.Ieee.{add, mul, le, to_bits, of_bits, is_nan}
use Rattle.reading.specs.Real.{real_of}
use Rattle.reading.specs.Number.{number_of, big_of}
use Rattle.levels.specs.Run.{run_of}
use Rattle.levels.specs.Clip.{clip_of}
use Rattle.opcodes.specs.Step.{horner_of, result_of, applied_of, polynomial_of}
use Rattle.board.specs.Board.{board, example}
use Rattle.board.proofs.example_8.Goals as goal

pub apply-requires : goal.apply-requires
unfolding polynomial_of
apply-requires c =
    rw c.polynomial_at-p.ensures tt

pub bits_of-requires : goal.bits_of-requires
unfolding add mul le clip_of horner_of result_of applied_of number_of big_of real_of of_bits run_of polynomial_of is_nan
bits_of-requires c =
    rw c.apply.ensures (rw c.polynomial_at-p.ensures tt)

pub apply-requires-2 : goal.apply-requires-2
unfolding polynomial_of
apply-requires-2 c =
    let polynomial-at = c.polynomial_at-p in
    rw polynomial-at.ensures tt

pub bits_of-requires-2 : goal.bits_of-requires-2
unfolding add mul le clip_of horner_of result_of applied_of number_of big_of real_of of_bits run_of polynomial_of is_nan
bits_of-requires-2 c =
    let polynomial-at = c.polynomial_at-p in
    rw c.apply-2.ensures (rw polynomial-at.ensures tt)

pub returns : goal.returns
unfolding board example to_bits add mul le clip_of horner_of result_of applied_of number_of big_of real_of of_bits run_of polynomial_of
returns c =
    let polynomial-at = c.polynomial_at-p in
    let apply = c.apply in
    let bits_of = c.bits_of in
    rw (c.bits_of-2.ensures, bits_of.ensures) (rw (c.apply-2.ensures, apply.ensures)
    (rw polynomial-at.ensures))
