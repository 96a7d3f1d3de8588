use Rattle.reading.specs.Number.{number_of, little_of}
use Rattle.levels.specs.Table.{through_of}
use Rattle.levels.specs.Run.{run_of}
use Rattle.board.specs.Board.{board, example}
use Rattle.board.proofs.example_5.Goals as goal

pub returns : goal.returns
unfolding board example number_of little_of run_of through_of
returns c =
    rw (c.through-2.ensures, c.through.ensures)
