use Rattle.std.proofs.Common.{◌≡◌, pos, refl, arith}
use Rattle.reading.specs.Fraction.{fraction_of}
use Rattle.reading.specs.Number.{number_of, little_of}
use Rattle.levels.specs.Black.{value_of, black_of, black_at}
use Rattle.board.specs.Board.{board}
use Rattle.board.proofs.Holds.{row_holds}
use Rattle.board.proofs.example_2.Goals as goal
use Rattle.board.proofs.example_2.Goals.{After-parts_at-b}

-- the black in 256ths
black : (c : After-parts_at-b) → c.parts_at-b.result ≡ pos 0
unfolding number_of little_of fraction_of value_of black_of black_at
black c = c.parts_at-b.ensures.value

pub plain_level-requires : goal.plain_level-requires
plain_level-requires c =
    rw (black (goal.at.plain_level-requires c).After-parts_at-b) (omega arith, record { whole = refl; some = omega arith; small = omega arith })

pub returns : goal.returns
unfolding board number_of little_of fraction_of value_of black_of black_at
returns c =
    rw c.plain_level.ensures (rw c.parts_at-b.ensures.value (row_holds 2))
