use Rattle.std.proofs.Common.{◌≡◌, pos, refl, arith}
use Rattle.reading.specs.Fraction.{fraction_of}
use Rattle.reading.specs.Number.{number_of, little_of}
use Rattle.levels.specs.Black.{value_of, black_of, black_at}
use Rattle.board.specs.Board.{board}
use Rattle.board.proofs.Holds.{row_holds}
use Rattle.board.proofs.example_1.Goals as goal
use Rattle.board.proofs.example_1.Goals.{After-parts_at-b}

-- the black in 256ths
black : (c : After-parts_at-b) → c.parts_at-b.result ≡ pos 16384
unfolding number_of little_of fraction_of value_of black_of black_at
black c = c.parts_at-b.ensures.value

pub plain_level-requires : goal.plain_level-requires
plain_level-requires c =
    rw (black (goal.at.plain_level-requires c).After-parts_at-b) (omega arith, record { whole = refl; some = omega arith; small = omega arith })

pub plain_level-requires-2 : goal.plain_level-requires-2
plain_level-requires-2 c =
    rw (black (goal.at.plain_level-requires-2 c).After-parts_at-b) (omega arith, record { whole = refl; some = omega arith; small = omega arith })

pub plain_level-requires-3 : goal.plain_level-requires-3
plain_level-requires-3 c =
    rw (black (goal.at.plain_level-requires-3 c).After-parts_at-b) (omega arith, record { whole = refl; some = omega arith; small = omega arith })

pub plain_level-requires-4 : goal.plain_level-requires-4
plain_level-requires-4 c =
    rw (black (goal.at.plain_level-requires-4 c).After-parts_at-b) (omega arith, record { whole = refl; some = omega arith; small = omega arith })

pub plain_level-requires-5 : goal.plain_level-requires-5
plain_level-requires-5 c =
    rw (black (goal.at.plain_level-requires-5 c).After-parts_at-b) (omega arith, record { whole = refl; some = omega arith; small = omega arith })

pub plain_level-requires-6 : goal.plain_level-requires-6
plain_level-requires-6 c =
    rw (black (goal.at.plain_level-requires-6 c).After-parts_at-b)
    (omega arith, record { whole = refl; some = omega arith; small = omega arith })

pub returns : goal.returns
unfolding board number_of little_of fraction_of value_of black_of black_at
returns c =
    let parts_at = c.parts_at-b in
    let plain-level = c.plain_level in
    let plain-level2 = c.plain_level-2 in
    let plain-level3 = c.plain_level-3 in
    rw (
      c.plain_level-6.ensures,
      c.plain_level-5.ensures,
      c.plain_level-4.ensures,
      plain-level3.ensures,
      plain-level2.ensures,
      plain-level.ensures,
    ) (rw parts_at.ensures.value (row_holds 1))
