use Rattle.std.proofs.Common.{◌≡◌, pos, refl, arith}
use Rattle.reading.specs.Fraction.{fraction_of}
use Rattle.reading.specs.Number.{number_of, little_of}
use Rattle.levels.specs.Black.{value_of, black_of, black_at}
use Rattle.levels.specs.Level.{level_of}
use Rattle.board.specs.Board.{board, example}
use Rattle.board.proofs.example_4.Goals as goal
use Rattle.board.proofs.example_4.Goals.{After-max-m, After-short_black-b}

-- B, top left, and M
top_left : (c : After-short_black-b) → c.short_black-b.result ≡ pos 3840
unfolding number_of little_of fraction_of value_of black_of black_at
top_left c = c.short_black-b.ensures.value

most : (c : After-max-m) → c.max-m.result ≡ pos 10240
unfolding number_of little_of fraction_of value_of black_of black_at
most c =
    rw (c.max-m.ensures.value, c.max-2.ensures.value, c.max.ensures.value)
    (rw (c.short_black-last.ensures.value, c.short_black-below.ensures.value)
    (rw (c.short_black-right.ensures.value, c.short_black-b.ensures.value)))

pub difference-requires-2 : goal.difference-requires-2
difference-requires-2 c =
    rw (most (goal.at.difference-requires-2 c).After-max-m) (omega arith)

pub level-l-requires : goal.level-l-requires
level-l-requires c =
    let place = goal.at.level-l-requires c in
    rw (c.difference-2.ensures.value, c.difference.ensures.value) (rw (most place.After-max-m, top_left place.After-short_black-b)
    (omega arith, record { whole = refl; some = omega arith; small = omega arith }))

pub overflow_cast-result : goal.overflow_cast-result
overflow_cast-result c =
    rw (most (goal.at.overflow_cast-result c).After-max-m) (tt, omega arith)

pub returns : goal.returns
unfolding board example level_of
returns c =
    let place = goal.at.returns c in
    rw c.level-l.ensures
    (rw (c.difference-2.ensures.value, c.difference.ensures.value) (rw (most place.After-max-m, top_left place.After-short_black-b)))
