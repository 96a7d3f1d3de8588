use Rattle.std.proofs.Common.{ap, ◌∙◌}
use Rattle.opcodes.specs.GainMap.{whole_of, rest_of}
use Rattle.board.specs.Board.{bits, board}
use Rattle.board.proofs.Holds.{row_holds}
use Rattle.board.proofs.Shading.{row_number, column_number, row_counted, column_counted}
use Rattle.board.proofs.gain_map_places.Goals as goal
use Rattle.board.proofs.gain_map_places.Goals.{After-bits_of-3}

pub bits_of-requires : goal.bits_of-requires
bits_of-requires c =
    rw c.row_place-row.ensures row_number.0

pub rest-requires : goal.rest-requires
rest-requires c =
    rw c.row_place-row.ensures row_counted

pub bits_of-requires-2 : goal.bits_of-requires-2
bits_of-requires-2 c =
    rw (c.rest.ensures ∙ ap rest_of c.row_place-row.ensures) row_number.1

pub bits_of-requires-3 : goal.bits_of-requires-3
bits_of-requires-3 c =
    rw c.column_place-column.ensures column_number.0

pub rest-requires-2 : goal.rest-requires-2
rest-requires-2 c =
    let column-place = c.column_place-column in
    rw column-place.ensures column_counted

pub bits_of-requires-4 : goal.bits_of-requires-4
bits_of-requires-4 c =
    let column-place = c.column_place-column in
    rw (c.rest-2.ensures ∙ ap rest_of column-place.ensures) column_number.1

pub whole-requires : goal.whole-requires
whole-requires c =
    let row-place = c.row_place-row in
    rw row-place.ensures (row_counted.0, row_counted.1)

pub whole-requires-2 : goal.whole-requires-2
whole-requires-2 c =
    let column-place = c.column_place-column in
    rw column-place.ensures (column_counted.0, column_counted.1)

pub returns : goal.returns
unfolding board
returns c =
    let rest2 = c.rest-2 in
    let r = c.row_place-row.ensures in
    let k = c.column_place-column.ensures in
    let e1 = c.bits_of.ensures ∙ ap bits r in
    let e2 = c.bits_of-2.ensures ∙ ap bits (c.rest.ensures ∙ ap rest_of r) in
    let e3 = c.bits_of-3.ensures ∙ ap bits k in
    let e4 = c.bits_of-4.ensures ∙ ap bits (rest2.ensures ∙ ap rest_of k) in
    rw (e1, e2, e3, e4, c.whole.ensures ∙ ap whole_of r, c.whole-2.ensures ∙ ap whole_of k) (row_holds 11)
