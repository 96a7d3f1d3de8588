use Rattle.board.specs.Board.{board}
use Rattle.board.proofs.Holds.{row_holds}
use Rattle.board.proofs.example_6.Goals as goal

pub returns : goal.returns
unfolding board
returns c =
    let on_row = c.on_row in
    let on-row2 = c.on_row-2 in
    let on-row3 = c.on_row-3 in
    let on-row4 = c.on_row-4 in
    let on-row5 = c.on_row-5 in
    let on-row6 = c.on_row-6 in
    let on-row7 = c.on_row-7 in
    rw (c.lines-3.ensures, c.lines-2.ensures, c.lines.ensures)
    (rw (on_row.ensures, on-row2.ensures, on-row3.ensures, on-row4.ensures, on-row5.ensures, on-row6.ensures, on-row7.ensures)
    (row_holds 6))
