use Rattle.std.proofs.Common.{sym, ◌∙◌}
use Rattle.board.proofs.on_row.Goals as goal

pub returns-then-on : goal.returns-then-on
returns-then-on c =
    rw (sym c.on.ensures ∙ c.if-on.true)

pub returns-else-on : goal.returns-else-on
returns-else-on c =
    rw (sym c.on.ensures ∙ c.if-on.false)
