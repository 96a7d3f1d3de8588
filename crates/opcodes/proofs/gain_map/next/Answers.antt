use Rattle.opcodes.proofs.BracketLaws.{next_more, next_last}
use Rattle.opcodes.proofs.gain_map.next.Goals as goal

pub returns-then-k-points : goal.returns-then-k-points
returns-then-k-points c =
    (next_more c.args.points c.args.k c.if-k-points.true, c.if-k-points.true)

pub returns-else-k-points : goal.returns-else-k-points
returns-else-k-points c =
    (next_last c.args.points c.args.k c.if-k-points.false, c.requires.0)
