use Rattle.reading.proofs.Halves.{one_byte}
use Rattle.reading.proofs.number.byte.Goals as goal

pub returns-clause-value : goal.returns-clause-value
returns-clause-value c = one_byte c.args.order c.args.at c.args.s.now c.requires
