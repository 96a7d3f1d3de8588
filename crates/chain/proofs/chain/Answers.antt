use Rattle.chain.proofs.ChainLaws.{explained}
use Rattle.chain.proofs.chain.Goals as goal

pub returns-clause-explained : goal.returns-clause-explained
returns-clause-explained c =
    explained c.args.file.now c.args.row c.args.column c.args.plane
