use Rattle.listing.proofs.Lines.{space}
use Rattle.listing.proofs.text_space.Goals as goal

pub returns : goal.returns
returns c =
    space 835584
