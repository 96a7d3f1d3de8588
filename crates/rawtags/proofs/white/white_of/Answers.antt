use Rattle.rawtags.specs.White.{white_reading}
use Rattle.rawtags.proofs.BlackLaws.{whites_in}
use Rattle.rawtags.proofs.white.white_of.Goals as goal

pub returns : goal.returns
unfolding white_reading
returns c =
    let q = rw (c.optional-rule.ensures, c.new.ensures) at c.all.ensures in
    (q.0, whites_in _ _ _ _ q.0 q.1)
