use Rattle.std.proofs.Common.{rules}
use Rattle.rawtags.specs.Lists.{list_tag_reading}
use Rattle.rawtags.proofs.Chain.{on, off, exit}
use Rattle.rawtags.proofs.lists.list_of.Goals as goal

pub returns-in_err-not_carried-2 : goal.returns-in_err-not_carried-2
unfolding list_tag_reading
returns-in_err-not_carried-2 c = (
  exit _ _ _ _ c.from_residual-in_err-not_carried-2.ensures.1 (on _ _ _ c.in_ok-not_carried.ensures
      (off _ _ _ c.in_err-not_carried-2.ensures)),
  search rules,
)

pub returns : goal.returns
unfolding list_tag_reading
returns c =
    (on _ _ _ c.in_ok-not_carried.ensures (on _ _ _ c.in_ok-not_carried-2.ensures (c.look_up.ensures.0)), c.look_up.ensures.1)
