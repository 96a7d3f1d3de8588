use Rattle.colour.proofs.TagFacts.{short_kind, other_kind}
use Rattle.colour.proofs.tags.neutral_kind.Goals as goal

pub returns-in-Short : goal.returns-in-Short
returns-in-Short c = short_kind _ c.in-Short.is

pub returns-in_default : goal.returns-in_default
returns-in_default c = other_kind _ c.in_default.not-Short
