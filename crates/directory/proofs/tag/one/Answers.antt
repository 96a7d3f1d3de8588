use mathlib.Core.Path.{sym, ◌∙◌}
use Rattle.directory.specs.Tag.{one_reading}
use Rattle.directory.proofs.Outs.{bind_is}
use Rattle.directory.proofs.Tags.{first_default, first_is}
use Rattle.directory.proofs.tag.one.Goals as goal

pub returns-then-v-eq0 : goal.returns-then-v-eq0
unfolding one_reading
returns-then-v-eq0 c =
    (c.judged.ensures.0 ∙ first_default _ _ _ _ _ _ c.if-v-eq0.true ∙ sym (bind_is _ _ _ _ c.in_ok-v.ensures.0), c.judged.ensures.1)

pub returns : goal.returns
unfolding one_reading
returns c = (
  c.judged-2.ensures.0 ∙ first_is _ _ _ _ _ _ c.if-v-eq0.false _ c.value.ensures ∙ sym (bind_is _ _ _ _ c.in_ok-v.ensures.0),
  c.judged-2.ensures.1,
)
