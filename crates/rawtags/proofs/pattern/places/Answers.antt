use mathlib.Core.Path.{sym, ◌∙◌}
use Rattle.rawtags.proofs.PatternLaws.{places_are}
use Rattle.rawtags.proofs.pattern.places.Goals as goal

pub returns-then-times-eq1-2 : goal.returns-then-times-eq1-2
returns-then-times-eq1-2 c =
    let first = c.first in
    let x = sym c.times.ensures ∙ c.if-times-eq1.true in
    let y = sym c.times-then-times-eq1.ensures ∙ c.if-times-eq2.true in
    let z = sym c.times-then-times-eq2.ensures ∙ c.if-times-eq1-2.true in
    places_are _ _ _ _ x y z _ _ _ _ first.ensures.0 c.first-then-times-eq1-2.ensures.0 c.last.ensures
    c.first-then-times-eq1-2-2.ensures.0
