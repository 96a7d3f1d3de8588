use Rattle.std.proofs.Common.{true, false, sym, ◌∙◌, eq-eqb, ne_eqb, le-leb}
use Rattle.reading.specs.Reading.{pick}
use Rattle.opcodes.proofs.OpcodeLists.{class_carried, class_other}
use Rattle.opcodes.proofs.list.classify.Goals as goal

pub returns-then-header-le17236224 : goal.returns-then-header-le17236224
returns-then-header-le17236224 c = class_carried _ (sym c.listed.ensures ∙ c.if-listed.true) (le-leb _ _ c.if-header-le17236224.true)

pub returns-then-header-eq1 : goal.returns-then-header-eq1
unfolding pick
returns-then-header-eq1 c = class_other _ c.listed.ensures c.else-listed.either true (eq-eqb _ _ c.if-header-eq1.true)

pub returns-else-header-eq1 : goal.returns-else-header-eq1
unfolding pick
returns-else-header-eq1 c = class_other _ c.listed.ensures c.else-listed.either false (ne_eqb _ _ c.if-header-eq1.false)
