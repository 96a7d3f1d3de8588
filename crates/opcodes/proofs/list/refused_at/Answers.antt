use Rattle.std.proofs.Common.{ap, ◌∙◌, eq-eqb, ne_eqb}
use Rattle.reading.proofs.Reading.{pick_yes, pick_no}
use Rattle.opcodes.specs.OpcodeList.{refused_real}
use Rattle.opcodes.proofs.OpcodeLists.{refused_told}
use Rattle.opcodes.proofs.list.refused_at.Goals as goal

pub returns-then-width-eq8 : goal.returns-then-width-eq8
returns-then-width-eq8 c =
    refused_told _ _ c.is_none.ensures ∙ ap refused_real c.double_at.ensures ∙ simp (eq-eqb _ _ c.if-width-eq8.true, pick_yes)

pub returns-else-width-eq8 : goal.returns-else-width-eq8
returns-else-width-eq8 c =
    refused_told _ _ c.is_none-else-width-eq8.ensures ∙ ap refused_real c.float_at.ensures ∙ simp (ne_eqb _ _ c.if-width-eq8.false, pick_no)
