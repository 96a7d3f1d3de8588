use mathlib.Core.Path.{sym, ap, ◌∙◌}
use native.Mathlib.Omega.{arith}
use Rattle.opcodes.specs.Opcode.{Opcode}
use Rattle.rows.specs.Facts.Sweep.{over_part}
use Rattle.rows.proofs.Walks.{carried_in, carried_is, optional_is, compulsory_not, none_over}
use Rattle.rows.proofs.list.listed_row.Goals as goal

pub overflow_add-at : goal.overflow_add-at
overflow_add-at c =
    let pre = c.requires in
    omega (arith, pre.opcode_read.0.inside)

pub opcode_row-requires : goal.opcode_row-requires
opcode_row-requires c =
    let a = c.args in
    let pre = c.requires in
    let classify = c.classify in record {
      kept_in = (
        carried_in a.file.now a.size a.at a.header (sym c.in-Carried.is ∙ classify.ensures) pre.opcode_read.0,
        pre.opcode_read.1,
        pre.opcode_read.2,
      );
      all_in_unit = pre.all_in_unit;
    }

pub returns-in-Carried : goal.returns-in-Carried
returns-in-Carried c =
    let a = c.args in
    let classify = c.classify in
    λ i o e. c.opcode_row.ensures
    ∙ ap (λ (k : Opcode). over_part k a.row.0 a.column.0 a.size.samples a.out.now)
    (sym (carried_is a.file.now a.size a.at a.header (sym c.in-Carried.is ∙ classify.ensures) i o e))

pub returns-in-Optional : goal.returns-in-Optional
returns-in-Optional c =
    let a = c.args in
    λ i o e. none_over _ _ _ _ ∙ ap (λ (k : Opcode). over_part k a.row.0 a.column.0 a.size.samples a.out.now)
    (sym (optional_is a.file.now a.size a.at a.header
    (sym c.in-Optional.is ∙ c.classify.ensures) i o e))

pub returns-in-Compulsory : goal.returns-in-Compulsory
returns-in-Compulsory c =
    let a = c.args in
    λ i o e. absurd (compulsory_not a.file.now a.size a.at a.header
    (sym c.in-Compulsory.is ∙ c.classify.ensures) i o e)
