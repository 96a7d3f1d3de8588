use mathlib.Core.Path.{sym, ap, ◌∙◌}
use mathlib.Core.List.{List, []}
use native.Mathlib.Omega.{arith}
use Rattle.opcodes.specs.Opcode.{Opcode}
use Rattle.rows.specs.Facts.ListPart.{alone_part}
use Rattle.rows.proofs.Walks.{absent_is, value_is, value_read, part_folded}
use Rattle.rows.proofs.list.list_row.Goals as goal

pub returns-then-bytes-eq0 : goal.returns-then-bytes-eq0
returns-then-bytes-eq0 c =
    let a = c.args in
    λ os e. sym (ap (λ (l : List Opcode). alone_part l a.row.0 a.column.0 a.size.samples a.out.now)
    (absent_is a.file.now a.size a.at a.bytes c.if-bytes-eq0.true os e)
    ∙ sym (part_folded [] a.row.0 a.column.0 a.size.samples a.out.now))

pub field-requires : goal.field-requires
field-requires c =
    let pre = c.requires in
    let l = pre.list_read.0.some (omega (arith, c.if-bytes-eq0.false)) in omega (arith, l, pre.list_read.0.inside)

pub overflow_add-at : goal.overflow_add-at
overflow_add-at c =
    let good = c.well_formed in
    let pre = c.requires in
    let l = pre.list_read.0.some (omega (arith, c.if-bytes-eq0.false)) in omega (arith, l, pre.list_read.0.inside, good.0.1)

pub overflow_sub-bytes : goal.overflow_sub-bytes
overflow_sub-bytes c =
    let pre = c.requires in
    pre.list_read.0.some (omega (arith, c.if-bytes-eq0.false))

pub opcodes_row-requires : goal.opcodes_row-requires
opcodes_row-requires c =
    let a = c.args in
    let pre = c.requires in record {
      opcodes_read = (
        value_read a.file.now a.size a.at a.bytes c.if-bytes-eq0.false _ c.field.ensures.0 pre.list_read.0,
        pre.list_read.1,
        pre.list_read.2,
      );
      all_in_unit = pre.all_in_unit;
    }

pub returns : goal.returns
returns c =
    let a = c.args in
    let if1 = c.if-bytes-eq0 in
    let field = c.field in
    λ os e. c.opcodes_row.ensures os
    (value_is a.file.now a.size a.at a.bytes if1.false _ field.ensures.0 os e)
