use mathlib.Core.Path.{sym, ap, ◌∙◌}
use mathlib.Core.List.{List, []}
use native.Mathlib.Omega.{arith}
use Rattle.opcodes.specs.Opcode.{Opcode}
use Rattle.opcodes.specs.Frame.{alone}
use Rattle.rows.proofs.Walks.{absent_is, value_is, value_read, alone_folded}
use Rattle.rows.proofs.list.list_at.Goals as goal

pub returns-then-bytes-eq0 : goal.returns-then-bytes-eq0
returns-then-bytes-eq0 c =
    let a = c.args in
    λ os e. sym (ap (λ (l : List Opcode). alone l a.row.0 a.column.0 a.plane a.x)
    (absent_is a.file.now a.size a.at a.bytes c.if-bytes-eq0.true os e)
    ∙ sym (alone_folded [] a.row.0 a.column.0 a.plane a.x))

pub field-requires : goal.field-requires
field-requires c =
    let pre = c.requires in
    let l = pre.list_read.0.some (omega (arith, c.if-bytes-eq0.false)) in omega (arith, l, pre.list_read.0.inside)

pub overflow_add-at : goal.overflow_add-at
overflow_add-at c =
    let good = c.well_formed in
    let pre = c.requires in
    let l = pre.list_read.0.some (omega (arith, c.if-bytes-eq0.false)) in omega (arith, l, pre.list_read.0.inside, good.0.1)

pub overflow_sub-bytes : goal.overflow_sub-bytes
overflow_sub-bytes c =
    c.requires.list_read.0.some (omega (arith, c.if-bytes-eq0.false))

pub opcodes_at-requires : goal.opcodes_at-requires
opcodes_at-requires c =
    let a = c.args in
    let pre = c.requires in record {
      opcodes_read = (value_read a.file.now a.size a.at a.bytes c.if-bytes-eq0.false _ c.field.ensures.0 pre.list_read.0, pre.list_read.1);
      x_value = pre.x_value;
    }

pub returns : goal.returns
returns c =
    let a = c.args in
    λ os e. c.opcodes_at.ensures os
    (value_is a.file.now a.size a.at a.bytes c.if-bytes-eq0.false _ c.field.ensures.0 os e)
