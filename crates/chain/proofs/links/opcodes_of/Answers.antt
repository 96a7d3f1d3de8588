use native.Mathlib.Omega.{arith}
use Rattle.chain.proofs.LinkLaws.{opcodes_none, opcodes_some}
use borrow.Author.Rules.{rules}
use Rattle.chain.proofs.links.opcodes_of.Goals as goal

pub returns-then-list-eq0 : goal.returns-then-list-eq0
returns-then-list-eq0 c =
    opcodes_none c.args.file.now c.args.size c.args.list c.requires c.if-list-eq0.true

pub field-requires : goal.field-requires
field-requires c =
    let l = c.requires.some (omega (arith, c.if-list-eq0.false)) in
    omega (arith, l, c.requires.inside)

pub overflow_sub-result : goal.overflow_sub-result
overflow_sub-result c =
    c.requires.some (omega (arith, c.if-list-eq0.false))

pub returns : goal.returns
returns c =
    opcodes_some c.args.file.now c.args.size c.args.list c.requires c.if-list-eq0.false _ c.field.ensures.0
