use Rattle.opcodes.specs.Opcode.{Opcode}
use Rattle.rows.specs.Facts.Sweep.{over_part}
use Rattle.rows.specs.Facts.Part.{AllInUnit}
use Rattle.rows.proofs.Walks.{Progress}
use Rattle.rows.proofs.list.opcodes_row.Given as goal

abbrev pub invariant-loop : goal.invariant-loop
invariant-loop l =
    Progress (λ (o : Opcode). over_part o l.row.0 l.column.0 l.size.samples) l.file l.size l.count l.at l.bytes l.counter l.p l.initial.out l.out
    × AllInUnit l.out
