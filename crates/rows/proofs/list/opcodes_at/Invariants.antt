use mathlib.Core.Path.{◌≡◌}
use Rattle.opcodes.specs.Opcode.{Opcode, opcode_at}
use Rattle.levels.specs.Clip.{clip_of}
use Rattle.rows.proofs.Walks.{Progress}
use Rattle.rows.proofs.list.opcodes_at.Given as goal

abbrev pub invariant-loop : goal.invariant-loop
invariant-loop l =
    Progress (λ (o : Opcode). opcode_at o l.row.0 l.column.0 l.plane) l.file l.size l.count l.at l.bytes l.counter l.p l.x l.y × (clip_of l.y ≡ l.y)
