use Rattle.std.proofs.Common.{◌≡◌, ◌+◌, ◌-◌, ◌*◌}
use Rattle.opcodes.specs.OpcodeList.{refused_in}
use Rattle.opcodes.proofs.list.refused_in.Given as goal

abbrev pub invariant-loop : goal.invariant-loop
invariant-loop l = (l.p ≡ l.at + l.width * l.counter) × (refused_in l.width l.file l.p (l.n - l.counter) ≡ refused_in l.width l.file l.at l.n)
