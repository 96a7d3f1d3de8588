use Prim.Native.Nat.{◌+◌}
use Rattle.listing.proofs.Lines.{Lined}
use Rattle.listing.proofs.put_line.Given as goal

abbrev pub invariant-loop-value : goal.invariant-loop-value
invariant-loop-value l = Lined l.values l.initial.text l.initial.end (l.value-index + 1) l.text l.end
