use Prim.Native.Nat.{◌*◌}
use Rattle.listing.proofs.Lines.{Lines}
use Rattle.listing.proofs.put_lines.Given as goal

abbrev pub invariant-loop-i : goal.invariant-loop-i
invariant-loop-i l = Lines l.values l.width l.height l.initial.text l.i (l.i * l.width) l.text l.end
