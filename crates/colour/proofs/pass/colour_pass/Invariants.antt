use Prim.Native.Nat.{◌*◌}
use Rattle.colour.proofs.Passes.{Passed}
use Rattle.colour.proofs.pass.colour_pass.Given as goal

abbrev pub invariant-loop-k : goal.invariant-loop-k
invariant-loop-k l = Passed l.colour (3 * l.k) l.initial.out l.out
