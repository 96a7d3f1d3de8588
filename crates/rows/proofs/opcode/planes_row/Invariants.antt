use mathlib.Core.Path.{◌≡◌}
use Prim.Native.Nat.{ℕ}
use lib.Ieee.{Float}
use Rattle.opcodes.specs.Step.{applied_of}
use Rattle.opcodes.specs.Facts.StepAt.{step_of}
use Rattle.rows.specs.Facts.Sweep.{planes_of}
use Rattle.rows.specs.Facts.Part.{AllInUnit}
use Rattle.rows.proofs.opcode.planes_row.Given as goal

abbrev pub invariant-loop-p : goal.invariant-loop-p
invariant-loop-p l =
    (l.out ≡ planes_of (λ (_ j : ℕ) (x : Float). applied_of (step_of l.file l.at l.id l.i j) l.file x) l.left l.right l.pitch l.l l.n l.plane l.p
    l.initial.out) × AllInUnit l.out
