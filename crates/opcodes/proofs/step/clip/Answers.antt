use lib.Ieee.{of_bits}
use Rattle.opcodes.proofs.Clips.{clip_inside, clip_under, clip_over, zero_not_over}
use Rattle.opcodes.proofs.step.clip.Goals as goal
use Rattle.opcodes.proofs.step.clip.Goals.{then-x, else-x}

pub returns-then-y : goal.returns-then-y
unfolding of_bits
returns-then-y c =
    elim c.if-x.branch [
      | then-x w ↦ clip_inside _ _ w.if-x.true w.y-is c.if-y.true
      | else-x w ↦ clip_under _ _ w.if-x.false w.y-is
    ]

pub returns-else-y : goal.returns-else-y
unfolding of_bits
returns-else-y c =
    elim c.if-x.branch [
      | then-x w ↦ clip_over _ _ w.if-x.true w.y-is c.if-y.false
      | else-x w ↦ absurd (zero_not_over c.args.x c.if-x.y w.y-is c.if-y.false)
    ]
