use Rattle.std.proofs.Common.{ap, ◌∙◌}
use lib.Ieee.{Float}
use Rattle.opcodes.specs.Facts.Bracket.{taken_of}
use Rattle.opcodes.proofs.gain_map.corners_gain.Goals as goal

pub returns : goal.returns
returns c =
    let down = c.args.down in
    let lower = c.taken-lower in
    c.taken.ensures ∙ ap (λ (a : Float). taken_of down a lower.result) c.taken-upper.ensures
    ∙ ap (taken_of down _) lower.ensures
