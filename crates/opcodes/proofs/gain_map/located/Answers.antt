use Rattle.std.proofs.Common.{arith}
use Rattle.opcodes.proofs.Places.{axis_number}
use Rattle.opcodes.proofs.BracketLaws.{along_one}
use Rattle.opcodes.proofs.gain_map.located.Goals as goal
use Rattle.opcodes.proofs.gain_map.located.Goals.{Start}

pub returns-then-points-eq1 : goal.returns-then-points-eq1
returns-then-points-eq1 c =
    (λ g. along_one _ _ g c.if-points-eq1.true, omega (arith, c.requires.0.some))

pub bracket_at-requires : goal.bracket_at-requires
bracket_at-requires c =
    let h = c.requires in
    let more = c.if-points-eq1.false in (
      omega (arith, h.0.some),
      h.0.most,
      axis_number c.args.axis c.args.size c.args.n _ h.0 more h.1 h.2 c.place.ensures,
    )
