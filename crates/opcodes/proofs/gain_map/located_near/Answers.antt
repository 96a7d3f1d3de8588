use Rattle.std.proofs.Common.{sym, ap, ◌∙◌, arith}
use lib.Ieee.{Float, lt}
use Rattle.opcodes.proofs.Places.{axis_number}
use Rattle.opcodes.proofs.BracketLaws.{along_one, bracket_near}
use Rattle.opcodes.proofs.gain_map.located_near.Goals as goal
use Rattle.opcodes.proofs.gain_map.located_near.Goals.{Start}

pub returns-then-points-eq1 : goal.returns-then-points-eq1
returns-then-points-eq1 c =
    (λ g. along_one _ _ g c.if-points-eq1.true, omega (arith, c.requires.axis_in.0.some))

pub returns-then-p-corners : goal.returns-then-p-corners
returns-then-p-corners c =
    let a = c.args in
    let h = c.requires.corners_in in
    let p = c.place-p in
    let low = ap (λ (x : Float). lt x p.result) (sym h.0) ∙ c.if-corners-p.true in
    let high = ap (lt p.result) (sym h.1) ∙ c.if-p-corners.true in
    let near = bracket_near a.axis.points a.corners.point p.result h.2 c.requires.axis_in.0.most low high in
    (rw (h.0, ← p.ensures) near.0, near.1)

pub bracket_at-requires : goal.bracket_at-requires
bracket_at-requires c =
    let a = c.args in
    let h = c.requires.axis_in in
    let more = c.if-points-eq1.false in
    (omega (arith, h.0.some), h.0.most, axis_number a.axis a.size a.n _ h.0 more h.1 h.2 c.place-p.ensures)
