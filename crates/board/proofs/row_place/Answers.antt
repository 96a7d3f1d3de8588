use Rattle.std.proofs.Common.{ap, ◌∙◌}
use Rattle.opcodes.specs.GainMap.{place_of, down_of, gain_map_of}
use Rattle.opcodes.specs.declared.gain_map.Axis.{Axis}
use Rattle.board.proofs.row_place.Goals as goal

pub returns : goal.returns
unfolding gain_map_of
returns c =
    let gain-map-bytes = c.gain_map_bytes-ps in
    let e = c.down_axis.ensures ∙ ap down_of gain-map-bytes.ensures in
    c.place.ensures ∙ ap (λ (a : Axis). place_of a 4 1) e
