use Rattle.std.proofs.Common.{not, sym, ap, ◌∙◌}
use Rattle.opcodes.proofs.GainMaps.{nan_not_above}
use Rattle.opcodes.proofs.gain_map.above.Goals as goal

pub returns-else-not-nan_pattern : goal.returns-else-not-nan_pattern
returns-else-not-nan_pattern c =
    let e = c.if-not-nan_pattern.false in
    ap not e ∙ rw (← c.eight-n.ensures) (nan_not_above _ (sym c.nan_pattern.ensures ∙ e))
