use native.Mathlib.Omega.{arith}
use Rattle.samples.proofs.scaled.scaled_with_deltas.Goals as goal
use Rattle.samples.proofs.scaled.scaled_with_deltas.Goals.{Start}

pub scaled_pieces-requires : goal.scaled_pieces-requires
scaled_pieces-requires c =
    record { line_in = c.requires.line_in; small = (c.requires.small.0, c.requires.small.1, λ h. absurd (omega (arith, c.if-deltas-eq0.true))) }

pub scaled_pieces-requires-else-deltas-eq0 : goal.scaled_pieces-requires-else-deltas-eq0
scaled_pieces-requires-else-deltas-eq0 c =
    record { line_in = c.requires.line_in; small = (c.requires.small.0, c.requires.small.1, λ h. c.requires.line_in.2) }

pub returns-then-deltas-eq0 : goal.returns-then-deltas-eq0
returns-then-deltas-eq0 c =
    c.scaled_pieces.ensures

pub returns-else-deltas-eq0 : goal.returns-else-deltas-eq0
returns-else-deltas-eq0 c =
    c.scaled_pieces-else-deltas-eq0.ensures
