use Rattle.std.proofs.Common.{◌≡◌, false, ap}
use lib.Ieee.{binary32}
use Rattle.reading.specs.Real.{refused_pattern}
use Rattle.reading.proofs.Pattern.{is_value, no_nan_pattern}
use Rattle.opcodes.specs.Step.{value_of}
use Rattle.opcodes.proofs.step_at.accepted_value.Goals as goal
use Rattle.opcodes.proofs.step_at.accepted_value.Goals.{After-long-x}

kept : (c : After-long-x) → refused_pattern binary32 c.long-x.result ≡ false
kept c = rw c.long-x.ensures c.requires.accepted

pub float_from_bits-x : goal.float_from_bits-x
float_from_bits-x c =
    no_nan_pattern binary32 c.long-x.result (kept (goal.at.float_from_bits-x c).After-long-x)

pub returns : goal.returns
returns c =
    rw (← c.long-x.ensures) (ap value_of (is_value binary32 c.long-x.result (kept (goal.at.returns c).After-long-x)))
