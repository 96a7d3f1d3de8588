use Rattle.std.proofs.Common.{refl}
use lib.Ieee.{of_bits}
use Rattle.opcodes.specs.GainMap.{between_of}
use Rattle.opcodes.proofs.gain_map.between.Goals as goal

pub returns : goal.returns
unfolding between_of of_bits
returns c =
    refl
