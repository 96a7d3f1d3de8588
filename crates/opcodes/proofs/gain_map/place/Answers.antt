use Rattle.std.proofs.Common.{refl}
use lib.Ieee.{of_bits}
use Rattle.opcodes.specs.GainMap.{place_of}
use Rattle.opcodes.proofs.gain_map.place.Goals as goal

pub returns : goal.returns
unfolding place_of of_bits
returns c =
    refl
