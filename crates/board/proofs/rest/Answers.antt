use Rattle.std.proofs.Common.{ℕ, ap, arith}
use lib.Ieee.{binary64, sub}
use Rattle.opcodes.specs.GainMap.{float_of}
use Rattle.opcodes.proofs.Places.{float_exact}
use Rattle.board.proofs.rest.Goals as goal

pub int_to_float-result : goal.int_to_float-result
int_to_float-result c =
    float_exact _ (omega (arith, c.whole.ensures, c.requires.2))

pub returns : goal.returns
returns c = ap (λ (n : ℕ). sub binary64 c.args.p (float_of n)) c.whole.ensures
