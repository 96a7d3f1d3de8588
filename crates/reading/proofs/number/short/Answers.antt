use native.Mathlib.Omega.{arith}
use Rattle.reading.specs.Number.{number_of, little_of, big_of}
use Rattle.reading.proofs.Bytes.{two_bytes}
use Rattle.reading.proofs.number.short.Goals as goal

pub returns-in-Little : goal.returns-in-Little
unfolding number_of little_of
returns-in-Little c = rw (c.in-Little.is, two_bytes c.args.s.now c.args.at c.requires) (omega (arith, c.from_le_bytes.ensures))

pub returns-in-Big : goal.returns-in-Big
unfolding number_of big_of
returns-in-Big c = rw (c.in-Big.is, two_bytes c.args.s.now c.args.at c.requires) (omega (arith, c.from_be_bytes.ensures))
