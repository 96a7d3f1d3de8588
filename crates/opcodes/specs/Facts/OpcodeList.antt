-- What holds of an accepted value.
use Rattle.std.specs.Prelude.{ℕ, ◌+◌, List, ◌==◌}
use Rattle.reading.specs.Reading.{pick}
use Rattle.directory.specs.Out.{Out, Out.refused, Out.is}
use Rattle.opcodes.specs.Opcode.{Opcode, skipped, kept}
use Rattle.opcodes.specs.declared.list.Counts.{Counts}
use Rattle.opcodes.specs.declared.list.Kind.{Kind}
use Rattle.opcodes.specs.declared.list.Kind.TheVariants as kind
use Rattle.opcodes.specs.OpcodeList.{kept_in, skipped_in}

-- the id of a kind
abbrev pub id_of : Kind → ℕ
id_of kind.MapTable = 7
id_of kind.MapPolynomial = 8
id_of kind.GainMap = 9
id_of kind.DeltaPerRow = 10
id_of kind.DeltaPerColumn = 11
id_of kind.ScalePerRow = 12
id_of kind.ScalePerColumn = 13

-- the counts of an accepted list, on top of counts so far
abbrev pub none : Counts
none = record { kept = 0; skipped = 0 }

abbrev pub counted_on : Counts → Out (List Opcode) → Out Counts
counted_on c (refused n d) = refused n d
counted_on c (is os) = is (record { kept = c.kept + kept_in os; skipped = c.skipped + skipped_in os })

-- and of one opcode
abbrev pub counted_one : Counts → Out Opcode → Out Counts
counted_one c (refused n d) = refused n d
counted_one c (is skipped) = is (record { kept = c.kept; skipped = c.skipped + 1 })
counted_one c (is (kept g k)) = is (record { kept = c.kept + 1; skipped = c.skipped })

-- what the number of a fault, or 0, says of the i-th opcode's own bytes
abbrev pub tested : ℕ → ℕ → Out ℕ
tested n i = pick (n == 0) (is 0) (refused n i)
