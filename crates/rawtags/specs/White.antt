-- The linearization table and the white levels: LinearizationTable, WhiteLevel.
use Rattle.directory.specs.Names.{linearization_table, white_level}
use Rattle.std.specs.Prelude.{false, ℕ}
use Rattle.reading.specs.Reading.{Reading}
use Rattle.directory.specs.Out.{Out}
use Rattle.directory.specs.Tag.{values_reading, all_reading, rule, optional, range}
use Rattle.directory.specs.declared.Ifd.{Ifd}
use Rattle.directory.specs.declared.tag.Kinds.TheVariants as kinds
use Rattle.directory.specs.declared.tag.Rule.{Rule}
use Rattle.directory.specs.declared.tag.Values.{Values}

abbrev pub table_rule : Rule
table_rule = rule false linearization_table kinds.Short 1 65536

-- LinearizationTable: "SHORT, 1 to 65,536 entries"
unfoldable pub table_reading : Ifd → Reading (Out Values)
table_reading d = values_reading d table_rule

abbrev pub white_rule : ℕ → Rule
white_rule s = optional white_level kinds.ShortOrLong s

-- WhiteLevel: "SHORT or LONG, one per sample .. up to 65,535 carried"
unfoldable pub white_reading : Ifd → ℕ → Reading (Out Values)
white_reading d s = all_reading d (white_rule s) (range 0 0 65535)
