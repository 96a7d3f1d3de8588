-- What the levels of a sample come from: LinearizationTable to WhiteLevel.
use Rattle.std.specs.Prelude.{ℕ}
use Rattle.directory.specs.Names.{black_level_delta_h, black_level_delta_v}
use Rattle.reading.specs.Reading.{Reading, Reading.answer}
use Rattle.directory.specs.Out.{Out, Out.is, bind}
use Rattle.directory.specs.declared.Ifd.{Ifd}
use Rattle.rawtags.specs.Repeat.{repeat_reading}
use Rattle.rawtags.specs.Black.{black_reading, delta_reading}
use Rattle.rawtags.specs.White.{white_reading, table_reading}
use Rattle.rawtags.specs.declared.level_tags.LevelTags.{LevelTags}

-- of so many samples, active rows and active columns
unfoldable pub level_tags_reading : Ifd → ℕ → ℕ → ℕ → Reading (Out LevelTags)
level_tags_reading d s rows columns =
    bind (table_reading d) (λ t.
    bind (repeat_reading d) (λ r.
    bind (black_reading d r s) (λ b.
    bind (delta_reading d black_level_delta_h columns) (λ cs.
    bind (delta_reading d black_level_delta_v rows) (λ rs.
    bind (white_reading d s) (λ v.
    answer (is (record { table = t; repeat = r; black = b; column_deltas = cs; row_deltas = rs; white = v }))))))))
