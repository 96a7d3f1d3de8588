-- The repeat of the black levels: BlackLevelRepeatDim.
use Rattle.std.specs.Prelude.{ℕ, ◌+◌, eqb}
use Rattle.directory.specs.Names.{black_level_repeat_dim}
use Rattle.reading.specs.Reading.{Reading, Reading.answer, and_then, pick, number_at}
use Rattle.reading.specs.declared.number.Order.{Order}
use Rattle.directory.specs.Out.{Out, Out.is, bind}
use Rattle.directory.specs.Tag.{values_reading, optional, judged_of, range}
use Rattle.directory.specs.declared.Ifd.{Ifd}
use Rattle.directory.specs.declared.tag.Kinds.TheVariants as kinds
use Rattle.directory.specs.declared.tag.Values.{Values}
use Rattle.rawtags.specs.declared.repeat.Repeat.{Repeat}

-- one of the two: "0 illegal, above 8 not carried"
unfoldable pub side_reading : Order → ℕ → ℕ → Reading (Out ℕ)
side_reading o at width = and_then (number_at o at width) (λ n. answer (judged_of black_level_repeat_dim (range 1 1 8) n))

unfoldable pub pair_reading : Order → Values → Reading (Out Repeat)
pair_reading o v =
    pick (eqb v.count 0) (answer (is (record { rows = 1; columns = 1 })))
    (bind (side_reading o v.place v.size) (λ m.
    bind (side_reading o (v.place + v.size) v.size) (λ n.
    answer (is (record { rows = m; columns = n })))))

-- BlackLevelRepeatDim: "SHORT 2, default 1, 1"
unfoldable pub repeat_reading : Ifd → Reading (Out Repeat)
repeat_reading d = bind (values_reading d (optional black_level_repeat_dim kinds.Short 2)) (pair_reading d.order)
