-- Values that must be whole numbers: SHORT, LONG or RATIONAL.
use Rattle.std.specs.Prelude.{ℕ, ◌+◌, ◌/◌, ◌%◌, eqb}
use Rattle.reading.specs.Reading.{Reading, Reading.answer, and_then, pick, number_at}
use Rattle.reading.specs.declared.number.Order.{Order}
use Rattle.directory.specs.Out.{Out, Out.refused, Out.is, bind}
use Rattle.directory.specs.Entry.{code_of}
use Rattle.directory.specs.Tag.{values_reading, optional}
use Rattle.directory.specs.declared.Ifd.{Ifd}
use Rattle.directory.specs.declared.tag.Kinds.TheVariants as kinds
use Rattle.directory.specs.declared.tag.Rule.{Rule}
use Rattle.directory.specs.declared.tag.Values.{Values}
use Rattle.rawtags.specs.declared.whole.Lengths.{Lengths}

-- "denominator 0 is 4, a value not whole is 8"
unfoldable pub whole_number_of : ℕ → ℕ → ℕ → Out ℕ
whole_number_of tag numerator denominator =
    pick (eqb denominator 0) (refused 4 tag)
    (pick (eqb (numerator % denominator) 0) (is (numerator / denominator)) (refused 8 tag))

-- one of a tag's values, at a place: a RATIONAL is two LONGs, numerator and denominator; any other number has denominator 1
unfoldable pub whole_number_reading : Order → ℕ → Values → ℕ → Reading (Out ℕ)
whole_number_reading o tag v at =
    pick (eqb (code_of v.kind) 5)
    (and_then (number_at o at 4) (λ n. and_then (number_at o (at + 4) 4) (λ d. answer (whole_number_of tag n d))))
    (and_then (number_at o at v.size) (λ n. answer (whole_number_of tag n 1)))

-- "horizontal then vertical", or the default of an absent tag
unfoldable pub both_reading : Order → ℕ → Lengths → Values → Reading (Out Lengths)
both_reading o tag default v =
    pick (eqb v.count 0) (answer (is default))
    (bind (whole_number_reading o tag v v.place) (λ h.
    bind (whole_number_reading o tag v (v.place + v.size)) (λ w.
    answer (is (record { horizontal = h; vertical = w })))))

abbrev pub lengths_rule : ℕ → Rule
lengths_rule tag = optional tag kinds.ShortLongOrRational 2

-- "SHORT, LONG or RATIONAL, count 2"
unfoldable pub lengths_reading : Ifd → ℕ → Lengths → Reading (Out Lengths)
lengths_reading d tag default = bind (values_reading d (lengths_rule tag)) (both_reading d.order tag default)
