-- The strips: StripOffsets, StripByteCounts.
use Rattle.std.specs.Prelude.{ℕ, zero, suc, ◌+◌, ◌*◌, ◌-◌, ◌/◌, min, eqb, leb}
use Rattle.directory.specs.Names.{strip_byte_counts, strip_offsets}
use Rattle.reading.specs.Reading.{Reading, Reading.answer, and_then, pick, number_at}
use Rattle.reading.specs.declared.number.Order.{Order}
use Rattle.directory.specs.Out.{Out, Out.refused, Out.is, bind}
use Rattle.directory.specs.Tag.{values_reading, required}
use Rattle.directory.specs.declared.Ifd.{Ifd}
use Rattle.directory.specs.declared.tag.Kinds.TheVariants as kinds
use Rattle.directory.specs.declared.tag.Rule.{Rule}
use Rattle.directory.specs.declared.tag.Values.{Values}
use Rattle.rawtags.specs.declared.frame.Dimensions.{Dimensions}
use Rattle.rawtags.specs.declared.layout.Layout.{Layout}

-- "length / rows per strip, rounded up", of a length that is not 0
abbrev pub strip_count : Dimensions → Layout → ℕ
strip_count f l = (f.length - 1) / l.rows + 1

abbrev pub row_bytes : Dimensions → Layout → ℕ
row_bytes f l = f.width * f.samples * l.bytes

-- so many strips, whose offsets and byte counts start at two places, with so many rows left:
-- "byte count must be exactly its rows x width x samples x bytes (4, tag 279); the strip must lie in the file (4, tag 273)"
unfoldable pub strip_from : ℕ → Order → ℕ → ℕ → ℕ → ℕ → ℕ → ℕ → ℕ → ℕ → Reading (Out ℕ)
strip_from len o wide broad rows row zero p q rest = answer (is 0)
strip_from len o wide broad rows row (suc n) p q rest =
    and_then (number_at o q broad) (λ b.
    pick (eqb b (min rows rest * row))
    (and_then (number_at o p wide) (λ a.
    pick (leb (a + b) len) (strip_from len o wide broad rows row n (p + wide) (q + broad) (rest - min rows rest)) (answer (refused 4 strip_offsets))))
    (answer (refused 4 strip_byte_counts)))

abbrev pub offsets_rule : Dimensions → Layout → Rule
offsets_rule f l = required strip_offsets kinds.ShortOrLong (strip_count f l)

abbrev pub counts_rule : Dimensions → Layout → Rule
counts_rule f l = required strip_byte_counts kinds.ShortOrLong (strip_count f l)

-- StripOffsets, StripByteCounts: "SHORT or LONG, required, count = length / rows per strip, rounded up. Then strip by strip"
unfoldable pub strips_reading : ℕ → Ifd → Dimensions → Layout → Reading (Out Values)
strips_reading len d f l =
    bind (values_reading d (offsets_rule f l)) (λ os.
    bind (values_reading d (counts_rule f l)) (λ cs.
    bind (strip_from len d.order os.size cs.size l.rows (row_bytes f l) (strip_count f l) os.place cs.place f.length) (λ _.
    answer (is os))))
