-- How the samples stand: BitsPerSample, Compression, PlanarConfiguration, SampleFormat, RowInterleaveFactor,
-- ColumnInterleaveFactor, RowsPerStrip.
use Rattle.std.specs.Prelude.{ℕ, eqb}
use Rattle.directory.specs.Names.{bits_per_sample, column_interleave_factor, compression, planar_configuration, row_interleave_factor}
use Rattle.directory.specs.Names.{rows_per_strip, sample_format}
use Rattle.reading.specs.Reading.{Reading, Reading.answer, and_then, pick, number_at}
use Rattle.directory.specs.Out.{Out, Out.refused, Out.is, bind}
use Rattle.directory.specs.Tag.{values_reading, one_reading, all_reading, each_reading, required, optional, range}
use Rattle.directory.specs.declared.Ifd.{Ifd}
use Rattle.directory.specs.declared.tag.Kinds.{Kinds}
use Rattle.directory.specs.declared.tag.Kinds.TheVariants as kinds
use Rattle.directory.specs.declared.tag.Values.{Values}
use Rattle.rawtags.specs.declared.layout.Layout.{Layout}

-- the bytes of 8 and 16 bits; 0 of anything else
unfoldable pub bytes_per : ℕ → ℕ
bytes_per n = pick (eqb n 8) 1 (pick (eqb n 16) 2 0)

-- all as the first one
unfoldable pub depth_from : Ifd → Values → ℕ → Reading (Out ℕ)
depth_from d v n =
    pick (eqb (bytes_per n) 0) (answer (refused 8 bits_per_sample))
    (bind (each_reading d.order v.size bits_per_sample (range 0 n n) v.count v.place) (λ _. answer (is (bytes_per n))))

-- BitsPerSample: "SHORT, one per sample, required; all 8 or all 16 carried"
unfoldable pub depth_reading : Ifd → ℕ → Reading (Out ℕ)
depth_reading d s = bind (values_reading d (required bits_per_sample kinds.Short s)) (λ v. and_then (number_at d.order v.place v.size) (depth_from d v))

-- "default 1 .. only 1 carried"
unfoldable pub only_one : Ifd → ℕ → Kinds → ℕ → Reading (Out ℕ)
only_one d tag k legal = one_reading d (optional tag k 1) 1 (range legal 1 1)

-- SampleFormat: "SHORT, one per sample, default 1; only 1 carried"
unfoldable pub format_reading : Ifd → ℕ → Reading (Out Values)
format_reading d s = all_reading d (optional sample_format kinds.Short s) (range 0 1 1)

-- RowsPerStrip: "SHORT or LONG 1, default 4,294,967,295; 0 illegal"; any other number is carried
unfoldable pub strip_rows_reading : Ifd → Reading (Out ℕ)
strip_rows_reading d = one_reading d (optional rows_per_strip kinds.ShortOrLong 1) 4294967295 (range 1 1 0xFFFF_FFFF_FFFF_FFFF)

-- Compression, PlanarConfiguration: SHORT 1. RowInterleaveFactor, ColumnInterleaveFactor: "SHORT or LONG 1, default 1; 0 illegal, only 1 carried"
unfoldable pub layout_reading : Ifd → ℕ → Reading (Out Layout)
layout_reading d s =
    bind (depth_reading d s) (λ b.
    bind (only_one d compression kinds.Short 0) (λ _.
    bind (only_one d planar_configuration kinds.Short 0) (λ _.
    bind (format_reading d s) (λ _.
    bind (only_one d row_interleave_factor kinds.ShortOrLong 1) (λ _.
    bind (only_one d column_interleave_factor kinds.ShortOrLong 1) (λ _.
    bind (strip_rows_reading d) (λ r.
    answer (is (record { bytes = b; rows = r })))))))))
