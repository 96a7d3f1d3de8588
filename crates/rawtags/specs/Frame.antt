-- The frame: ImageWidth, ImageLength, PhotometricInterpretation, SamplesPerPixel.
use Rattle.std.specs.Prelude.{ℕ, eqb}
use Rattle.directory.specs.Names.{image_length, image_width, photometric_interpretation, samples_per_pixel}
use Rattle.reading.specs.Reading.{Reading, Reading.answer, pick}
use Rattle.directory.specs.Out.{Out, Out.refused, Out.is, bind}
use Rattle.directory.specs.Tag.{one_reading, required, optional, range}
use Rattle.directory.specs.declared.Ifd.{Ifd}
use Rattle.directory.specs.declared.tag.Kinds.TheVariants as kinds
use Rattle.directory.specs.declared.tag.Range.{Range}
use Rattle.rawtags.specs.declared.frame.Dimensions.{Dimensions}

abbrev pub dimension_range : Range
dimension_range = range 1 1 16384

-- ImageWidth, ImageLength: "SHORT or LONG 1, required; 0 is illegal, above 16,384 not carried"
unfoldable pub dimension_reading : Ifd → ℕ → Reading (Out ℕ)
dimension_reading d tag = one_reading d (required tag kinds.ShortOrLong 1) 0 dimension_range

-- the samples of a mosaic and of LinearRaw; 0 of anything else
unfoldable pub samples_of : ℕ → ℕ
samples_of p = pick (eqb p 32803) 1 (pick (eqb p 34892) 3 0)

-- PhotometricInterpretation: "SHORT 1, required; 32803 or 34892 carried". SamplesPerPixel: "SHORT 1, default 1; 1 for 32803, 3 for 34892, else not carried"
unfoldable pub planes_reading : Ifd → Reading (Out ℕ)
planes_reading d =
    bind (one_reading d (required photometric_interpretation kinds.Short 1) 0 (range 0 0 65535)) (λ p.
    pick (eqb (samples_of p) 0) (answer (refused 8 photometric_interpretation))
    (one_reading d (optional samples_per_pixel kinds.Short 1) 1 (range 0 (samples_of p) (samples_of p))))

unfoldable pub frame_reading : Ifd → Reading (Out Dimensions)
frame_reading d =
    bind (dimension_reading d image_width) (λ columns.
    bind (dimension_reading d image_length) (λ rows.
    bind (planes_reading d) (λ s.
    answer (is (record { width = columns; length = rows; samples = s })))))
