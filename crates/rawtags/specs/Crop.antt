-- The crop: DefaultCropOrigin, DefaultCropSize. It counts from the active corner.
use Rattle.std.specs.Prelude.{ℕ, Bool, ◌&&◌}
use Rattle.reading.specs.Bytes.{some_inside}
use Rattle.reading.specs.Reading.{Reading, Reading.answer, pick}
use Rattle.directory.specs.Names.{default_crop_origin, default_crop_size}
use Rattle.directory.specs.Out.{Out, Out.refused, Out.is, bind}
use Rattle.directory.specs.declared.Ifd.{Ifd}
use Rattle.rawtags.specs.Whole.{lengths_reading}
use Rattle.rawtags.specs.declared.whole.Lengths.{Lengths}
use Rattle.rawtags.specs.declared.crop.Crop.{Crop}

abbrev pub lengths : ℕ → ℕ → Lengths
lengths h v = record { horizontal = h; vertical = v }

-- from an origin on, of a size
abbrev pub crop_from : Lengths → Lengths → Crop
crop_from o s = record { left = o.horizontal; top = o.vertical; columns = s.horizontal; rows = s.vertical }

-- not empty, and inside the active area of so many rows and columns
abbrev pub crop_inside : ℕ → ℕ → Crop → Bool
crop_inside rows columns c = some_inside c.left c.columns columns && some_inside c.top c.rows rows

-- "a crop empty or not inside the active area is 4 on 50720"
unfoldable pub crop_of : ℕ → ℕ → Crop → Out Crop
crop_of rows columns c = pick (crop_inside rows columns c) (is c) (refused 4 default_crop_size)

-- "DefaultCropOrigin (50719, horizontal then vertical, default 0, 0) and DefaultCropSize (50720, default the active columns and
-- rows)", of so many active rows and columns
unfoldable pub crop_reading : Ifd → ℕ → ℕ → Reading (Out Crop)
crop_reading d rows columns =
    bind (lengths_reading d default_crop_origin (lengths 0 0)) (λ o.
    bind (lengths_reading d default_crop_size (lengths columns rows)) (λ s.
    answer (crop_of rows columns (crop_from o s))))
