-- DefaultCropOrigin and DefaultCropSize in a directory of two entries, for an active area of 3 rows and 5 columns, and each refusal.
use mathlib.Core.Path.{◌≡◌, refl}
use mathlib.Core.List.{List, [], ◌∷◌}
use Prim.Native.Nat.{ℕ}
use mathlib.Core.Bool.{true}
use lib.ListN.{replicate}
use Rattle.reading.specs.Bytes.{replaced}
use Rattle.reading.specs.Number.{number_of, little_of}
use Rattle.reading.specs.Reading.{run, trace, reads, and_then, pick, number_at}
use Rattle.reading.specs.declared.number.Order.TheVariants.{Little}
use Rattle.levels.specs.Run.{run_of}
use Rattle.directory.specs.Out.{Out, Out.refused, Out.is, bind}
use Rattle.directory.specs.Widths.{classic}
use Rattle.directory.specs.Entry.{kind_of, plain_of, kind_width, entry_of}
use Rattle.directory.specs.Shape.{ifd}
use Rattle.directory.specs.Tag.{find_from, whole_reading, value_reading, tested_reading, absent_of, values_reading}
use Rattle.rawtags.specs.Whole.{whole_number_of, whole_number_reading, both_reading, lengths_reading}
use Rattle.rawtags.specs.Crop.{crop_of, crop_reading}
use Rattle.rawtags.specs.declared.crop.Crop.{Crop}

-- 50719: RATIONAL 4/2, 0/7, at 24; 50720: SHORT 3, 2
abbrev entries : List ℕ
entries =
    0x1F ∷ 0xC6 ∷ 5 ∷ 0 ∷ 2 ∷ 0 ∷ 0 ∷ 0 ∷ 24 ∷ 0 ∷ 0 ∷ 0
    ∷ 0x20 ∷ 0xC6 ∷ 3 ∷ 0 ∷ 2 ∷ 0 ∷ 0 ∷ 0 ∷ 3 ∷ 0 ∷ 2 ∷ 0
    ∷ 4 ∷ 0 ∷ 0 ∷ 0 ∷ 2 ∷ 0 ∷ 0 ∷ 0 ∷ 0 ∷ 0 ∷ 0 ∷ 0 ∷ 7 ∷ 0 ∷ 0 ∷ 0 ∷ []

-- so many of them from a place on
abbrev read : ℕ → ℕ → List ℕ → Out Crop
read count at f = run f (crop_reading (ifd classic Little count at) 3 5)

-- with another byte at a place
abbrev changed : ℕ → ℕ → Out Crop
changed at byte = read 2 0 (replaced entries at (byte ∷ []))

abbrev crop : ℕ → ℕ → ℕ → ℕ → Crop
crop l t c r = record { left = l; top = t; columns = c; rows = r }

pub record Worked : Type 0 where
  -- three columns from column 2 on, two rows from row 0 on
  pub both : read 2 0 entries ≡ is (crop 2 0 3 2)
  -- a size alone; neither
  pub defaults : read 1 12 entries ∷ read 0 0 entries ∷ [] ≡ is (crop 0 0 3 2) ∷ is (crop 0 0 5 3) ∷ []
  -- to the last row: top 1 (7/7), rows 2
  pub edge : changed 32 7 ≡ is (crop 2 1 3 2)
  -- In order of test: 50719 as BYTE; once; 4/0; 5/2; 0/0; 1/7; 50720 as BYTE; thrice; then the crop: no columns; 4 columns from column 2 on;
  -- no rows; 4 rows; 2 rows from row 2 on (14/7)
  pub refusals :
      changed 2 1 ∷ changed 4 1 ∷ changed 28 0 ∷ changed 24 5 ∷ changed 36 0 ∷ changed 32 1 ∷ changed 14 1 ∷ changed 16 3 ∷ []
      ≡ refused 4 50719 ∷ refused 4 50719 ∷ refused 4 50719 ∷ refused 8 50719 ∷ refused 4 50719
      ∷ refused 8 50719 ∷ refused 4 50720 ∷ refused 4 50720 ∷ []
  pub outside :
      changed 20 0 ∷ changed 20 4 ∷ changed 22 0 ∷ changed 22 4 ∷ changed 32 14 ∷ []
      ≡ refused 4 50720 ∷ refused 4 50720 ∷ refused 4 50720 ∷ refused 4 50720 ∷ refused 4 50720 ∷ []
  -- an origin alone: its size is the active one, and too great
  pub origin_alone : read 1 0 entries ≡ refused 4 50720
  -- both values are read whole, from the size's in its entry to the origin's last byte
  pub reads_both : run_of (λ (i : ℕ). reads (trace entries (crop_reading (ifd classic Little 2 0) 3 5)) i) 1 20 20 ≡ replicate 20 true

pub worked : Worked
unfolding run trace reads run_of and_then pick number_at number_of little_of bind kind_of plain_of kind_width entry_of find_from whole_reading value_reading
    tested_reading absent_of values_reading whole_number_of whole_number_reading both_reading lengths_reading crop_of crop_reading
worked = record { both = refl; defaults = refl; edge = refl; refusals = refl; outside = refl; origin_alone = refl; reads_both = refl }
