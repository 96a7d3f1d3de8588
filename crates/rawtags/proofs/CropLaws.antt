-- The crop, case by case.
-- Assumes nothing.
use mathlib.Core.Path.{◌≡◌}
use mathlib.Core.Bool.{true, false}
use Prim.Native.Nat.{ℕ}
use Rattle.reading.specs.Bytes.{some_inside}
use Rattle.reading.proofs.Bytes.{some_inside_law}
use Rattle.reading.proofs.Reading.{pick_yes, pick_no}
use Rattle.directory.specs.Names.{default_crop_size}
use Rattle.directory.specs.Out.{Out.refused, Out.is}
use Rattle.rawtags.specs.Crop.{crop_of}
use Rattle.rawtags.specs.Facts.Crop.{CropWithin}
use Rattle.rawtags.specs.declared.crop.Crop.{Crop}

module _ (rows columns : ℕ) (c : Crop) where
  pub crop_columns : some_inside c.left c.columns columns ≡ false → refused 4 default_crop_size ≡ crop_of rows columns c
  unfolding crop_of
  crop_columns e = simp (e, pick_no)

  module _ (e : some_inside c.left c.columns columns ≡ true) where
    pub crop_rows : some_inside c.top c.rows rows ≡ false → refused 4 default_crop_size ≡ crop_of rows columns c
    unfolding crop_of
    crop_rows h = simp (e, h, pick_no)

    module _ (h : some_inside c.top c.rows rows ≡ true) where
      pub crop_is : is c ≡ crop_of rows columns c
      unfolding crop_of
      crop_is = simp (e, h, pick_yes)

      pub crop_in : CropWithin rows columns c
      crop_in =
          let a = some_inside_law _ _ _ e in
          let b = some_inside_law _ _ _ h in
          record { some_rows = b.0; bottom = b.1; some_columns = a.0; right = a.1 }
