-- What holds of an accepted value.
use Rattle.std.specs.Prelude.{ℕ, ◌+◌, ◌≤◌, Result, Ok, Err}
use Rattle.rawtags.specs.declared.crop.Crop.{Crop}
use Rattle.directory.specs.declared.refusal.Refusal.{Refusal}
use Rattle.std.specs.Coded.{le_prop}

pub record CropWithin (rows columns : ℕ) (c : Crop) : Type 0 where
  pub some_rows : 1 ≤ c.rows
  pub bottom : c.top + c.rows ≤ rows
  pub some_columns : 1 ≤ c.columns
  pub right : c.left + c.columns ≤ columns

pub CropWithin-prop : (rows columns : ℕ) (c : Crop) → IsProp (CropWithin rows columns c)
CropWithin-prop rows columns c x y = λ i.
    record {
      some_rows = le_prop x.some_rows y.some_rows i;
      bottom = le_prop x.bottom y.bottom i;
      some_columns = le_prop x.some_columns y.some_columns i;
      right = le_prop x.right y.right i;
    }

abbrev pub CropIn : ℕ → ℕ → Result Crop Refusal → Type 0
CropIn rows columns (Err e) = Unit {0}
CropIn rows columns (Ok c) = CropWithin rows columns c
