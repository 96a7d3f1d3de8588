-- What holds of an accepted value.
use Rattle.std.specs.Prelude.{◌≡◌, ◌⊎◌, ◌≤◌, ℕ, Result, Ok, Err}
use Rattle.rawtags.specs.declared.frame.Dimensions.{Dimensions}
use Rattle.directory.specs.declared.refusal.Refusal.{Refusal}
use Rattle.std.specs.Coded.{le_prop}
use Rattle.directory.specs.Facts.Tag.{one_of_two-prop}
use native.Mathlib.Omega.{arith}

-- one plane or three
abbrev pub PlanesIn : Result ℕ Refusal → Type 0
PlanesIn (Err e) = Unit {0}
PlanesIn (Ok v) = (v ≡ 1) ⊎ (v ≡ 3)

pub record DimensionsWithin (v : Dimensions) : Type 0 where
  pub some_columns : 1 ≤ v.width
  pub columns : v.width ≤ 16384
  pub some_rows : 1 ≤ v.length
  pub rows : v.length ≤ 16384
  pub some_samples : 1 ≤ v.samples
  pub samples : v.samples ≤ 3
  pub planes : (v.samples ≡ 1) ⊎ (v.samples ≡ 3)

pub DimensionsWithin-prop : (v : Dimensions) → IsProp (DimensionsWithin v)
DimensionsWithin-prop v x y = λ i.
    record {
      some_columns = le_prop x.some_columns y.some_columns i;
      columns = le_prop x.columns y.columns i;
      some_rows = le_prop x.some_rows y.some_rows i;
      rows = le_prop x.rows y.rows i;
      some_samples = le_prop x.some_samples y.some_samples i;
      samples = le_prop x.samples y.samples i;
      planes = one_of_two-prop v.samples 1 3 (omega arith) x.planes y.planes i;
    }

abbrev pub DimensionsIn : Result Dimensions Refusal → Type 0
DimensionsIn (Err e) = Unit {0}
DimensionsIn (Ok v) = DimensionsWithin v
