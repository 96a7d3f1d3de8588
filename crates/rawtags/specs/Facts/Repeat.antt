-- What holds of an accepted value.
use Rattle.std.specs.Prelude.{◌≤◌, Result, Ok, Err}
use Rattle.rawtags.specs.declared.repeat.Repeat.{Repeat}
use Rattle.directory.specs.declared.refusal.Refusal.{Refusal}
use Rattle.std.specs.Coded.{le_prop}

pub record RepeatWithin (v : Repeat) : Type 0 where
  pub some_rows : 1 ≤ v.rows
  pub rows : v.rows ≤ 8
  pub some_columns : 1 ≤ v.columns
  pub columns : v.columns ≤ 8

pub RepeatWithin-prop : (v : Repeat) → IsProp (RepeatWithin v)
RepeatWithin-prop v x y = λ i.
    record {
      some_rows = le_prop x.some_rows y.some_rows i;
      rows = le_prop x.rows y.rows i;
      some_columns = le_prop x.some_columns y.some_columns i;
      columns = le_prop x.columns y.columns i;
    }

abbrev pub RepeatIn : Result Repeat Refusal → Type 0
RepeatIn (Err e) = Unit {0}
RepeatIn (Ok v) = RepeatWithin v
