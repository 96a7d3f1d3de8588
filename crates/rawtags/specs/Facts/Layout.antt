-- What holds of an accepted value.
use Rattle.std.specs.Prelude.{◌≤◌, Result, Ok, Err}
use Rattle.rawtags.specs.declared.layout.Layout.{Layout}
use Rattle.directory.specs.declared.refusal.Refusal.{Refusal}
use Rattle.std.specs.Coded.{le_prop}

pub record LayoutWithin (v : Layout) : Type 0 where
  pub some_bytes : 1 ≤ v.bytes
  pub bytes : v.bytes ≤ 2
  pub some_rows : 1 ≤ v.rows
  pub rows : v.rows ≤ 0xFFFF_FFFF_FFFF_FFFF

pub LayoutWithin-prop : (v : Layout) → IsProp (LayoutWithin v)
LayoutWithin-prop v x y = λ i.
    record {
      some_bytes = le_prop x.some_bytes y.some_bytes i;
      bytes = le_prop x.bytes y.bytes i;
      some_rows = le_prop x.some_rows y.some_rows i;
      rows = le_prop x.rows y.rows i;
    }

abbrev pub LayoutIn : Result Layout Refusal → Type 0
LayoutIn (Err e) = Unit {0}
LayoutIn (Ok v) = LayoutWithin v
