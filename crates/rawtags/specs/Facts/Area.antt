-- What holds of an accepted value.
use Rattle.std.specs.Prelude.{◌≤◌, ◌<◌, Result, Ok, Err}
use Rattle.rawtags.specs.declared.frame.Dimensions.{Dimensions}
use Rattle.rawtags.specs.declared.area.Area.{Area}
use Rattle.directory.specs.declared.refusal.Refusal.{Refusal}
use Rattle.std.specs.Coded.{le_prop}

pub record AreaWithin (f : Dimensions) (a : Area) : Type 0 where
  pub rows : a.top < a.bottom
  pub columns : a.left < a.right
  pub bottom : a.bottom ≤ f.length
  pub right : a.right ≤ f.width

pub AreaWithin-prop : (f : Dimensions) (a : Area) → IsProp (AreaWithin f a)
AreaWithin-prop f a x y = λ i.
    record {
      rows = le_prop x.rows y.rows i;
      columns = le_prop x.columns y.columns i;
      bottom = le_prop x.bottom y.bottom i;
      right = le_prop x.right y.right i;
    }

abbrev pub AreaIn : Dimensions → Result Area Refusal → Type 0
AreaIn f (Err e) = Unit {0}
AreaIn f (Ok a) = AreaWithin f a
