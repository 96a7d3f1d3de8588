-- What holds of an accepted value.
use Rattle.std.specs.Prelude.{◌≡◌, Bool, true, false, List, ℕ, ◌+◌, ◌*◌, ◌≤◌, ◌<◌, length, Result, Ok, Err}
use Rattle.reading.specs.Reading.{run}
use Rattle.directory.specs.Out.{Out, Out.refused, Out.is}
use Rattle.directory.specs.Widths.{entry_width}
use Rattle.directory.specs.Facts.Widths.{WidthsIn, WidthsIn-prop}
use Rattle.std.specs.Coded.{Coded-set, coded_bool, le_prop}
use Rattle.directory.specs.declared.Ifd.{Ifd}
use Rattle.directory.specs.declared.refusal.Refusal.{Refusal}
use Rattle.directory.specs.Shape.{shape_from}

abbrev pub TagIn : Result ℕ Refusal → Type 0
TagIn (Err r) = Unit {0}
TagIn (Ok t) = t < 65536

-- nothing is refused
abbrev pub accepts : Out ℕ → Bool
accepts (refused n d) = false
accepts (is v) = true

-- a directory inside the file whose shape was tested
pub record Tested (f : List ℕ) (d : Ifd) : Type 0 where
  pub laid : WidthsIn d.widths
  pub inside : d.at + entry_width d.widths * d.count ≤ length f
  pub shape : accepts (run f (shape_from d.widths (length f) d.order d.count d.at 0)) ≡ true

pub Tested-prop : (f : List ℕ) (d : Ifd) → IsProp (Tested f d)
Tested-prop f d x y = λ i.
    record {
      laid = WidthsIn-prop d.widths x.laid y.laid i;
      inside = le_prop x.inside y.inside i;
      shape = Coded-set coded_bool (accepts (run f (shape_from d.widths (length f) d.order d.count d.at 0))) true x.shape y.shape i;
    }

abbrev pub IfdIn : List ℕ → Result Ifd Refusal → Type 0
IfdIn f (Err r) = Unit {0}
IfdIn f (Ok v) = Tested f v
