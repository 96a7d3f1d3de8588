-- What the functions tell one another.
use Rattle.std.specs.Prelude.{List, ℕ, ◌+◌, ◌*◌, ◌-◌, ◌≤◌, ◌<◌, min, length, Result, Ok, Err}
use Rattle.reading.specs.Bytes.{part}
use Rattle.reading.specs.Number.{number_of}
use Rattle.reading.specs.declared.number.Order.{Order}
use Rattle.directory.specs.Facts.Tag.{PlacedValues, PlacedValues-prop}
use Rattle.directory.specs.declared.tag.Values.{Values}
use Rattle.rawtags.specs.declared.frame.Dimensions.{Dimensions}
use Rattle.rawtags.specs.declared.layout.Layout.{Layout}
use Rattle.rawtags.specs.Strips.{strip_count, row_bytes, offsets_rule}
use Rattle.directory.specs.declared.refusal.Refusal.{Refusal}
use Rattle.std.specs.Coded.{Π_prop, →_prop, le_prop}

-- the offsets, and that each strip lies in the file
pub record StripsWithin (f : List ℕ) (o : Order) (fr : Dimensions) (l : Layout) (v : Values) : Type 0 where
  pub placed : PlacedValues (length f) (offsets_rule fr l) v
  pub inside :
      (i : ℕ) → i < strip_count fr l
      → number_of o (part f (v.place + v.size * i) v.size) + min l.rows (fr.length - l.rows * i) * row_bytes fr l ≤ length f

pub StripsWithin-prop : (f : List ℕ) (o : Order) (fr : Dimensions) (l : Layout) (v : Values) → IsProp (StripsWithin f o fr l v)
StripsWithin-prop f o fr l v x y = λ i.
    record {
      placed = PlacedValues-prop (length f) (offsets_rule fr l) v x.placed y.placed i;
      inside = Π_prop (λ _. →_prop le_prop) x.inside y.inside i;
    }

abbrev pub StripsIn : List ℕ → Order → Dimensions → Layout → Result Values Refusal → Type 0
StripsIn f o fr l (Err e) = Unit {0}
StripsIn f o fr l (Ok v) = StripsWithin f o fr l v
