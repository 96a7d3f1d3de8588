-- What the functions tell one another.
use Rattle.std.specs.Prelude.{List, ℕ, ◌+◌, ◌*◌, ◌≤◌, ◌<◌, length, Result, Ok, Err}
use Rattle.reading.specs.Bytes.{part}
use Rattle.reading.specs.Number.{number_of}
use Rattle.reading.specs.declared.number.Order.{Order}
use Rattle.directory.specs.Facts.Tag.{PlacedValues, PlacedValues-prop}
use Rattle.directory.specs.declared.tag.Rule.{Rule}
use Rattle.directory.specs.declared.tag.Values.{Values}
use Rattle.directory.specs.declared.refusal.Refusal.{Refusal}
use Rattle.std.specs.Coded.{Π_prop, →_prop, le_prop}

pub record WhitesWithin (f : List ℕ) (o : Order) (r : Rule) (v : Values) : Type 0 where
  pub placed : PlacedValues (length f) r v
  pub most : (i : ℕ) → i < v.count → number_of o (part f (v.place + v.size * i) v.size) ≤ 65535

pub WhitesWithin-prop : (f : List ℕ) (o : Order) (r : Rule) (v : Values) → IsProp (WhitesWithin f o r v)
WhitesWithin-prop f o r v x y = λ i.
    record {
      placed = PlacedValues-prop (length f) r v x.placed y.placed i;
      most = Π_prop (λ _. →_prop le_prop) x.most y.most i;
    }

abbrev pub WhitesIn : List ℕ → Order → Rule → Result Values Refusal → Type 0
WhitesIn f o r (Err e) = Unit {0}
WhitesIn f o r (Ok v) = WhitesWithin f o r v
