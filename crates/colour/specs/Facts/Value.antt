-- What holds of an accepted value.
use Rattle.std.specs.Prelude.{◌≡◌, Bool, true, Float, Result, Ok, Err}
use Rattle.colour.specs.Facts.Bounds.{Within, Beyond, All}
use Rattle.colour.specs.declared.value.Triple.{Triple}
use Rattle.directory.specs.declared.refusal.Refusal.{Refusal}

pub record QuotientWithin (nonzero : Bool) (v : Float) : Type 0 where
  pub most : Within 0x1_0000_0000 v
  pub least : nonzero ≡ true → Beyond 0x1_0000_0000 v

abbrev pub QuotientIn : Bool → Result Float Refusal → Type 0
QuotientIn nonzero (Err e) = Unit {0}
QuotientIn nonzero (Ok v) = QuotientWithin nonzero v

abbrev pub TripleFrom : Bool → Triple → Type 0
TripleFrom nonzero t = All (QuotientWithin nonzero) t.first t.second t.third

abbrev pub TripleIn : Bool → Result Triple Refusal → Type 0
TripleIn nonzero (Err e) = Unit {0}
TripleIn nonzero (Ok t) = TripleFrom nonzero t
