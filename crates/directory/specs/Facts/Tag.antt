-- What holds of an accepted value.
use Rattle.std.specs.Prelude.{◌≡◌, List, true, ◌⊎◌, ℕ, ◌+◌, ◌*◌, ◌≤◌, ◌<◌, length, Result, Ok, Err, Option, Some, None}
use Rattle.reading.specs.Bytes.{part}
use Rattle.reading.specs.Number.{number_of}
use Rattle.reading.specs.Facts.Number.{Wide}
use Rattle.reading.specs.declared.number.Order.{Order}
use Rattle.directory.specs.Entry.{kind_width, bytes_of}
use Rattle.directory.specs.declared.Widths.{Widths}
use Rattle.directory.specs.declared.refusal.Refusal.{Refusal}
use Rattle.directory.specs.declared.entry.Entry.{Entry}
use Rattle.directory.specs.declared.tag.Found.{Found}
use Rattle.directory.specs.declared.tag.Kinds.{Kinds}
use Rattle.directory.specs.declared.tag.Kinds.TheVariants as kinds
use Rattle.directory.specs.declared.tag.Rule.{Rule}
use Rattle.directory.specs.declared.tag.Range.{Range}
use Rattle.directory.specs.declared.tag.Values.{Values}
use Rattle.directory.specs.Tag.{allows_of}
use Rattle.std.specs.Coded.{Coded-set, coded_bool, coded_ℕ, ×_prop, →_prop, le_prop}
use mathlib.Core.Logic.{inl, inr}
use mathlib.Core.Path.{ap}
use native.Mathlib.Omega.{arith}
use Rattle.directory.specs.Facts.Widths.{Wide-prop}

-- the value or offset of an entry that was found lies in the file
abbrev pub FoundIn : Widths → ℕ → Option Found → Type 0
FoundIn w len None = Unit {0}
FoundIn w len (Some x) = x.place + w.word ≤ len

-- and so does a value that stands elsewhere
unfoldable pub Placed : Widths → List ℕ → Order → ℕ → Entry → Type 0
Placed w f o p e = w.word < bytes_of e → number_of o (part f p w.word) + bytes_of e ≤ length f

-- LONG or LONG8
abbrev pub Long : ℕ → Type 0
Long s = (s ≡ 4) ⊎ (s ≡ 8)

abbrev pub SizeIn : Kinds → ℕ → Type 0
SizeIn kinds.Byte s = s ≡ 1
SizeIn kinds.Short s = s ≡ 2
SizeIn kinds.Long s = Long s
SizeIn kinds.ShortOrLong s = Wide s
SizeIn kinds.LongOrIfd s = Long s
SizeIn kinds.ShortOrRational s = (s ≡ 2) ⊎ (s ≡ 8)
SizeIn kinds.ShortLongOrRational s = Wide s
SizeIn kinds.SignedRational s = s ≡ 8
SizeIn kinds.Undefined s = s ≡ 1

-- the types that are numbers
abbrev pub Numeric : Kinds → Type 0
Numeric kinds.Byte = ⊥
Numeric kinds.Short = Unit {0}
Numeric kinds.Long = Unit {0}
Numeric kinds.ShortOrLong = Unit {0}
Numeric kinds.LongOrIfd = Unit {0}
Numeric kinds.ShortOrRational = ⊥
Numeric kinds.ShortLongOrRational = ⊥
Numeric kinds.SignedRational = ⊥
Numeric kinds.Undefined = ⊥

pub record PlacedValues (len : ℕ) (r : Rule) (v : Values) : Type 0 where
  pub inside : v.place + v.size * v.count ≤ len
  pub typed : 0 < v.count → (allows_of r.kinds v.kind ≡ true) × (v.size ≡ kind_width v.kind)
  pub sized : 0 < v.count → SizeIn r.kinds v.size
  pub enough : 0 < v.count → r.least ≤ v.count
  pub within : v.count ≤ r.most
  pub present : r.required ≡ true → r.least ≤ v.count

-- one of two numbers in one way
pub one_of_two-prop : (s a b : ℕ) → (a ≡ b → ⊥) → IsProp ((s ≡ a) ⊎ (s ≡ b))
one_of_two-prop s a b h (inl p) (inl q) = ap inl (Coded-set coded_ℕ s a p q)
one_of_two-prop s a b h (inl p) (inr q) = absurd (omega (arith, h))
one_of_two-prop s a b h (inr p) (inl q) = absurd (omega (arith, h))
one_of_two-prop s a b h (inr p) (inr q) = ap inr (Coded-set coded_ℕ s b p q)

pub SizeIn-prop : (k : Kinds) (s : ℕ) → IsProp (SizeIn k s)
SizeIn-prop kinds.Byte s = Coded-set coded_ℕ s 1
SizeIn-prop kinds.Short s = Coded-set coded_ℕ s 2
SizeIn-prop kinds.Long s = one_of_two-prop s 4 8 (omega arith)
SizeIn-prop kinds.ShortOrLong s = Wide-prop s
SizeIn-prop kinds.LongOrIfd s = one_of_two-prop s 4 8 (omega arith)
SizeIn-prop kinds.ShortOrRational s = one_of_two-prop s 2 8 (omega arith)
SizeIn-prop kinds.ShortLongOrRational s = Wide-prop s
SizeIn-prop kinds.SignedRational s = Coded-set coded_ℕ s 8
SizeIn-prop kinds.Undefined s = Coded-set coded_ℕ s 1

pub PlacedValues-prop : (len : ℕ) (r : Rule) (v : Values) → IsProp (PlacedValues len r v)
PlacedValues-prop len r v x y = λ i.
    record {
      inside = le_prop x.inside y.inside i;
      typed = →_prop (×_prop (Coded-set coded_bool _ _) (Coded-set coded_ℕ _ _)) x.typed y.typed i;
      sized = →_prop (SizeIn-prop r.kinds v.size) x.sized y.sized i;
      enough = →_prop le_prop x.enough y.enough i;
      within = le_prop x.within y.within i;
      present = →_prop le_prop x.present y.present i;
    }

abbrev pub ValuesIn : ℕ → Rule → Result Values Refusal → Type 0
ValuesIn len r (Err e) = Unit {0}
ValuesIn len r (Ok v) = PlacedValues len r v

pub record InRange (r : Range) (v : ℕ) : Type 0 where
  pub legal : r.legal ≤ v
  pub from : r.from ≤ v
  pub to : v ≤ r.to

abbrev pub NumberIn : Range → Result ℕ Refusal → Type 0
NumberIn r (Err e) = Unit {0}
NumberIn r (Ok v) = InRange r v
