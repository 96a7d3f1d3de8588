-- What holds of an accepted value.
use Rattle.std.specs.Prelude.{◌≡◌, ◌⊎◌, List, ℕ, ℤ, ◌≤◌, length, Result, Ok, Err}
use Rattle.reading.specs.Reading.{run}
use Rattle.reading.specs.declared.number.Order.{Order}
use Rattle.directory.specs.Out.{Out, Out.refused, Out.is}
use Rattle.directory.specs.Facts.Shape.{Tested}
use Rattle.std.specs.Coded.{Coded, Coded-set, code_by, coded_ℕ, coded_ℤ, coded_list, coded×, coded⊎, Π_prop, →_prop, le_prop}
use mathlib.Core.Logic.{inl, inr}
use mathlib.Core.Path.{refl}
use Rattle.rawtags.specs.Facts.Raw.{TagsWithin, TagsWithin-prop}
use Rattle.raw.specs.Stored.{levels_reading}
use Rattle.raw.specs.Spans.{spanned_of}
use Rattle.raw.specs.Facts.Spans.{SpansWithin, span_at}
use Rattle.levels.specs.Facts.Reciprocal.{SpanIn}
use Rattle.raw.specs.declared.spans.Spans.{Spans}
use Rattle.raw.specs.declared.front.Raw.{Raw}
use Rattle.raw.specs.declared.front.Picture.{Picture}
use Rattle.directory.specs.declared.refusal.Refusal.{Refusal}

pub record RawWithin (f : List ℕ) (o : Order) (r : Raw) : Type 0 where
  pub tags : TagsWithin f o r.tags
  pub spans : SpansWithin r.tags.frame.samples r.spans
  pub spanned : is r.spans ≡ spanned_of (run f (levels_reading o r.tags))

-- an answer's code, by which its equations hold in one way
abbrev split : Out Spans → (ℕ × ℕ) ⊎ List ℤ
split (refused n d) = inl (n, d)
split (is s) = inr s.planes

abbrev join : (ℕ × ℕ) ⊎ List ℤ → Out Spans
join (inl p) = refused p.0 p.1
join (inr ps) = is record { planes = ps }

pub join-split : (o : Out Spans) → join (split o) ≡ o
join-split (refused n d) = refl
join-split (is s) = refl

abbrev coded_out : Coded (Out Spans)
coded_out = code_by ((ℕ × ℕ) ⊎ List ℤ) (coded⊎ (coded× coded_ℕ coded_ℕ) (coded_list coded_ℤ)) split join join-split

pub SpanIn-prop : (s : ℤ) → IsProp (SpanIn s)
SpanIn-prop s x y = λ i.
    record {
      whole = Coded-set coded_ℤ _ _ x.whole y.whole i;
      some = le_prop x.some y.some i;
      small = le_prop x.small y.small i;
    }

pub RawWithin-prop : (f : List ℕ) (o : Order) (r : Raw) → IsProp (RawWithin f o r)
RawWithin-prop f o r x y = λ i.
    record {
      tags = TagsWithin-prop f o r.tags x.tags y.tags i;
      spans = Π_prop (λ p. →_prop (SpanIn-prop (span_at r.spans p))) x.spans y.spans i;
      spanned = Coded-set coded_out (is r.spans) (spanned_of (run f (levels_reading o r.tags))) x.spanned y.spanned i;
    }

abbrev pub RawIn : List ℕ → Order → Result Raw Refusal → Type 0
RawIn f o (Err e) = Unit {0}
RawIn f o (Ok r) = RawWithin f o r

pub record PictureIn (f : List ℕ) (p : Picture) : Type 0 where
  pub size : length f ≤ 67108864
  pub first : Tested f p.first
  pub directory : Tested f p.directory
  pub raw : RawWithin f p.order p.raw

abbrev pub FrontIn : List ℕ → Result Picture Refusal → Type 0
FrontIn f (Err e) = Unit {0}
FrontIn f (Ok p) = PictureIn f p
