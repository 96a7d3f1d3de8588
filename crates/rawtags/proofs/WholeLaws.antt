-- Whole numbers, case by case.
-- Assumes nothing.
use mathlib.Core.Path.{◌≡◌, refl}
use mathlib.Core.List.{List}
use Prim.Native.Nat.{ℕ, ◌+◌, ◌/◌, ◌%◌}
use borrow.Author.Tests.{eq-eqb, ne_eqb}
use Rattle.reading.specs.Bytes.{part}
use Rattle.reading.specs.Number.{number_of}
use Rattle.reading.specs.Reading.{run}
use Rattle.reading.specs.declared.number.Order.{Order}
use Rattle.reading.proofs.Reading.{running, pick_yes, pick_no}
use Rattle.directory.specs.Out.{Out.refused, Out.is}
use Rattle.directory.specs.Entry.{code_of, kind_width}
use Rattle.directory.specs.declared.entry.Kind.{Kind}
use Rattle.directory.specs.declared.tag.Values.{Values}
use Rattle.rawtags.specs.Whole.{whole_number_of, whole_number_reading}

-- ---- a fraction
module _ (tag n d : ℕ) where
  pub over_zero : d ≡ 0 → refused 4 tag ≡ whole_number_of tag n d
  unfolding whole_number_of
  over_zero e = simp (eq-eqb _ _ e, pick_yes)

  module _ (e : d ≡ 0 → ⊥) where
    pub quotient_is : n % d ≡ 0 → is (n / d) ≡ whole_number_of tag n d
    unfolding whole_number_of
    quotient_is h = simp (ne_eqb _ _ e, eq-eqb _ _ h, pick_yes, pick_no)

    pub not_whole : (n % d ≡ 0 → ⊥) → refused 8 tag ≡ whole_number_of tag n d
    unfolding whole_number_of
    not_whole h = simp (ne_eqb _ _ e, ne_eqb _ _ h, pick_no)

-- a RATIONAL has 8 bytes
pub rational_width : (k : Kind) → code_of k ≡ 5 → kind_width k ≡ 8
unfolding kind_width
rational_width k e = rw e refl

-- ---- a value
module _ (f : List ℕ) (o : Order) (tag : ℕ) (v : Values) where
  module _ (at : ℕ) where
    pub of_fraction : code_of v.kind ≡ 5 → (n d : ℕ) → n ≡ number_of o (part f at 4) → d ≡ number_of o (part f (at + 4) 4) →
        whole_number_of tag n d ≡ run f (whole_number_reading o tag v at)
    unfolding whole_number_reading
    of_fraction e n d en ed = simp (eq-eqb _ _ e, running, ← en, ← ed)

    pub of_number : (code_of v.kind ≡ 5 → ⊥) → (n : ℕ) → n ≡ number_of o (part f at v.size) →
        whole_number_of tag n 1 ≡ run f (whole_number_reading o tag v at)
    unfolding whole_number_reading
    of_number e n en = simp (ne_eqb _ _ e, running, ← en)
