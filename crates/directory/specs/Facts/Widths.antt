-- What the functions tell one another.
use Rattle.std.specs.Prelude.{ℕ, ◌<◌}
use Rattle.std.specs.Coded.{Coded-set, coded_ℕ, le_prop}
use mathlib.Core.Logic.{inl, inr}
use mathlib.Core.Path.{ap}
use native.Mathlib.Omega.{arith}
use Rattle.reading.specs.Facts.Number.{Wide}
use Rattle.directory.specs.declared.Widths.{Widths}

-- all that the proofs ask of a layout: widths that numbers can have, and no type past the list
pub record WidthsIn (w : Widths) : Type 0 where
  pub entries : Wide w.entries
  pub word : Wide w.word
  pub types : w.types < 19

-- a fact about widths holds in one way
pub Wide-prop : (s : ℕ) → IsProp (Wide s)
Wide-prop s (inl p) (inl q) = ap inl (Coded-set coded_ℕ s 2 p q)
Wide-prop s (inl p) (inr (inl q)) = absurd (omega arith)
Wide-prop s (inl p) (inr (inr q)) = absurd (omega arith)
Wide-prop s (inr (inl p)) (inl q) = absurd (omega arith)
Wide-prop s (inr (inl p)) (inr (inl q)) = ap (λ x. inr (inl x)) (Coded-set coded_ℕ s 4 p q)
Wide-prop s (inr (inl p)) (inr (inr q)) = absurd (omega arith)
Wide-prop s (inr (inr p)) (inl q) = absurd (omega arith)
Wide-prop s (inr (inr p)) (inr (inl q)) = absurd (omega arith)
Wide-prop s (inr (inr p)) (inr (inr q)) = ap (λ x. inr (inr x)) (Coded-set coded_ℕ s 8 p q)

pub WidthsIn-prop : (w : Widths) → IsProp (WidthsIn w)
WidthsIn-prop w x y = λ i.
    record {
      entries = Wide-prop w.entries x.entries y.entries i;
      word = Wide-prop w.word x.word y.word i;
      types = le_prop x.types y.types i;
    }
