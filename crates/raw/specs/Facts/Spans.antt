-- What holds of an accepted value.
use Rattle.std.specs.Prelude.{ℕ, ◌<◌, min, ℤ, pos, get_or, Result, Ok, Err}
use Rattle.levels.specs.Facts.Reciprocal.{SpanIn}
use Rattle.raw.specs.declared.spans.Spans.{Spans}
use Rattle.directory.specs.declared.refusal.Refusal.{Refusal}

-- S of a plane; behind the third, of the third
unfoldable pub span_at : Spans → ℕ → ℤ
span_at s p = get_or s.planes (min p 2) (pos 0)

-- what S is on each of n planes
abbrev pub SpansWithin : ℕ → Spans → Type 0
SpansWithin n s = (p : ℕ) → p < n → SpanIn (span_at s p)

abbrev pub SpansIn : ℕ → Result Spans Refusal → Type 0
SpansIn n (Err number) = Unit {0}
SpansIn n (Ok s) = SpansWithin n s
