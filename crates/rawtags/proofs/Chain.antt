-- A chain of steps that may refuse, step by step.
-- Assumes nothing.
use mathlib.Core.Path.{◌≡◌, sym, ◌∙◌}
use mathlib.Core.List.{List}
use Prim.Native.Nat.{ℕ}
use Rattle.std.specs.Prelude.{Result}
use Rattle.std.specs.Result.{IsErrAnd}
use Rattle.std.proofs.lemmas.Result.{err_from_is_err_and}
use Rattle.reading.specs.Reading.{Reading, Reading.answer, run}
use Rattle.reading.proofs.Reading.{run_answer}
use Rattle.directory.specs.Out.{Out, Out.refused, Out.is, bind}
use Rattle.directory.specs.Refusal.{number_of, detail_of}
use Rattle.directory.specs.Facts.Out.{out}
use Rattle.directory.specs.declared.refusal.Refusal.{Refusal}
use Rattle.directory.proofs.Outs.{bind_refused, bind_is}

module _ {A B : Type 0} (f : List ℕ) (p : Reading (Out A)) (k : A → Reading (Out B)) where
  -- behind a step that answered
  pub on : {a : A} {x : Out B} → is a ≡ run f p → x ≡ run f (k a) → x ≡ run f (bind p k)
  on {a} e h = h ∙ sym (bind_is f p k a e)

  -- the step that refuses
  pub off : {n d : ℕ} → refused n d ≡ run f p → refused n d ≡ run f (bind p k)
  off {n} {d} e = bind_refused f p k n d e

module _ {B : Type 0} (f : List ℕ) where
  -- the end
  pub end : (x : Out B) → x ≡ run f (answer x)
  end x = sym (run_answer f x)

  -- what a function answers at the exit of a `?`
  pub exit : (q : Reading (Out B)) (r : Result B Refusal) (e : Refusal) → IsErrAnd r (λ y. y ≡ e) →
      refused (number_of e) (detail_of e) ≡ run f q → out r ≡ run f q
  exit q r e h g = let p = err_from_is_err_and r h in rw (p.1, p.2) g

pub ruleset chain = (on, off, end)
