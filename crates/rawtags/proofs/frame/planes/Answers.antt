use Rattle.std.specs.Prelude.{Result, Ok, Err}
use mathlib.Core.Path.{◌≡◌, subst}
use mathlib.Core.Logic.{◌⊎◌, ⊎_elim}
use Prim.Native.Nat.{ℕ}
use native.Mathlib.Omega.{arith}
use borrow.Author.Tests.{eq-eqb, ne_eqb}
use Rattle.reading.proofs.Reading.{running, pick_no}
use Rattle.directory.specs.Tag.{range}
use Rattle.directory.specs.Facts.Tag.{NumberIn}
use Rattle.directory.specs.declared.refusal.Refusal.{Refusal}
use Rattle.rawtags.specs.Frame.{samples_of, planes_reading}
use Rattle.rawtags.specs.Facts.Frame.{PlanesIn}
use Rattle.rawtags.proofs.Chain.{on}
use Rattle.rawtags.proofs.frame.planes.Goals as goal

one_or_three : (s : ℕ) → (s ≡ 1) ⊎ (s ≡ 3) → (n : Result ℕ Refusal) → NumberIn (range 0 s s) n → PlanesIn n
one_or_three s z (Err n) i = tt
one_or_three s z (Ok v) i =
    let e : s ≡ v = omega (arith, i.from, i.to) in
    subst (λ (n : ℕ). (n ≡ 1) ⊎ (n ≡ 3)) e z

pub returns-in_default : goal.returns-in_default
unfolding planes_reading
returns-in_default c =
    let p = rw (c.required-photometric.ensures, c.new.ensures) at c.in_ok-p.ensures.0 in
    (on _ _ _ p (simp (eq-eqb _ _ c.in_default.ensures, running)), tt)

pub returns : goal.returns
unfolding planes_reading
returns c =
    let h = c.in-Some.ensures in
    let p = rw (c.required-photometric.ensures, c.new.ensures) at c.in_ok-p.ensures.0 in
    let s = rw (c.optional-per_pixel.ensures, c.new-2.ensures) at c.one-2.ensures in
    let z : samples_of c.in_ok-p.p ≡ 0 → ⊥ = λ q. ⊎_elim (λ e. omega arith) (λ e. omega arith) h.1 in
    (on _ _ _ p (rw (ne_eqb _ _ z, pick_no, ← h.0) s.0), one_or_three _ h.1 _ s.1)
