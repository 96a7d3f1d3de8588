use mathlib.Core.Path.{◌≡◌, refl, sym}
use Prim.Native.Nat.{ℕ, ◌+◌, ◌*◌}
use native.Mathlib.Nat.{mul-zero}
use native.Mathlib.Omega.{arith}
use lib.IntN.{ℤ, pos}
use lib.ListN.{get_or}
use mir.Syntax.{w64}
use mir.Val.{SFits}
use mir.Facts.{to_z-of_z}
use Rattle.reading.specs.Reading.{run}
use Rattle.levels.specs.declared.black.BlackKind.TheVariants as kind
use Rattle.levels.proofs.Maxima.{fold_start, fold_end}
use Rattle.raw.specs.Stored.{blacks_reading}
use Rattle.raw.proofs.Greater.{fold_max}
use Rattle.raw.proofs.StoredLaws.{greatest_delta_none}
use borrow.Author.Rules.{rules}
use Rattle.raw.proofs.greatest.greatest_delta.Goals as goal
use Rattle.raw.proofs.greatest.greatest_delta.Goals.{Start}

-- the k-th delta
abbrev delta : Start → ℕ → ℤ
delta s k =
    let a = s.args in
    get_or (run a.file.now (blacks_reading a.order kind.SignedRational a.deltas)) (a.first + a.step * k) (pos 0)

pub returns-then-deltas-eq0-clause-value : goal.returns-then-deltas-eq0-clause-value
returns-then-deltas-eq0-clause-value c =
    let a = c.args in
    sym (greatest_delta_none a.file.now a.order a.deltas a.n a.step a.first c.requires.deltas_of c.if-deltas-eq0.true)

pub loop-k-init : goal.loop-k-init
loop-k-init c =
    let s = (goal.at.loop-k-init c).Start in
    let a = s.args in
    let g = c.delta_at-best.ensures in
    let f : SFits w64 c.delta_at-best.result = search rules in
    let q : a.first + a.step * 0 ≡ a.first = omega (arith, mul-zero a.step) in
    let e : c.delta_at-best.result ≡ delta s 0 = rw q g.value in
    rw (to_z-of_z f) (fold_start (delta s) _ _ (omega arith) e, g.result_bound)

pub loop-k-preserved : goal.loop-k-preserved
loop-k-preserved c =
    let l = c.loop-k in
    let n = c.delta_at in
    let f : SFits w64 c.max-best.result = search rules in
    let k : SFits w64 n.result = search rules in
    rw (to_z-of_z f) (fold_max _ _ l.k _ n.result _ _ l.invariant c.loop-k-test.true (n.ensures.value, n.ensures.result_bound) refl (to_z-of_z k)
    c.max-best.ensures.value)

pub returns-clause-value : goal.returns-clause-value
returns-clause-value c =
    let l = c.loop-k in fold_end _ _ l.k _ l.invariant.0 c.loop-k-test.false
