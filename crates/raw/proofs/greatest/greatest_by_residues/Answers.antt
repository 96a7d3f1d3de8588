use mathlib.Core.Path.{◌≡◌, refl}
use Prim.Native.Nat.{ℕ, ◌/◌, ◌%◌}
use native.Mathlib.Nat.{mul-pos, zero-div, zero-mod}
use lib.IntN.{ℤ}
use mir.Syntax.{w64}
use mir.Val.{SFits}
use mir.Facts.{to_z-of_z}
use Rattle.reading.specs.Reading.{run}
use Rattle.levels.specs.Facts.Residues.{residue_black}
use Rattle.levels.proofs.Maxima.{fold_start, fold_end}
use Rattle.raw.specs.Stored.{levels_reading}
use Rattle.raw.proofs.Greater.{fold_max}
use borrow.Author.Rules.{rules}
use Rattle.raw.proofs.greatest.greatest_by_residues.Goals as goal
use Rattle.raw.proofs.greatest.greatest_by_residues.Goals.{Start}

-- the greatest B of the k-th pair
abbrev pair : Start → ℕ → ℤ
pair s k =
    let a = s.args in
    residue_black (run a.source.file.now (levels_reading a.source.order a.source.tags)) a.deltas.columns a.deltas.rows a.plane
    (k / a.across) (k % a.across)

pub loop-k-init : goal.loop-k-init
loop-k-init c =
    let s = (goal.at.loop-k-init c).Start in
    let h = s.requires.small in
    let g = c.residue_black-best.ensures in
    let f : SFits w64 c.residue_black-best.result = search rules in
    let e : c.residue_black-best.result ≡ pair s 0 = rw (zero-div s.args.across, zero-mod s.args.across) g.value in
    rw (to_z-of_z f) (fold_start (pair s) _ _ (mul-pos h.2 h.4) e, g.result_bound)

pub loop-k-preserved : goal.loop-k-preserved
loop-k-preserved c =
    let l = c.loop-k in
    let n = c.residue_black in
    let f : SFits w64 c.max-best.result = search rules in
    let k : SFits w64 n.result = search rules in
    rw (to_z-of_z f) (fold_max _ _ l.k _ n.result _ _ l.invariant c.loop-k-test.true (n.ensures.value, n.ensures.result_bound) refl (to_z-of_z k)
    c.max-best.ensures.value)

pub returns-clause-value : goal.returns-clause-value
returns-clause-value c =
    let l = c.loop-k in fold_end _ _ l.k _ l.invariant.0 c.loop-k-test.false
