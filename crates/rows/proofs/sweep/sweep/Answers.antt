use mathlib.Core.Path.{◌≡◌, refl, ◌∙◌, subst}
use Prim.Native.Nat.{ℕ, ◌+◌, ◌*◌, ◌≤◌}
use native.Mathlib.Nat.{ne_of_gt, add-mul}
use native.Mathlib.Omega.{arith}
use lib.Ieee.{nan}
use lib.Seq.{get_or-set_other}
use Rattle.rows.proofs.Sweeps.{swept_end, nth_start, nth_step}
use Rattle.rows.proofs.sweep.sweep.Goals as goal

pub loop-n-init : goal.loop-n-init
loop-n-init g c =
    (λ k h. refl, λ v e. nth_start _ _ _ v c.args.out.now)

pub f-requires : goal.f-requires
f-requires g c =
    let p = c.args.places in
    let l = c.loop-n in
    rw (l.invariant.0 (p.first + l.n * p.pitch) (omega arith)) (c.requires.callable l.n (c.count-n-end.ensures.inside l.n c.loop-n-test.true))

pub loop-n-preserved : goal.loop-n-preserved
loop-n-preserved g c =
    let p = c.args.places in
    let l = c.loop-n in
    let i = p.first + l.n * p.pitch in (
      λ k h. get_or-set_other l.out i k c.f.result nan (ne_of_gt (omega (arith, add-mul l.n 1 p.pitch, c.requires.places_in.some)))
          ∙ l.invariant.0 k (omega (arith, add-mul l.n 1 p.pitch)),
      λ v e. nth_step _ _ _ v l.n c.args.out.now l.out _ c.requires.places_in.some
          (c.count-n-end.ensures.inside l.n c.loop-n-test.true) c.requires.places_in.inside (e l.n _ _ c.f.ensures) (l.invariant.1 v e),
    )

pub returns : goal.returns
returns g c v e =
    let p = c.args.places in
    let l = c.loop-n in
    let n : c.count-n-end.result ≡ l.n = omega arith in
    swept_end _ _ _ _ _ c.args.out.now l.out (subst (λ (m : ℕ). p.end ≤ p.first + m * p.pitch) n c.count-n-end.ensures.whole) (l.invariant.1 v e)
