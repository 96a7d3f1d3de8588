use mathlib.Core.Path.{◌≡◌, sym, subst}
use Prim.Native.Nat.{ℕ, ◌-◌, ◌/◌}
use Rattle.rows.specs.Facts.Sweep.{swept_of}
use Rattle.rows.proofs.sweep.sweep_often.Goals as goal

pub returns-then-places-eq1 : goal.returns-then-places-eq1
returns-then-places-eq1 g c v e =
    let p = c.args.places in
    subst (λ (d : ℕ). c.sweep.new.out ≡ swept_of p.first p.end d (λ k x. v ((k - p.first) / d) x) c.args.out.now) (sym c.if-places-eq1.true)
    (c.sweep.ensures v e)
