use mathlib.Core.Path.{sym, ap, ◌∙◌}
use Rattle.levels.specs.Black.{width_of}
use Rattle.rawtags.specs.Black.{black_reading}
use Rattle.rawtags.proofs.BlackLaws.{width_for}
use Rattle.rawtags.proofs.Chain.{on, off, end, exit}
use Rattle.rawtags.proofs.black.black_of.Goals as goal

pub check_blacks-requires : goal.check_blacks-requires
check_blacks-requires c =
    let q = rw c.optional-rule.ensures at c.in_ok-v.ensures.1 in
    (q.inside, λ h. (q.typed h).1 ∙ width_for c.in_ok-v.v.kind (q.typed h).0 ∙ ap width_of (sym c.kind_for.ensures))

pub returns-in_err-check_blacks-clause-result_value : goal.returns-in_err-check_blacks-clause-result_value
unfolding black_reading
returns-in_err-check_blacks-clause-result_value c =
    let q = rw c.optional-rule.ensures at c.in_ok-v.ensures.0 in
    let k = rw c.kind_for.ensures at c.in_err-check_blacks.ensures in
    exit _ _ _ _ c.from_residual-in_err-check_blacks.ensures.1 (on _ _ _ q (off _ _ _ k))

pub returns : goal.returns
unfolding black_reading
returns c =
    let q = rw c.optional-rule.ensures at c.in_ok-v.ensures in
    let k = rw c.kind_for.ensures at c.in_ok-check_blacks.ensures in
    record { result_value = on _ _ _ q.0 (on _ _ _ k (end _ _)); values_in = q.1 }
