use Rattle.rawtags.specs.Black.{delta_reading}
use Rattle.rawtags.proofs.Chain.{on, off, end, exit}
use Rattle.rawtags.proofs.black.delta_of.Goals as goal

pub returns-in_err-check_blacks-clause-result_value : goal.returns-in_err-check_blacks-clause-result_value
unfolding delta_reading
returns-in_err-check_blacks-clause-result_value c =
    let q = rw c.optional.ensures at c.in_ok-v.ensures.0 in
    exit _ _ _ _ c.from_residual-in_err-check_blacks.ensures.1 (on _ _ _ q (off _ _ _ c.in_err-check_blacks.ensures))

pub returns : goal.returns
unfolding delta_reading
returns c =
    let q = rw c.optional.ensures at c.in_ok-v.ensures in
    record { result_value = on _ _ _ q.0 (on _ _ _ c.in_ok-check_blacks.ensures (end _ _)); values_in = q.1 }
