use Rattle.rawtags.specs.Strips.{strips_reading}
use Rattle.rawtags.proofs.Chain.{on, off, end, exit}
use Rattle.rawtags.proofs.Strip.{strip_in}
use Rattle.rawtags.proofs.strips.strips_of.Goals as goal

pub returns-in_err-counts-clause-result_value : goal.returns-in_err-counts-clause-result_value
unfolding strips_reading
returns-in_err-counts-clause-result_value c =
    let os = rw c.required-offsets_rule.ensures at c.in_ok-offsets.ensures.0 in
    let cs = rw c.required-counts_rule.ensures at c.in_err-counts.ensures.0 in
    exit _ _ _ _ c.from_residual-in_err-counts.ensures.1 (on _ _ _ os (off _ _ _ cs))

pub returns-in_err-check_strips-clause-result_value : goal.returns-in_err-check_strips-clause-result_value
unfolding strips_reading
returns-in_err-check_strips-clause-result_value c =
    let os = rw c.required-offsets_rule.ensures at c.in_ok-offsets.ensures.0 in
    let cs = rw c.required-counts_rule.ensures at c.in_ok-counts.ensures.0 in
    exit _ _ _ _ c.from_residual-in_err-check_strips.ensures.1 (on _ _ _ os (on _ _ _ cs (off _ _ _ c.in_err-check_strips.ensures)))

pub returns : goal.returns
unfolding strips_reading
returns c =
    let os = rw c.required-offsets_rule.ensures at c.in_ok-offsets.ensures in
    let cs = rw c.required-counts_rule.ensures at c.in_ok-counts.ensures.0 in
    let k = c.in_ok-check_strips.ensures in
    record {
      result_value = on _ _ _ os.0 (on _ _ _ cs (on _ _ _ k (end _ _)));
      strips_in = record { placed = os.1; inside = λ i h. strip_in _ _ _ _ _ _ _ _ _ i _ _ _ k h };
    }
