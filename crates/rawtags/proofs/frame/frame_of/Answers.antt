use Rattle.std.proofs.Common.{rules}
use Rattle.rawtags.specs.Frame.{frame_reading}
use Rattle.rawtags.proofs.Chain.{on, off, end, exit}
use Rattle.rawtags.proofs.frame.frame_of.Goals as goal

pub returns-in_err-length : goal.returns-in_err-length
unfolding frame_reading
returns-in_err-length c =
    (exit _ _ _ _ c.from_residual-in_err-length.ensures.1 (on _ _ _ c.in_ok-width.ensures.0 (off _ _ _ c.in_err-length.ensures.0)), search rules)

pub returns-in_err-samples : goal.returns-in_err-samples
unfolding frame_reading
returns-in_err-samples c = (
  exit _ _ _ _ c.from_residual-in_err-samples.ensures.1 (on _ _ _ c.in_ok-width.ensures.0 (on _ _ _ c.in_ok-length.ensures.0
      (off _ _ _ c.in_err-samples.ensures.0))),
  search rules,
)

pub returns : goal.returns
unfolding frame_reading
returns c =
    (on _ _ _ c.in_ok-width.ensures.0 (on _ _ _ c.in_ok-length.ensures.0 (on _ _ _ c.in_ok-samples.ensures.0 (end _ _))), search rules)
