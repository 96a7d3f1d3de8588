use Rattle.rawtags.specs.Pattern.{pattern_reading}
use Rattle.rawtags.proofs.Chain.{on, off, end, exit}
use Rattle.rawtags.proofs.pattern.pattern_of.Goals as goal

pub returns-in_err-pattern : goal.returns-in_err-pattern
unfolding pattern_reading
returns-in_err-pattern c =
    exit _ _ _ _ c.from_residual-in_err-pattern.ensures.1 (on _ _ _ c.in_ok-repeat_dim_of.ensures (off _ _ _ c.in_err-pattern.ensures))

pub returns-in_err-plane_color_of : goal.returns-in_err-plane_color_of
unfolding pattern_reading
returns-in_err-plane_color_of c =
    exit _ _ _ _ c.from_residual-in_err-plane_color_of.ensures.1 (on _ _ _ c.in_ok-repeat_dim_of.ensures (on _ _ _ c.in_ok-pattern.ensures
    (off _ _ _ c.in_err-plane_color_of.ensures)))

pub returns-in_err-cfa_layout_of : goal.returns-in_err-cfa_layout_of
unfolding pattern_reading
returns-in_err-cfa_layout_of c =
    exit _ _ _ _ c.from_residual-in_err-cfa_layout_of.ensures.1 (on _ _ _ c.in_ok-repeat_dim_of.ensures (on _ _ _ c.in_ok-pattern.ensures
    (on _ _ _ c.in_ok-plane_color_of.ensures (off _ _ _ c.in_err-cfa_layout_of.ensures))))

pub returns : goal.returns
unfolding pattern_reading
returns c =
    on _ _ _ c.in_ok-repeat_dim_of.ensures (on _ _ _ c.in_ok-pattern.ensures (on _ _ _ c.in_ok-plane_color_of.ensures
    (on _ _ _ c.in_ok-cfa_layout_of.ensures (end _ _))))
