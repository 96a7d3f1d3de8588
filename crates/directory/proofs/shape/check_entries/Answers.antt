use Rattle.std.proofs.Common.{◌≡◌, ◌+◌, ◌-◌}
use mathlib.Core.Path.{sym, ◌∙◌}
use native.Mathlib.Omega.{arith}
use Rattle.std.proofs.lemmas.Result.{err_from_is_err_and}
use Rattle.directory.proofs.Entries.{one_further}
use Rattle.directory.proofs.Shapes.{shape_none, shape_refused, shape_order, shape_next}
use Rattle.directory.proofs.shape.check_entries.Goals as goal

pub returns-in_err-tag : goal.returns-in_err-tag
returns-in_err-tag c =
    let p = err_from_is_err_and c.from_residual.result c.from_residual.ensures.1 in
    let n = c.args.count - c.loop.counter in
    let e = c.in_err-tag.ensures.result_value in
    rw (p.1, p.2) (shape_refused _ _ _ _ _ _ n (n - 1) (omega arith) _ _ e ∙ sym c.loop.invariant.0)

pub returns-then-tag-low : goal.returns-then-tag-low
returns-then-tag-low c =
    let n = c.args.count - c.loop.counter in
    shape_order _ _ _ _ _ _ n (n - 1) (omega arith) _ c.in_ok-tag.ensures.result_value c.if-tag-low.true ∙ sym c.loop.invariant.0

pub loop-preserved : goal.loop-preserved
loop-preserved c =
    let n = c.args.count - c.loop.counter in
    let m = c.args.count - (c.loop.counter + 1) in
    let next = shape_next _ _ _ _ _ _ n m (omega arith) _ c.in_ok-tag.ensures.result_value c.if-tag-low.false in
    (c.loop.invariant.0 ∙ next, (one_further _ _ n m _ (omega arith) c.loop.invariant.1).1)

pub returns : goal.returns
returns c =
    let z : c.args.count - c.loop.counter ≡ 0 = omega arith in
    shape_none _ _ _ _ _ _ ∙ sym (rw z at c.loop.invariant.0)
