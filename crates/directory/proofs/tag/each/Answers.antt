use Rattle.std.proofs.Common.{◌≡◌, ◌+◌, ◌-◌}
use mathlib.Core.Path.{sym, ◌∙◌}
use native.Mathlib.Omega.{arith}
use Rattle.std.proofs.lemmas.Result.{err_from_is_err_and}
use Rattle.directory.proofs.Entries.{one_further}
use Rattle.directory.proofs.Tags.{each_none, each_bad, each_next}
use Rattle.directory.proofs.tag.each.Goals as goal

pub returns-in_err-judged : goal.returns-in_err-judged
returns-in_err-judged c =
    let p = err_from_is_err_and c.from_residual.result c.from_residual.ensures.1 in
    let n = c.args.count - c.loop.counter in
    rw (p.1, p.2) (each_bad _ _ _ _ _ _ n (n - 1) _ (omega arith) c.value.ensures _ _ c.in_err-judged.ensures.0 ∙ sym c.loop.invariant.0)

pub loop-preserved : goal.loop-preserved
loop-preserved c =
    let n = c.args.count - c.loop.counter in
    let m = c.args.count - (c.loop.counter + 1) in
    let next = each_next _ _ _ _ _ _ n m _ (omega arith) c.value.ensures _ c.in_ok-judged.ensures.0 in
    (c.loop.invariant.0 ∙ next, (one_further _ _ n m _ (omega arith) c.loop.invariant.1).1, λ h. c.loop.invariant.2 (omega arith))

pub returns : goal.returns
returns c =
    let z : c.args.count - c.loop.counter ≡ 0 = omega arith in
    each_none _ _ _ _ _ _ ∙ sym (rw z at c.loop.invariant.0)
