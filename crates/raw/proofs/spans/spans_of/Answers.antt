use mathlib.Core.Path.{◌≡◌}
use mir.Syntax.{w64}
use mir.Val.{SFits}
use mir.Facts.{to_z-of_z}
use native.Mathlib.Omega.{arith}
use borrow.Author.Rules.{rules}
use Rattle.raw.proofs.StoredLaws.{samples_are}
use Rattle.raw.proofs.SpanLaws.{found_step, found_bad, found_all, found_within}
use Rattle.raw.proofs.spans.spans_of.Goals as goal

pub returns-then-s-le0 : goal.returns-then-s-le0
returns-then-s-le0 c =
    let s = c.args.source in
    let l = c.loop-plane in
    let f : SFits w64 c.span-s.result = search rules in
    let b = rw (to_z-of_z f) at c.if-s-le0.true in
    (found_bad _ _ (samples_are s.file.now s.order s.tags) s.within.frame.planes l.plane _ _ l.invariant c.loop-plane-test.true c.span-s.ensures.0 b, tt)

pub loop-plane-preserved : goal.loop-plane-preserved
loop-plane-preserved c =
    let l = c.loop-plane in
    let f : SFits w64 c.span-s.result = search rules in
    let b = rw (to_z-of_z f) at c.if-s-le0.false in
    rw (to_z-of_z f) (found_step _ l.plane _ _ l.invariant (omega (arith, c.loop-plane-test.true, c.args.source.within.frame.samples)) c.span-s.ensures.0 b
    c.span-s.ensures.1)

pub returns : goal.returns
returns c =
    let a = c.args in
    let l = c.loop-plane in
    let e = samples_are a.source.file.now a.source.order a.source.tags in
    let planes = c.args.source.within.frame.planes in
    let all : l.plane ≡ a.source.tags.frame.samples = omega (arith, c.loop-plane-test.false, l.auto.plane-end) in
    (found_all _ _ e planes l.plane _ l.invariant all, found_within _ _ e planes l.plane _ l.invariant all)
