use mathlib.Core.Path.{◌≡◌, sym, ◌∙◌}
use Prim.Native.Nat.{◌+◌, ◌-◌, ◌*◌, ◌≤◌}
use native.Mathlib.Omega.{arith}
use lib.ListN.{length}
use borrow.Author.Tests.{leb-true, leb-false}
use Rattle.directory.proofs.Entries.{one_further}
use Rattle.rawtags.proofs.Strip.{strip_none, strip_bytes_law, strip_outside, strip_next}
use Rattle.rawtags.proofs.strips.check_strips.Goals as goal
use Rattle.rawtags.proofs.strips.check_strips.Goals.{In-loop}

-- one more offset lies in the file, and so do the others after it
offsets : (c : In-loop) → let l = c.loop in let a = c.args in
    (l.p + a.offsets.size ≤ length a.file.now) × (l.p + a.offsets.size + a.offsets.size * (a.count - (l.counter + 1)) ≤ length a.file.now)
offsets c = one_further _ _ (c.args.count - c.loop.counter) _ _ (omega arith) c.loop.invariant.1

-- and so with the byte counts
counts : (c : In-loop) → let l = c.loop in let a = c.args in
    (l.q + a.counts.size ≤ length a.file.now) × (l.q + a.counts.size + a.counts.size * (a.count - (l.counter + 1)) ≤ length a.file.now)
counts c = one_further _ _ (c.args.count - c.loop.counter) _ _ (omega arith) c.loop.invariant.2

pub returns-then-bytes-here : goal.returns-then-bytes-here
returns-then-bytes-here c =
    let n = c.args.count - c.loop.counter in
    strip_bytes_law _ _ _ _ _ _ _ _ _ _ n (n - 1) (omega arith) _ c.min-here.ensures _ c.value-bytes.ensures c.if-bytes-here.true
    ∙ sym c.loop.invariant.0

pub returns-then-not-inside : goal.returns-then-not-inside
returns-then-not-inside c =
    let n = c.args.count - c.loop.counter in
    let o = leb-false _ _ (sym c.inside.ensures ∙ c.if-not-inside.true) in
    strip_outside _ _ _ _ _ _ _ _ _ _ n (n - 1) (omega arith) _ c.min-here.ensures _ c.value-bytes.ensures c.if-bytes-here.false
    _ c.value-place.ensures o
    ∙ sym c.loop.invariant.0

pub loop-preserved : goal.loop-preserved
loop-preserved c =
    let l = c.loop in
    let i = leb-true _ _ (sym c.inside.ensures ∙ c.if-not-inside.false) in
    let next = strip_next _ _ _ _ _ _ _ _ _ _ (c.args.count - l.counter) (c.args.count - (l.counter + 1)) (omega arith)
    _ c.min-here.ensures _ c.value-bytes.ensures c.if-bytes-here.false _ c.value-place.ensures i in (
      l.invariant.0 ∙ next,
      (offsets (goal.at.loop-preserved c).In-loop).1,
      (counts (goal.at.loop-preserved c).In-loop).1,
      omega arith,
    )

pub returns : goal.returns
returns c =
    let z : c.args.count - c.loop.counter ≡ 0 = omega arith in
    strip_none _ _ _ _ _ _ _ _ _ _ ∙ sym (rw z at c.loop.invariant.0)
