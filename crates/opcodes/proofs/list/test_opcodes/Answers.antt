use Rattle.std.proofs.Common.{◌≡◌, ◌+◌, ◌-◌, ◌<◌, ◌≤◌, sym, ◌∙◌, arith}
use Rattle.std.proofs.lemmas.Result.{err_from_is_err_and}
use Rattle.reading.specs.Reading.{run}
use Rattle.directory.specs.Out.{Out, Out.refused, Out.is}
use Rattle.opcodes.specs.OpcodeList.{class_of, opcode_reading}
use Rattle.opcodes.specs.Facts.OpcodeList.{counted_one}
use Rattle.opcodes.specs.declared.list.Counts.{Counts}
use Rattle.opcodes.proofs.Listing.{head_at, whole_at, list_short, list_over, list_refused, list_next, list_end, list_left, counted_bound}
use Rattle.opcodes.proofs.list.test_opcodes.Goals as goal
use Rattle.opcodes.proofs.list.test_opcodes.Goals.{Else-rest-whole}

pub returns-then-rest-lt16 : goal.returns-then-rest-lt16
returns-then-rest-lt16 c =
    let a = c.args in
    let l = c.loop-i in
    let some : 0 < a.count - l.i = omega (arith, c.loop-i-test.true) in
    list_short a.file.now a.size (a.count - l.i) l.i l.p l.rest l.counts some c.if-rest-lt16.true ∙ l.invariant.0

pub returns-then-rest-whole : goal.returns-then-rest-whole
returns-then-rest-whole c =
    let a = c.args in
    let l = c.loop-i in
    let some : 0 < a.count - l.i = omega (arith, c.loop-i-test.true) in
    list_over a.file.now a.size (a.count - l.i) l.i l.p l.rest l.counts some c.if-rest-lt16.false
    (rw (← c.header_at-header.ensures.value) c.if-rest-whole.true) ∙ l.invariant.0

-- the opcode lies in what is left
inside : (d : Else-rest-whole) → whole_at d.args.file.now d.loop-i.p ≤ d.loop-i.rest
inside d = rw (← d.header_at-header.ensures.value) d.if-rest-whole.false

pub returns-in_err-counts : goal.returns-in_err-counts
returns-in_err-counts c =
    let a = c.args in
    let l = c.loop-i in
    let some : 0 < a.count - l.i = omega (arith, c.loop-i-test.true) in
    let p = err_from_is_err_and c.from_residual.result c.from_residual.ensures.1 in
    rw (p.1, p.2)
    (list_refused a.file.now a.size l.i l.p l.rest l.counts c.if-rest-lt16.false (inside (goal.at.returns-in_err-counts c).Else-rest-whole)
    (a.count - l.i) some _ _ (rw (← c.header_at-header.ensures.value) c.in_err-counts.ensures) ∙ l.invariant.0)

pub loop-i-preserved : goal.loop-i-preserved
loop-i-preserved c =
    let a = c.args in
    let f = a.file.now in
    let l = c.loop-i in
    let d = (goal.at.loop-i-preserved c).Else-rest-whole in
    let some : 0 < a.count - l.i = omega (arith, c.loop-i-test.true) in
    let e = c.header_at-header.ensures.value in
    let g : is c.in_ok-counts.counts ≡ counted_one l.counts (run f (opcode_reading (class_of (head_at f l.p)) a.size l.i l.p (head_at f l.p))) =
    rw (← e) c.in_ok-counts.ensures in
    let k = counted_bound l.counts _ _ g in
    let j : a.count - l.i - 1 ≡ a.count - (l.i + 1) = omega arith in
    let t = list_next f a.size l.i l.p l.rest l.counts c.if-rest-lt16.false (inside d) (a.count - l.i) some _ g in (
      sym (rw (j, ← e) at t) ∙ l.invariant.0,
      omega (arith, l.invariant.1, c.if-rest-whole.false),
      omega (arith, l.invariant.2, k.0),
      omega (arith, l.invariant.3, k.1),
    )

pub returns-then-rest-eq0 : goal.returns-then-rest-eq0
returns-then-rest-eq0 c =
    let a = c.args in
    let l = c.loop-i in
    let done : a.count - l.i ≡ 0 = omega (arith, c.loop-i-test.false) in
    list_end a.file.now a.size (a.count - l.i) l.i l.p l.rest l.counts done c.if-rest-eq0.true ∙ l.invariant.0

pub returns-else-rest-eq0 : goal.returns-else-rest-eq0
returns-else-rest-eq0 c =
    let a = c.args in
    let l = c.loop-i in
    let done : a.count - l.i ≡ 0 = omega (arith, c.loop-i-test.false) in
    let place : l.i ≡ a.count = omega (arith, c.loop-i.auto.i-end, c.loop-i-test.false) in
    let at_end : ◌≡◌ {A = Out Counts} (refused 10 a.count) (refused 10 l.i) = rw place in
    at_end ∙ list_left a.file.now a.size (a.count - l.i) l.i l.p l.rest l.counts done c.if-rest-eq0.false ∙ l.invariant.0
