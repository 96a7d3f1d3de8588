use mathlib.Core.Path.{◌≡◌, refl, sym, ap, ◌∙◌}
use mathlib.Core.Bool.{Bool}
use Prim.Native.Nat.{ℕ, ◌≤◌}
use native.Mathlib.Omega.{arith}
use lib.ListN.{length}
use Rattle.opcodes.specs.declared.list.Header.{Header}
use Rattle.opcodes.proofs.Listing.{head_at, list_length}
use Rattle.rows.proofs.Walks.{Progress, walk_start, walk_next, step_reads, step_onward, walk_end}
use Rattle.chain.specs.Links.{is_skipped}
use Rattle.chain.specs.Facts.Links.{Marked, marked, mark_into}
use Rattle.chain.proofs.LinkLaws.{mark_of, skips_is, mark_held, marks_skipped, skipped_index}
use Rattle.chain.proofs.links.skip.Goals as goal

pub loop-i-init : goal.loop-i-init
loop-i-init c =
    (walk_start _ _ _ _ _ _ _ c.requires.0.read, omega arith, refl)

pub header_at-h-requires : goal.header_at-h-requires
header_at-h-requires c =
    let a = c.args in
    let loop = c.loop-i in
    let q = a.opcodes in
    let s = walk_next mark_of a.file.now q.size q.count q.at q.bytes (marked 0 0 a.skipped.now) loop.i loop.p
    (marked loop.i loop.n loop.skipped) c.loop-i-test.true loop.invariant.0 in
    omega (arith, s.header, c.requires.0.read.inside)

pub mark-n-requires : goal.mark-n-requires
mark-n-requires c =
    let loop = c.loop-i in
    (loop.invariant.1, omega (arith, c.loop-i-test.true, c.requires.0.few), omega (arith, loop.invariant.2, c.requires.1))

pub overflow_add-p-in-loop-i : goal.overflow_add-p-in-loop-i
overflow_add-p-in-loop-i c =
    let a = c.args in
    let h = c.header_at-h in
    let loop = c.loop-i in
    let q = a.opcodes in
    let s = walk_next mark_of a.file.now q.size q.count q.at q.bytes (marked 0 0 a.skipped.now) loop.i loop.p
    (marked loop.i loop.n loop.skipped) c.loop-i-test.true loop.invariant.0 in
    let e : h.result.length ≡ (head_at a.file.now loop.p).length = ap (λ (k : Header). k.length) h.ensures.value in
    omega (arith, s.whole, c.requires.0.read.inside, c.well_formed.0.1)

pub loop-i-preserved : goal.loop-i-preserved
loop-i-preserved c =
    let a = c.args in
    let f = a.file.now in
    let mark = c.mark-n in
    let h = c.header_at-h in
    let if1 = c.loop-i-test in
    let loop = c.loop-i in
    let q = a.opcodes in
    let old = marked 0 0 a.skipped.now in
    let m = marked loop.i loop.n loop.skipped in
    let s = walk_next mark_of f q.size q.count q.at q.bytes old loop.i loop.p m if1.true loop.invariant.0 in
    let r = step_reads mark_of f q.size q.count q.at q.bytes old loop.i loop.p m _ h.ensures.value s in
    let e = mark.ensures ∙ ap (λ (b : Bool). mark_into b m) (sym (skips_is f q.size loop.p _ loop.i s.first r)) in
    let k = mark_held (is_skipped s.first) m loop.invariant.1 in (
      step_onward mark_of f q.size q.count q.at q.bytes old loop.i loop.p m _ h.ensures.value s _ e,
      omega (arith, ap (λ (x : Marked). x.count) e, k.0),
      ap (λ (x : Marked). length x.slice) e ∙ k.1 ∙ loop.invariant.2,
    )

pub returns : goal.returns
returns c =
    let a = c.args in
    let f = a.file.now in
    let q = a.opcodes in
    let loop = c.loop-i in
    let m = marked loop.i loop.n loop.skipped in
    λ os e.
    let n = list_length f q.size q.count 0 q.at q.bytes os e in
    let w = walk_end mark_of f q.size q.count q.at q.bytes (marked 0 0 a.skipped.now) loop.i loop.p m c.loop-i-test.false
    loop.invariant.0 os e
    ∙ marks_skipped os a.skipped.now (omega (arith, n, c.requires.0.few)) c.requires.1 in
    let i = ap (λ (k : Marked). k.index) w ∙ skipped_index os a.skipped.now ∙ n in
    ap (λ (k : ℕ). marked k loop.n loop.skipped) (sym i) ∙ w
