use mathlib.Core.Path.{◌≡◌, sym, subst, ◌∙◌}
use Prim.Native.Nat.{ℕ, ◌≤◌, ◌<◌}
use native.Mathlib.Omega.{arith}
use native.Mathlib.Nat.{mul-le-mul}
use Rattle.raw.specs.Stored.{default_white}
use Rattle.levels.proofs.Runs.{within}
use Rattle.raw.proofs.StoredLaws.{white_default, white_given}
use Rattle.raw.proofs.TagFacts.{whites_at}
use Rattle.directory.proofs.Entries.{wide_most}
use Rattle.raw.proofs.spans.white_at.Goals as goal

below_three : (p s : ℕ) → p < s → s ≤ 3 → p ≤ 2
below_three p s h k = omega arith

pub returns-then-source-eq1 : goal.returns-then-source-eq1
returns-then-source-eq1 c =
    let a = c.args in
    let pre = c.requires in
    let e : default_white a.source.tags.layout.bytes ≡ 255 = rw c.if-source-eq1.true in
    sym (white_default a.source.file.now a.source.order a.source.tags a.plane pre c.if-white-eq0.true ∙ e)

pub returns-then-white-eq0 : goal.returns-then-white-eq0
returns-then-white-eq0 c =
    let a = c.args in
    let pre = c.requires in
    let l = a.source.within.layout in
    let b : a.source.tags.layout.bytes ≡ 2 = omega (arith, l.some_bytes, l.bytes) in
    let e : default_white a.source.tags.layout.bytes ≡ 65535 = rw b in
    sym (white_default a.source.file.now a.source.order a.source.tags a.plane pre c.if-white-eq0.true ∙ e)

pub overflow_mul-size : goal.overflow_mul-size
overflow_mul-size c =
    let a = c.args in
    let pre = c.requires in
    let q = whites_at a.source.file.now a.source.order a.source.tags a.source.within c.if-white-eq0.false in
    omega (arith, mul-le-mul (wide_most _ q.wide) (below_three a.plane _ pre a.source.within.frame.samples), q.inside)

pub overflow_add-place : goal.overflow_add-place
overflow_add-place c =
    let a = c.args in
    let pre = c.requires in
    let q = whites_at a.source.file.now a.source.order a.source.tags a.source.within c.if-white-eq0.false in
    omega (arith, mul-le-mul (wide_most _ q.wide) (below_three a.plane _ pre a.source.within.frame.samples), q.inside)

pub value-requires : goal.value-requires
value-requires c =
    let a = c.args in
    let pre = c.requires in
    let q = whites_at a.source.file.now a.source.order a.source.tags a.source.within c.if-white-eq0.false in
    (omega (arith, within a.source.tags.levels.white.size a.source.tags.frame.samples a.plane pre, q.inside), q.wide)

pub overflow_cast-result : goal.overflow_cast-result
overflow_cast-result c =
    let p = c.args.plane in
    let q = whites_at c.args.source.file.now c.args.source.order c.args.source.tags c.args.source.within c.if-white-eq0.false in
    let l = subst (λ (n : ℕ). p < n) (sym q.count) c.requires in
    record { fits = omega (arith, c.value.ensures, c.args.source.within.levels.white.most p l) }

pub returns : goal.returns
returns c =
    let p = c.args.plane in
    let q = whites_at c.args.source.file.now c.args.source.order c.args.source.tags c.args.source.within c.if-white-eq0.false in
    let l = subst (λ (n : ℕ). p < n) (sym q.count) c.requires in
    c.value.ensures ∙ sym (white_given c.args.source.file.now c.args.source.order c.args.source.tags p c.requires c.if-white-eq0.false l)
