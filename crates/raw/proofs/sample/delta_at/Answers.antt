use mathlib.Core.Path.{sym, ◌∙◌}
use Prim.Native.Nat.{◌<◌}
use native.Mathlib.Omega.{arith}
use mir.Syntax.{w64}
use mir.Val.{SFits}
use mir.Facts.{to_z-of_z}
use Rattle.levels.specs.declared.black.BlackKind.TheVariants as kind
use Rattle.levels.proofs.Runs.{within}
use Rattle.raw.proofs.StoredLaws.{black_in, black_none}
use borrow.Author.Rules.{rules}
use Rattle.raw.proofs.sample.delta_at.Goals as goal

pub returns-then-deltas-eq0 : goal.returns-then-deltas-eq0
returns-then-deltas-eq0 c =
    let a = c.args in
    let pre = c.requires in
    record {
      value = sym (black_none a.file.now a.order kind.SignedRational a.deltas (λ s. (pre.1 s).0) c.if-deltas-eq0.true a.i);
      result_bound = omega arith;
    }

pub overflow_mul-size : goal.overflow_mul-size
overflow_mul-size c =
    let a = c.args in
    let pre = c.requires in
    let d = a.deltas in
    let s : 0 < d.count = omega (arith, c.if-deltas-eq0.false) in
    let h = pre.1 s in
    let w = within d.size d.count a.i h.1 in
    omega (arith, w, pre.0)

pub overflow_add-place : goal.overflow_add-place
overflow_add-place c =
    let a = c.args in
    let pre = c.requires in
    let d = a.deltas in
    let s : 0 < d.count = omega (arith, c.if-deltas-eq0.false) in
    let h = pre.1 s in
    let w = within d.size d.count a.i h.1 in
    omega (arith, w, pre.0)

pub parts_at-requires : goal.parts_at-requires
parts_at-requires c =
    let a = c.args in
    let pre = c.requires in
    let d = a.deltas in
    let s : 0 < d.count = omega (arith, c.if-deltas-eq0.false) in
    let h = pre.1 s in
    let w = within d.size d.count a.i h.1 in
    omega (arith, w, pre.0, h.0)

pub returns : goal.returns
returns c =
    let a = c.args in
    let pre = c.requires in
    let d = a.deltas in
    let s : 0 < d.count = omega (arith, c.if-deltas-eq0.false) in
    let h = pre.1 s in
    let w = within d.size d.count a.i h.1 in
    let f : SFits w64 c.parts_at.result = search rules in
    rw (to_z-of_z f) record {
      value = c.parts_at.ensures.value
          ∙ sym (black_in a.file.now a.order kind.SignedRational d (λ s. (pre.1 s).0) a.i h.1);
      result_bound = c.parts_at.ensures.result_bound;
    }
