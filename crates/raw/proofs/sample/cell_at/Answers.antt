use mathlib.Core.Path.{◌≡◌, sym, ap, subst, ◌∙◌}
use Prim.Native.Nat.{ℕ, ◌+◌, ◌*◌, ◌≤◌, ◌<◌}
use native.Mathlib.Nat.{mul-le-mul}
use native.Mathlib.Omega.{arith}
use lib.ListN.{length}
use mir.Syntax.{w64}
use mir.Val.{SFits}
use mir.Facts.{to_z-of_z}
use Rattle.levels.specs.declared.black.BlackKind.{BlackKind}
use Rattle.levels.specs.Black.{width_of, black_at, parts_of}
use Rattle.rawtags.specs.Black.{kind_for}
use Rattle.levels.proofs.Runs.{within}
use Rattle.rawtags.proofs.BlackLaws.{width_for}
use Rattle.raw.proofs.StoredLaws.{black_in, black_none}
use Rattle.raw.proofs.TagFacts.{CellsIn, cells_in, cell_index, CellAt, cell_at, cell_for_law}
use borrow.Author.Rules.{rules}
use Rattle.raw.proofs.sample.cell_at.Goals as goal
use Rattle.raw.proofs.sample.cell_at.Goals.{Start}

-- the cell's index, and the cells of a tag that is there
index : (s : Start) → let a = s.args in CellAt a.source.tags a.row.0 a.column.0 a.plane
index s = let a = s.args in cell_at a.source.file.now a.source.order a.source.tags a.row.0 a.column.0 a.plane a.source.within s.requires

all : (s : Start) → (s.args.source.tags.levels.black.count ≡ 0 → ⊥) → CellsIn s.args.source.file.now s.args.source.tags
all s e = let a = s.args in cells_in a.source.file.now a.source.order a.source.tags a.source.within e

pub returns-then-cells-eq0 : goal.returns-then-cells-eq0
returns-then-cells-eq0 c =
    let s = (goal.at.returns-then-cells-eq0 c).Start in
    let a = s.args in
    let t = a.source.tags in
    let f = a.source.file.now in
    let b = t.levels.black in
    let h = a.source.within.levels.black in
    let e = black_none f a.source.order (kind_for b.kind) b (λ k. (h.typed k).1 ∙ width_for _ (h.typed k).0) c.if-cells-eq0.true _ in
    record {
      value = sym (cell_for_law f a.source.order t a.row.0 a.column.0 a.plane ∙ e);
      result_bound = omega arith;
    }

pub overflow_mul-i : goal.overflow_mul-i
overflow_mul-i c =
    omega (arith, (index (goal.at.overflow_mul-i c).Start).line)

pub overflow_add-i : goal.overflow_add-i
overflow_add-i c =
    omega (arith, (index (goal.at.overflow_add-i c).Start).line)

pub overflow_mul-i-2 : goal.overflow_mul-i-2
overflow_mul-i-2 c =
    omega (arith, (index (goal.at.overflow_mul-i-2 c).Start).small)

pub overflow_add-i-2 : goal.overflow_add-i-2
overflow_add-i-2 c =
    omega (arith, (index (goal.at.overflow_add-i-2 c).Start).small)

pub overflow_mul-size : goal.overflow_mul-size
overflow_mul-size c =
    let if1 = c.if-cells-eq0 in
    let s = (goal.at.overflow_mul-size c).Start in
    let q = all (goal.at.overflow_mul-size c).Start if1.false in
    omega (arith, mul-le-mul q.small (index (goal.at.overflow_mul-size c).Start).small)

pub overflow_add-place : goal.overflow_add-place
overflow_add-place c =
    let if1 = c.if-cells-eq0 in
    let s = (goal.at.overflow_add-place c).Start in
    let q = all (goal.at.overflow_add-place c).Start if1.false in
    omega (arith, mul-le-mul q.small (index (goal.at.overflow_add-place c).Start).small, q.inside)

pub parts_at-requires : goal.parts_at-requires
parts_at-requires c =
    let if1 = c.if-cells-eq0 in
    let s = (goal.at.parts_at-requires c).Start in
    let q = all (goal.at.parts_at-requires c).Start if1.false in
    let b = s.args.source.tags.levels.black in
    let n = cell_index s.args.source.tags s.args.row.0 s.args.column.0 s.args.plane in
    let w = within b.size _ n (index (goal.at.parts_at-requires c).Start).below in
    subst (λ (k : ℕ). b.place + b.size * n + k ≤ length s.args.source.file.now) (q.sized ∙ ap width_of (sym c.kind_for-kind.ensures))
    (omega (arith, w, q.inside))

pub returns : goal.returns
returns c =
    let if1 = c.if-cells-eq0 in
    let s = (goal.at.returns c).Start in
    let a = s.args in
    let f = a.source.file.now in
    let b = a.source.tags.levels.black in
    let n = cell_index a.source.tags a.row.0 a.column.0 a.plane in
    let q = all (goal.at.returns c).Start if1.false in
    let fits : SFits w64 c.parts_at.result = search rules in
    let k = ap (λ (k : BlackKind). parts_of (black_at k a.source.order f (b.place + b.size * n))) c.kind_for-kind.ensures in
    let e = black_in f a.source.order (kind_for b.kind) b (λ _. q.sized) n (subst (λ (m : ℕ). n < m) (sym q.count) (index (goal.at.returns c).Start).below) in
    let g = cell_for_law f a.source.order a.source.tags a.row.0 a.column.0 a.plane in
    rw (to_z-of_z fits) record { value = c.parts_at.ensures.value ∙ k ∙ sym e ∙ sym g; result_bound = c.parts_at.ensures.result_bound }
