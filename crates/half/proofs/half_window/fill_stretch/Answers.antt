use mathlib.Core.Path.{◌≡◌, sym, ap, ◌∙◌, subst}
use Prim.Native.Nat.{ℕ, ◌+◌, ◌*◌, ◌≤◌}
use native.Mathlib.Nat.{mul-one}
use native.Mathlib.Omega.{arith}
use Rattle.develop.specs.Calls.{alone_in}
use Rattle.develop.specs.Facts.Fill.{number_of, Upto}
use Rattle.develop.proofs.Windows.{viewed_sized, viewed_wide}
use Rattle.half.specs.Half.{block_in}
use Rattle.half.specs.Facts.Half.{BlocksIn}
use Rattle.half.proofs.half_window.fill_stretch.Goals as goal
use Rattle.half.proofs.half_window.fill_stretch.Goals.{Start}

-- the blocks' columns lie in the active area, of which no side is over 16,384
columns : (s : Start) → (2 * (s.args.blocks.left + s.args.part.from) + 2 * s.args.part.count ≤ s.args.view.size.columns)
    × (s.args.view.size.columns ≤ 16384)
columns s =
    let z = viewed_sized s.args.file.now s.args.view s.requires.0.file in
    (omega (arith, s.requires.0.columns, s.requires.2.inside), z.columns)

pub overflow_add-column : goal.overflow_add-column
overflow_add-column c = let s =
    (goal.at.overflow_add-column c).Start in omega (arith, (columns s).0, (columns s).1)

pub overflow_mul-column : goal.overflow_mul-column
overflow_mul-column c = let s =
    (goal.at.overflow_mul-column c).Start in omega (arith, (columns s).0, (columns s).1)

pub overflow_mul-part : goal.overflow_mul-part
overflow_mul-part c = let s =
    (goal.at.overflow_mul-part c).Start in omega (arith, s.requires.2.few)

pub with_along-requires : goal.with_along-requires
with_along-requires c =
    let s = (goal.at.with_along-requires c).Start in
    let z = columns s in
    let f = s.args.file.now in
    let v = s.args.view in
    let q = s.requires.0 in
    let n = 2 * s.args.part.count in
    let e : n ≡ n * v.size.samples = sym (ap (λ (m : ℕ). n * m) q.mosaic ∙ mul-one n) in record {
      viewed = (
        q.file,
        omega (arith, s.requires.2.some),
        omega (arith, z.0, z.1),
        viewed_wide f v q.file (2 * (s.args.blocks.left + s.args.part.from)) n z.0 n e,
      );
      room = (omega arith, λ h. omega (arith, s.requires.2.few));
      takes = λ a d o p b. (subst (BlocksIn f v s.args.blocks) (sym b) q, s.requires.1, s.requires.2, p);
    }

pub returns : goal.returns
returns c q u =
    let a = c.args in
    let g = c.with_along.ensures in
    let b = a.blocks in
    let x = number_of (block_in a.half (alone_in a.file.now q.file)) b 3 in
    subst (Upto x b.height (b.width * 3) (a.part.from * 3 + a.part.count * 3)) g.ends
    (g.call q (subst (Upto x b.height (b.width * 3) (a.part.from * 3)) (sym g.begins) u))
