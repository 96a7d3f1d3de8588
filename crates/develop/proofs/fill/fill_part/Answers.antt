use mathlib.Core.Path.{◌≡◌, refl, sym, ap, subst}
use Prim.Native.Nat.{ℕ, ◌+◌, ◌*◌, ◌≤◌}
use native.Mathlib.Nat.{mul-le-mul, mul-pos}
use native.Mathlib.Omega.{arith}
use lib.ListN.{length}
use Rattle.develop.specs.Calls.{alone_in}
use Rattle.develop.specs.Facts.Fill.{FillIn, number_of, Upto}
use Rattle.develop.proofs.Windows.{viewed_sized, viewed_wide, fill_same}
use Rattle.develop.proofs.fill.fill_part.Goals as goal
use Rattle.develop.proofs.fill.fill_part.Goals.{Start}

-- the part's first column, and its numbers
column : (s : Start) → s.args.window.left + s.args.from ≤ 16384
column s =
    let z = viewed_sized s.args.file.now s.args.view s.requires.fill_in.0.file in
    omega (arith, s.requires.fill_in.0.columns, z.columns, s.requires.fill_in.2)

numbers : (s : Start) → (1 ≤ s.args.count * s.args.view.size.samples) × (s.args.count * s.args.view.size.samples ≤ 49152)
numbers s =
    let z = viewed_sized s.args.file.now s.args.view s.requires.fill_in.0.file in
    let w : s.args.count ≤ 16384 = omega (arith, s.requires.fill_in.0.columns, z.columns, s.requires.fill_in.2) in
    (mul-pos s.requires.fill_in.1 z.some, omega (arith, mul-le-mul w z.few))

pub overflow_add-column : goal.overflow_add-column
overflow_add-column c =
    omega (arith, column (goal.at.overflow_add-column c).Start)

pub overflow_mul-count : goal.overflow_mul-count
overflow_mul-count c =
    omega (arith, (numbers (goal.at.overflow_mul-count c).Start).1)

pub with_along-requires : goal.with_along-requires
with_along-requires c =
    let s = (goal.at.with_along-requires c).Start in
    let f = s.args.file.now in
    let v = s.args.view in
    let q = s.requires.fill_in.0 in
    let n = s.args.count * v.size.samples in record {
      viewed = (
        q.file,
        (numbers s).0,
        column s,
        viewed_wide f v q.file _ s.args.count (omega (arith, q.columns, s.requires.fill_in.2)) n refl,
      );
      room = (omega arith, s.requires.samples_bound);
      takes = λ a d o p e. (subst (FillIn f v s.args.window) (sym e) q, p, s.requires.fill_in.1, s.requires.fill_in.2);
    }

pub returns : goal.returns
returns c q u =
    let f = c.args.file.now in
    let v = c.args.view in
    let w = c.args.window in
    let n = v.size.samples in
    let g = c.with_along.ensures in
    let x = number_of (alone_in f q.file.file) w n in
    let z = fill_same f v w c.args.out.now g.lent.now (ap length g.begins) q in
    subst (Upto x w.height (w.width * n) (c.args.from * n + c.args.count * n)) g.ends
    (g.call z (subst (Upto x w.height (w.width * n) (c.args.from * n)) (sym g.begins) u))
