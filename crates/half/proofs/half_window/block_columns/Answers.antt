use mathlib.Core.Path.{◌≡◌, refl, ap, ◌∙◌}
use mathlib.Core.List.{List}
use Prim.Native.Nat.{ℕ, ◌+◌, ◌-◌, ◌*◌, ◌/◌, ◌%◌, ◌≤◌, ◌<◌}
use native.Mathlib.Nat.{add-mul, mul-le-mul_right}
use native.Mathlib.Omega.{arith}
use lib.Ieee.{Float, nan}
use lib.ListN.{length, get_or, take, drop}
use Rattle.half.specs.Half.{block_in}
use Rattle.develop.specs.Calls.{alone_in}
use Rattle.develop.specs.Facts.Fill.{Upto}
use Rattle.develop.specs.Facts.View.{Viewed}
use Rattle.develop.specs.declared.View.{View}
use Rattle.half.specs.declared.half_window.Half.{Half}
use Rattle.develop.proofs.Windows.{Partly, partly_start, partly_next, partly_end, from_column, part_length}
use Rattle.half.proofs.BlockLaws.{value, block_row_at, block_row_length}
use Rattle.half.proofs.half_window.block_columns.Goals as goal
use Rattle.half.proofs.half_window.block_columns.Goals.{Start}

abbrev row : Start → ℕ
row s = s.args.blocks.width * 3

-- the row lies in the slice
rows : (s : Start) (i : ℕ) → i < s.args.blocks.height → i * row s + row s ≤ length s.args.out.now
rows s i h =
    let w : (i + 1) * row s ≤ s.args.blocks.height * row s = mul-le-mul_right (row s) (omega arith) in
    omega (arith, add-mul i 1 (row s), s.requires.blocks_in.0.length_is)

-- a part of it has so many numbers
piece : (s : Start) (a : ℕ) (xs : List Float) → let n = s.args.part.count * 3 in a + n ≤ length xs
    → length (take (a + n - a) (drop a xs)) ≡ n
piece s a xs h =
    let n = s.args.part.count * 3 in
    let d : a + n - a ≡ n = omega arith in
    ap (λ (z : ℕ). length (take z (drop a xs))) d ∙ part_length a n xs h

pub loop-i-init : goal.loop-i-init
loop-i-init c =
    let s = (goal.at.loop-i-init c).Start in
    let w = s.args.blocks in (
      refl,
      omega arith,
      λ q u.
          partly_start (value s.args.file.now s.args.view s.args.half q w.top w.left) w.height (row s)
          (s.args.part.from * 3)
          (s.args.part.count * 3) s.args.out.now u,
    )

pub overflow_add-e : goal.overflow_add-e
overflow_add-e c =
    let s = (goal.at.overflow_add-e c).Start in
    let l = c.loop-i in
    omega (arith, rows s l.i c.loop-i-test.true, s.requires.blocks_in.2.inside, l.invariant.1, l.auto.out, s.well_formed.1.1.1.1.1.1.1.0.1)

pub offset_bounds-out-a : goal.offset_bounds-out-a
offset_bounds-out-a c =
    let s = (goal.at.offset_bounds-out-a c).Start in
    let l = c.loop-i in
    omega (
      arith,
      rows s l.i c.loop-i-test.true,
      s.requires.blocks_in.2.inside,
      l.invariant.1,
      l.auto.out,
      s.well_formed.1.1.1.1.1.1.1.0.1,
    )

pub slice_bounds-block_part-end-in-loop-i : goal.slice_bounds-block_part-end-in-loop-i
slice_bounds-block_part-end-in-loop-i c =
    let s = (goal.at.slice_bounds-block_part-end-in-loop-i c).Start in
    let l = c.loop-i in
    omega (arith, rows s l.i c.loop-i-test.true, s.requires.blocks_in.2.inside, l.invariant.1, l.auto.out)

pub loop-i-preserved : goal.loop-i-preserved
loop-i-preserved c =
    let s = (goal.at.loop-i-preserved c).Start in
    let l = c.loop-i in
    let f = s.args.file.now in
    let v = s.args.view in
    let w = s.args.blocks in
    let n = s.args.part.count * 3 in
    let t = c.loop-i-test.true in
    let p = s.requires.blocks_in.2 in
    let g = c.block_part in
    let z = piece s l.a l.out (omega (arith, rows s l.i t, p.inside, l.invariant.1, l.auto.out)) in (
      g.ensures.pair_len_unchanged ∙ l.invariant.0,
      omega (arith, add-mul l.i 1 (row s), l.invariant.1),
      λ q u. let x = block_in s.args.half (alone_in f q.file) in partly_next (value f v s.args.half q w.top w.left)
          w.height (row s) (s.args.part.from * 3) n l.i l.a l.out g.new.out t
          (omega (arith, p.inside)) l.invariant.1 (l.auto.out ∙ s.requires.blocks_in.0.length_is)
          (ap length (g.ensures.out_after q) ∙ block_row_length x _ s.args.part.count _) (l.invariant.2 q u)
          (λ k b. ap (λ (ys : List Float). get_or ys k nan) (g.ensures.out_after q)
          ∙ block_row_at x (w.left + s.args.part.from) s.args.part.count (w.top + l.i) k b
          ∙ from_column (x (w.top + l.i)) w.left s.args.part.from 3 k (omega arith)),
    )

pub returns : goal.returns
returns c q u =
    let l = c.loop-i in
    partly_end _ _ _ _ _ l.i l.out c.loop-i-test.false (l.invariant.2 q u)
