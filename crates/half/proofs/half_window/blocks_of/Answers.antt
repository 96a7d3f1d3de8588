use Prim.Native.Nat.{ℕ, ◌+◌, ◌*◌, ◌≤◌}
use native.Mathlib.Omega.{arith}
use lib.Ieee.{Float}
use lib.ListN.{length, length-set}
use Rattle.half.specs.Half.{block_in}
use Rattle.half.specs.Facts.Half.{pair_of}
use Rattle.develop.proofs.Windows.{rows_start, rows_end}
use Rattle.half.proofs.BlockLaws.{block_length, block_stored}
use borrow.Author.Rules.{scaled_Fits}
use Rattle.half.proofs.half_window.blocks_of.Goals as goal
use Rattle.half.proofs.half_window.blocks_of.Goals.{In-loop-j, Start}

-- the values of a block of the two rows
abbrev values : Start → ℕ → ℕ → ℕ → Float
values s = block_in s.args.half (pair_of s.args.pair.now (2 * s.args.count))

-- there is room for the next block's three values
room : (k : In-loop-j) → k.loop-j.a + 3 ≤ length k.args.out.now
room k = omega (arith, k.loop-j.invariant.begin, k.requires.2, k.loop-j-test.true)

pub loop-j-init : goal.loop-j-init
loop-j-init c =
    rows_start _ 3 0 (block_length (values (goal.at.loop-j-init c).Start) 0) _

pub offset_bounds-out-a : goal.offset_bounds-out-a
offset_bounds-out-a c = let k =
    (goal.at.offset_bounds-out-a c).In-loop-j in scaled_Fits _ (length k.args.out.now) 8 (omega (arith, room k)) k.well_formed.1.1.1.0.1

pub bounds-out-a : goal.bounds-out-a
bounds-out-a c = let k =
    (goal.at.bounds-out-a c).In-loop-j in omega (arith, room k, k.loop-j.invariant.same)

pub overflow_add-out : goal.overflow_add-out
overflow_add-out c = let k =
    (goal.at.overflow_add-out c).In-loop-j in omega (arith, room k, k.well_formed.1.1.1.0.1)

pub offset_bounds-out-a-in-loop-j : goal.offset_bounds-out-a-in-loop-j
offset_bounds-out-a-in-loop-j c =
    let k = (goal.at.offset_bounds-out-a-in-loop-j c).In-loop-j in
    scaled_Fits _ (length k.args.out.now) 8 (omega (arith, room k)) k.well_formed.1.1.1.0.1

pub bounds-out-a-in-loop-j : goal.bounds-out-a-in-loop-j
bounds-out-a-in-loop-j c = let k =
    (goal.at.bounds-out-a-in-loop-j c).In-loop-j in simp length-set (omega (arith, room k, k.loop-j.invariant.same))

pub overflow_add-out-in-loop-j : goal.overflow_add-out-in-loop-j
overflow_add-out-in-loop-j c = let k =
    (goal.at.overflow_add-out-in-loop-j c).In-loop-j in omega (arith, room k, k.well_formed.1.1.1.0.1)

pub offset_bounds-out-a-in-loop-j-2 : goal.offset_bounds-out-a-in-loop-j-2
offset_bounds-out-a-in-loop-j-2 c =
    let k = (goal.at.offset_bounds-out-a-in-loop-j-2 c).In-loop-j in
    scaled_Fits _ (length k.args.out.now) 8 (omega (arith, room k)) k.well_formed.1.1.1.0.1

pub bounds-out-a-in-loop-j-2 : goal.bounds-out-a-in-loop-j-2
bounds-out-a-in-loop-j-2 c = let k =
    (goal.at.bounds-out-a-in-loop-j-2 c).In-loop-j in simp length-set (omega (arith, room k, k.loop-j.invariant.same))

pub overflow_add-a : goal.overflow_add-a
overflow_add-a c = let k =
    (goal.at.overflow_add-a c).In-loop-j in omega (arith, room k, k.well_formed.1.1.1.0.1)

pub loop-j-preserved : goal.loop-j-preserved
loop-j-preserved c =
    let k = (goal.at.loop-j-preserved c).In-loop-j in
    let s = k.args in
    block_stored s.half (pair_of s.pair.now (2 * s.count)) _ _ _ _ _ k.loop-j.invariant (room k) c.block_at-v.ensures.value

pub returns : goal.returns
returns c =
    let s = (goal.at.returns c).Start in
    let l = c.loop-j in
    rows_end _ 3 0 (block_length (values s) 0) _ _ _ _ _ l.invariant (omega (arith, l.auto.j-end, c.loop-j-test.false)) s.requires.2
