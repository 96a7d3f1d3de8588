use mathlib.Core.Path.{◌≡◌, sym, ap, ◌∙◌}
use Prim.Native.Nat.{ℕ, ◌+◌, ◌-◌, ◌*◌, ◌≤◌, ◌<◌}
use native.Mathlib.Nat.{zero-mul, add-mul, mul-le-mul_right}
use native.Mathlib.Omega.{arith}
use borrow.Author.Rules.{rules}
use lib.ListN.{length, take, drop}
use mathlib.Core.List.{List}
use lib.Ieee.{Float}
use Rattle.develop.specs.Calls.{alone_in}
use Rattle.develop.specs.Facts.Fill.{number_of}
use Rattle.develop.specs.Facts.Tabled.{rows_met}
use Rattle.develop.proofs.Bands.{banded_start, banded_next, banded_end}
use Rattle.develop.proofs.Windows.{part_length}
use Rattle.develop.proofs.tabled.band_rows.Goals as goal
use Rattle.develop.proofs.tabled.band_rows.Goals.{Start}

-- a row lies in the slice
row_inside : (s : Start) (i : ℕ) → i < s.args.window.height →
    i * s.args.window.width + s.args.window.width ≤ length s.args.out.now
row_inside s i h =
    let w = s.args.window in
    let m : (i + 1) * w.width ≤ w.height * w.width = mul-le-mul_right w.width (omega arith) in
    omega (arith, add-mul i 1 w.width, s.requires.2)

-- and has the window's width
row_length : (s : Start) (a : ℕ) (xs : List Float) → let n = s.args.window.width in
    a + n ≤ length xs → length (take (a + n - a) (drop a xs)) ≡ n
row_length s a xs h =
    let n = s.args.window.width in
    let d : a + n - a ≡ n = omega arith in
    ap (λ (z : ℕ). length (take z (drop a xs))) d ∙ part_length a n xs h

pub loop-i-init : goal.loop-i-init
loop-i-init c =
    let a = c.args in
    let w = a.window in (
      sym (zero-mul w.width),
      λ q. banded_start (number_of (alone_in a.file.now q.file) w a.view.size.samples) (rows_met a.view w) w.height w.width
          a.from a.count a.out.now,
    )

pub overflow_add-e : goal.overflow_add-e
overflow_add-e c =
    let s = (goal.at.overflow_add-e c).Start in
    let l = c.loop-i in
    omega (arith, row_inside (goal.at.overflow_add-e c).Start l.i c.loop-i-test.true, l.invariant.0, s.well_formed.1.1.1.1.1.1.0.0)

pub offset_bounds-out-a : goal.offset_bounds-out-a
offset_bounds-out-a c =
    let s = (goal.at.offset_bounds-out-a c).Start in
    let l = c.loop-i in
    omega (arith, row_inside (goal.at.offset_bounds-out-a c).Start l.i c.loop-i-test.true, l.invariant.0, s.well_formed.1.1.1.1.1.1.0.1)

pub slice_bounds-band_row-end : goal.slice_bounds-band_row-end
slice_bounds-band_row-end c =
    let s = (goal.at.slice_bounds-band_row-end c).Start in
    let l = c.loop-i in
    omega (arith, row_inside (goal.at.slice_bounds-band_row-end c).Start l.i c.loop-i-test.true, l.invariant.0, l.auto.out)

pub loop-i-preserved : goal.loop-i-preserved
loop-i-preserved c =
    let s = (goal.at.loop-i-preserved c).Start in
    let l = c.loop-i in
    let t = c.loop-i-test.true in
    let row = c.band_row in
    let a = s.args in
    let w = a.window in
    let n = row_length s l.a l.out (omega (arith, row_inside s l.i t, l.invariant.0, l.auto.out)) in (
      omega (arith, add-mul l.i 1 w.width, l.invariant.0),
      λ q u. banded_next (number_of (alone_in a.file.now q.file) w a.view.size.samples) (rows_met a.view w) w.height
          w.width a.from a.count l.i l.a l.out row.new.out t l.invariant.0 (l.auto.out ∙ s.requires.2)
          (search rules) (l.invariant.1 q u) (λ g h k b. row.ensures.filled q g h k (omega (arith, n))) row.ensures.out_unchanged,
    )

pub returns : goal.returns
returns c q u =
    let l = c.loop-i in
    let a = c.args in
    let w = a.window in
    banded_end (number_of (alone_in a.file.now q.file) w a.view.size.samples) (rows_met a.view w) w.height w.width
    a.from a.count l.i l.out c.loop-i-test.false (l.invariant.1 q u)
