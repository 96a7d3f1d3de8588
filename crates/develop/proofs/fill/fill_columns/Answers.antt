use mathlib.Core.Path.{◌≡◌, sym, ap, ◌∙◌, subst}
use Prim.Native.Nat.{ℕ, ◌+◌, ◌-◌, ◌*◌, ◌≤◌, ◌<◌}
use native.Mathlib.Nat.{add-mul, mul-le-mul_right}
use native.Mathlib.Omega.{arith}
use borrow.Author.Rules.{rules}
use lib.Ieee.{Float}
use lib.ListN.{length, take, drop}
use mathlib.Core.List.{List}
use Rattle.reading.specs.Reading.{run}
use Rattle.raw.specs.Stored.{levels_reading}
use Rattle.samples.specs.Facts.Along.{AlongIn, DeltasIn}
use Rattle.develop.specs.Calls.{alone_in}
use Rattle.develop.proofs.Windows.{partly_start, partly_next, partly_end, from_column, part_length, viewed_sized}
use Rattle.develop.proofs.Windows.{value_of}
use Rattle.develop.proofs.fill.fill_columns.Goals as goal
use Rattle.develop.proofs.fill.fill_columns.Goals.{Start}

abbrev samples : Start → ℕ
samples s = s.args.view.size.samples

abbrev row : Start → ℕ
row s = s.args.window.width * samples s

-- the part lies in the row
part : (s : Start) → s.args.from * samples s + s.args.count * samples s ≤ row s
part s =
    let h = mul-le-mul_right (samples s) s.requires.fill_in.2 in
    omega (arith, add-mul s.args.from s.args.count (samples s))

-- the row lies in the slice
rows : (s : Start) (i : ℕ) → i < s.args.window.height → i * row s + row s ≤ length s.args.out.now
rows s i h =
    let w : (i + 1) * row s ≤ s.args.window.height * row s = mul-le-mul_right (row s) (omega arith) in
    omega (arith, add-mul i 1 (row s), s.requires.fill_in.0.length_is)

-- a part of it has so many numbers
piece : (s : Start) (a : ℕ) (xs : List Float) → let n = s.args.count * samples s in a + n ≤ length xs
    → length (take (a + n - a) (drop a xs)) ≡ n
piece s a xs h =
    let n = s.args.count * samples s in
    let d : a + n - a ≡ n = omega arith in
    ap (λ (z : ℕ). length (take z (drop a xs))) d ∙ part_length a n xs h

pub invariant_of-source : goal.invariant_of-source
invariant_of-source c =
    let s = (goal.at.invariant_of-source c).Start in
    record { within = s.requires.fill_in.0.file.picture_in.raw }

pub loop-i-init : goal.loop-i-init
loop-i-init c =
    let s = (goal.at.loop-i-init c).Start in
    let w = s.args.window in (
      omega arith,
      λ q u. partly_start (value_of s.args.file.now s.args.view q w.top w.left) w.height (row s) (s.args.from * samples s)
          (s.args.count * samples s) s.args.out.now u,
    )

pub overflow_add-e : goal.overflow_add-e
overflow_add-e c =
    let s = (goal.at.overflow_add-e c).Start in
    let l = c.loop-i in
    omega (arith, rows s l.i c.loop-i-test.true, part s, l.invariant.0, l.auto.out, s.well_formed.1.1.1.1.1.1.1.0.1)

pub offset_bounds-out-a : goal.offset_bounds-out-a
offset_bounds-out-a c =
    let s = (goal.at.offset_bounds-out-a c).Start in
    let l = c.loop-i in
    omega (arith, rows s l.i c.loop-i-test.true, part s, l.invariant.0, l.auto.out, s.well_formed.1.1.1.1.1.1.1.0.1)

pub slice_bounds-developed_part-end : goal.slice_bounds-developed_part-end
slice_bounds-developed_part-end c =
    let s = (goal.at.slice_bounds-developed_part-end c).Start in
    let l = c.loop-i in
    omega (arith, rows s l.i c.loop-i-test.true, part s, l.invariant.0, l.auto.out, s.well_formed.1.1.1.1.1.1.1.0.1)

pub developed_part-requires-clause-along_in : goal.developed_part-requires-clause-along_in
developed_part-requires-clause-along_in c =
    let s = (goal.at.developed_part-requires-clause-along_in c).Start in
    let l = c.loop-i in
    let v = s.args.view in
    let levels = run s.args.file.now (levels_reading v.picture.order v.picture.raw.tags) in
    let k = piece s l.a l.out (omega (arith, rows s l.i c.loop-i-test.true, part s, l.invariant.0, l.auto.out)) in (
      subst (λ (z : ℕ). AlongIn levels v.picture.raw.tags.frame.samples (s.args.window.left + s.args.from) z s.args.along.now) (sym k)
          s.requires.along_in.0,
      subst (λ (z : ℕ). DeltasIn levels v.picture.raw.tags.frame.samples (s.args.window.left + s.args.from) z s.args.deltas.now) (sym k)
          s.requires.along_in.1,
    )

pub loop-i-preserved : goal.loop-i-preserved
loop-i-preserved c =
    let s = (goal.at.loop-i-preserved c).Start in
    let l = c.loop-i in
    let v = s.args.view in
    let w = s.args.window in
    let n = s.args.count * samples s in
    let t = c.loop-i-test.true in
    let z = piece s l.a l.out (omega (arith, rows s l.i t, part s, l.invariant.0, l.auto.out)) in (
      omega (arith, add-mul l.i 1 (row s), l.invariant.0),
      λ q u. partly_next (value_of s.args.file.now v q w.top w.left) w.height (row s) (s.args.from * samples s) n l.i l.a l.out
          c.developed_part.new.out t (part s) l.invariant.0 (l.auto.out ∙ s.requires.fill_in.0.length_is) (search rules) (l.invariant.1 q u)
          (λ k b. c.developed_part.ensures q k (omega (arith, z))
          ∙ from_column (alone_in s.args.file.now q.file (w.top + l.i)) w.left s.args.from (samples s) k (viewed_sized s.args.file.now v q).some),
    )

pub returns : goal.returns
returns c q u =
    let l = c.loop-i in
    partly_end _ _ _ _ _ l.i l.out c.loop-i-test.false (l.invariant.1 q.file u)
