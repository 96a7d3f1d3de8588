use mathlib.Core.Path.{◌≡◌, subst}
use Prim.Native.Nat.{ℕ, ◌+◌, ◌-◌, ◌*◌, ◌/◌, ◌%◌, ◌≤◌, ◌<◌}
use native.Mathlib.Nat.{mod-lt}
use native.Mathlib.Omega.{arith}
use borrow.Author.Rules.{rules}
use lib.ListN.{length, take, drop, length-take, length-drop}
use Rattle.reading.specs.Reading.{run}
use Rattle.levels.specs.Levels.{Levels}
use Rattle.raw.specs.Stored.{levels_reading}
use Rattle.raw.proofs.StoredLaws.{repeat_rows_are}
use Rattle.samples.proofs.Alongs.{cells_end, inverses_end}
use Rattle.samples.proofs.Planes.{row_inside, row_scaled}
use Rattle.samples.proofs.scaled.scaled_row.Goals as goal
use Rattle.samples.proofs.scaled.scaled_row.Goals.{Start}

abbrev levels : Start → Levels
levels s = run s.args.source.file.now (levels_reading s.args.source.order s.args.source.raw.tags)

abbrev rows : Start → ℕ
rows s = s.args.source.raw.tags.levels.repeat.rows

abbrev piece : Start → ℕ
piece s = length s.args.along.now / (rows s + 1)

-- where the parts of `along` end
ends : (s : Start) → let q = piece s in
    (s.args.row.0 % rows s * q + q + q ≤ length s.args.along.now) × (rows s * q + q ≡ length s.args.along.now) × (1 ≤ q)
    × (q ≤ 512)
ends s =
    let t = s.args.source.raw.tags in
    let along = s.args.along.now in
    let w = s.requires.along_in.0 in
    let n = s.args.source.within.tags.frame.some_samples in
    let e : (levels s).repeat_rows ≡ rows s = repeat_rows_are s.args.source.file.now s.args.source.order t in
    let h : s.args.row.0 % (levels s).repeat_rows < (levels s).repeat_rows = mod-lt _
    (rw e s.args.source.within.tags.levels.repeat.some_rows) in
    subst (λ (m : ℕ). let q = length along / (m + 1) in
    (s.args.row.0 % m * q + q + q ≤ length along) × (m * q + q ≡ length along) × (1 ≤ q) × (q ≤ 512)) e (
      cells_end (levels s) _ _ _ n along w (s.args.row.0 % (levels s).repeat_rows) h,
      inverses_end (levels s) _ _ _ n along w,
      w.some,
      w.few,
    )

pub overflow_mul-first : goal.overflow_mul-first
overflow_mul-first c =
    let s = (goal.at.overflow_mul-first c).Start in
    omega (arith, (ends s).0, (ends s).1, s.well_formed.1.1.1.0.1)

pub overflow_mul-last : goal.overflow_mul-last
overflow_mul-last c =
    let s = (goal.at.overflow_mul-last c).Start in
    omega (arith, (ends s).0, (ends s).1, s.well_formed.1.1.1.0.1)

pub overflow_add-first : goal.overflow_add-first
overflow_add-first c =
    let s = (goal.at.overflow_add-first c).Start in
    omega (arith, (ends s).0, (ends s).1, s.well_formed.1.1.1.0.1)

pub offset_bounds-along-first : goal.offset_bounds-along-first
offset_bounds-along-first c =
    let s = (goal.at.offset_bounds-along-first c).Start in
    omega (arith, (ends s).0, (ends s).1, s.well_formed.1.1.1.0.1)

pub slice_bounds-scaled_with_deltas-end : goal.slice_bounds-scaled_with_deltas-end
slice_bounds-scaled_with_deltas-end c =
    let s = (goal.at.slice_bounds-scaled_with_deltas-end c).Start in
    omega (arith, (ends s).0, (ends s).1, s.well_formed.1.1.1.0.1)

pub overflow_add-last : goal.overflow_add-last
overflow_add-last c =
    let s = (goal.at.overflow_add-last c).Start in
    omega (arith, (ends s).0, (ends s).1, s.well_formed.1.1.1.0.1)

pub offset_bounds-along-last : goal.offset_bounds-along-last
offset_bounds-along-last c =
    let s = (goal.at.offset_bounds-along-last c).Start in
    omega (arith, (ends s).0, (ends s).1, s.well_formed.1.1.1.0.1)

pub slice_bounds-scaled_with_deltas-end-2 : goal.slice_bounds-scaled_with_deltas-end-2
slice_bounds-scaled_with_deltas-end-2 c =
    let s = (goal.at.slice_bounds-scaled_with_deltas-end-2 c).Start in
    omega (arith, (ends s).0, (ends s).1, s.well_formed.1.1.1.0.1)

pub scaled_with_deltas-requires : goal.scaled_with_deltas-requires
scaled_with_deltas-requires c =
    let Line-of = c.line_of-line in
    let s = (goal.at.scaled_with_deltas-requires c).Start in
    let along = s.args.along.now in
    let q = piece s in
    let a = s.args.row.0 % rows s * q in
    let z = rows s * q in
    let m : length (take (a + q - a) (drop a along)) ≡ q = omega
    (arith, length-take (a + q - a) (drop a along), length-drop a along, (ends s).0) in
    let k : length (take (z + q - z) (drop z along)) ≡ q = omega
    (arith, length-take (z + q - z) (drop z along), length-drop z along, (ends s).1) in record {
      line_in = (
        row_inside s.args.source.raw.tags s.args.source.within.tags.frame.some_samples s.args.source.file.now s.args.source.order
            s.args.source.within.tags s.args.row.0 s.args.column.0 s.requires.active_in.0 _ Line-of.ensures _ s.requires.active_in.2,
        omega (arith, (ends s).2),
        omega (arith, (ends s).3),
        omega arith,
      );
      small = (s.requires.along_in.1.small, s.requires.along_in.1.long);
    }

pub returns : goal.returns
returns c =
    let Line-of = c.line_of-line in
    row_scaled c.args.source.raw c.args.source.file.now c.args.source.order c.args.source.within c.args.row.0 c.args.column.0 c.requires.active_in.0 _
    Line-of.ensures
    c.args.along.now c.args.deltas.now c.args.out.now _ c.requires.active_in.2 c.requires.along_in.0 c.requires.along_in.1 (search rules)
    c.scaled_with_deltas.ensures
