use Rattle.std.proofs.Common.{◌≡◌, ℕ, ◌*◌, ◌/◌, ◌%◌, length, ap, ◌∙◌, arith, rules}
use native.Mathlib.Nat.{mod-lt, zero-mod}
use Rattle.tables.specs.Facts.RowTables.{found_along}
use Rattle.tables.proofs.FoundLaws.{four_found, fours_whole}
use Rattle.tables.proofs.row.look_up_row.Goals as goal

pub overflow_add-first : goal.overflow_add-first
overflow_add-first c =
    omega (arith, mod-lt 1 c.requires.1, c.requires.3, c.well_formed)

pub offset_bounds-tables-first-then-columns-eq0 : goal.offset_bounds-tables-first-then-columns-eq0
offset_bounds-tables-first-then-columns-eq0 c =
    omega (arith, mod-lt 1 c.requires.1, c.requires.3)

pub bounds-tables-first-then-columns-eq0 : goal.bounds-tables-first-then-columns-eq0
bounds-tables-first-then-columns-eq0 c =
    omega (arith, mod-lt 1 c.requires.1, c.requires.3)

pub overflow_add-first-then-columns-eq0 : goal.overflow_add-first-then-columns-eq0
overflow_add-first-then-columns-eq0 c =
    omega (arith, mod-lt 2 c.requires.1, c.requires.3)

pub offset_bounds-tables-first-then-columns-eq0-2 : goal.offset_bounds-tables-first-then-columns-eq0-2
offset_bounds-tables-first-then-columns-eq0-2 c =
    omega (arith, mod-lt 2 c.requires.1, c.requires.3)

pub bounds-tables-first-then-columns-eq0-2 : goal.bounds-tables-first-then-columns-eq0-2
bounds-tables-first-then-columns-eq0-2 c =
    omega (arith, mod-lt 2 c.requires.1, c.requires.3)

pub overflow_add-first-then-columns-eq0-2 : goal.overflow_add-first-then-columns-eq0-2
overflow_add-first-then-columns-eq0-2 c =
    omega (arith, mod-lt 3 c.requires.1, c.requires.3)

pub offset_bounds-tables-first-then-columns-eq0-3 : goal.offset_bounds-tables-first-then-columns-eq0-3
offset_bounds-tables-first-then-columns-eq0-3 c =
    omega (arith, mod-lt 3 c.requires.1, c.requires.3)

pub bounds-tables-first-then-columns-eq0-3 : goal.bounds-tables-first-then-columns-eq0-3
bounds-tables-first-then-columns-eq0-3 c =
    omega (arith, mod-lt 3 c.requires.1, c.requires.3)

pub look_up_groups-requires : goal.look_up_groups-requires
look_up_groups-requires c =
    let n = c.look_up_fours-done.ensures in
    let m = c.look_up_fours-done.result in
    let e : m ≡ m / 4 * 4 = omega (arith, n.1) in (
      omega (arith, c.requires.0),
      c.requires.1,
      c.requires.3,
      omega (arith, n.0),
      ap (λ (z : ℕ). z % c.args.columns) e ∙ fours_whole c.args.columns c.if-columns-eq0.true (m / 4),
    )

pub look_up_groups-requires-else-out-ge8 : goal.look_up_groups-requires-else-out-ge8
look_up_groups-requires-else-out-ge8 c =
    (c.requires.0, c.requires.1, c.requires.3, omega arith, zero-mod c.args.columns)

pub returns-then-columns-eq0 : goal.returns-then-columns-eq0
returns-then-columns-eq0 c k h =
    let a = c.args in
    let done = c.look_up_fours-done in
    let x = found_along a.tables.now a.first a.columns a.bytes.now in
    let e : length done.new.out ≡ length a.out.now = search rules in
    let f = done.ensures.2 x (four_found a.columns c.if-columns-eq0.true a.tables.now a.first a.bytes.now) in
    c.look_up_groups.ensures f k (omega (arith, e, h))

pub returns-else-out-ge8 : goal.returns-else-out-ge8
returns-else-out-ge8 c =
    c.look_up_groups-else-out-ge8.ensures (λ k h. absurd (omega arith))
