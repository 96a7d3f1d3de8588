use mathlib.Core.Path.{ap, ◌∙◌}
use mathlib.Core.List.{[]}
use Prim.Native.Nat.{ℕ, ◌+◌, min}
use native.Mathlib.Nat.{add-mod_right}
use native.Mathlib.Omega.{arith}
use lib.ListN.{length, get_or}
use Rattle.samples.specs.Facts.Line.{Filled}
use Rattle.std.specs.Float.{nan}
use Rattle.tables.specs.Facts.RowTables.{found, found_along}
use Rattle.tables.proofs.FoundLaws.{column_of}
use Rattle.tables.proofs.row.look_up_groups.Goals.{After-look_up_next}
use Rattle.tables.proofs.row.look_up_groups.Goals as goal

-- a group more
group_more : (c : After-look_up_next) → let a = c.args in let x = found_along a.tables.now a.first a.columns a.bytes.now in
    Filled nan x a.from a.out.now → Filled nan x (min (c.loop-at.at + a.columns) (length c.loop-at.out)) c.look_up_next.new.out
group_more c w =
    let a = c.args in
    let l = c.loop-at in
    c.look_up_next.ensures (found_along a.tables.now a.first a.columns a.bytes.now)
    (λ m n. ap (λ (z : ℕ). found (get_or a.tables.now (a.first + z) []) a.bytes.now (l.at + m)) (column_of a.columns l.at l.invariant.0 m n))
    (l.invariant.1 w)

pub loop-at-preserved : goal.loop-at-preserved
loop-at-preserved c =
    let l = c.loop-at in (
      add-mod_right l.at c.args.columns ∙ l.invariant.0,
      λ w k h. group_more (goal.at.loop-at-preserved c).After-look_up_next w k (omega (arith, h)),
    )

pub returns-2 : goal.returns-2
returns-2 c w k h =
    group_more (goal.at.returns-2 c).After-look_up_next w k (omega (arith, h))
