use Prim.Native.Nat.{◌≤◌}
use native.Mathlib.Omega.{arith}
use Rattle.develop.proofs.Views.{list_inside}
use Rattle.develop.proofs.list_of.Goals as goal

pub size_of-requires : goal.size_of-requires
size_of-requires c = let a =
    c.requires.raw.tags.area in (omega (arith, a.rows), omega (arith, a.columns))

pub test_list-requires : goal.test_list-requires
test_list-requires c =
    let t = c.requires.raw.tags in
    let e = c.size_of.ensures in
    let r : c.size_of.result.rows ≤ 16384 = rw e (omega (arith, t.area.bottom, t.frame.rows)) in
    let k : c.size_of.result.columns ≤ 16384 = rw e (omega (arith, t.area.right, t.frame.columns)) in
    (list_inside _ _ t.list, r, k, t.list.enough)

pub returns : goal.returns
returns c =
    let e = c.size_of.ensures in
    rw e at c.test_list.ensures
