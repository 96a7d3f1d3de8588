use mathlib.Core.Path.{◌≡◌}
use Prim.Native.Nat.{◌≤◌}
use lib.ListN.{length}
use Rattle.rows.proofs.Walks.{Progress}
use Rattle.chain.specs.Facts.Links.{marked}
use Rattle.chain.proofs.LinkLaws.{mark_of}
use Rattle.chain.proofs.links.skip.Given as goal

abbrev pub invariant-loop-i : goal.invariant-loop-i
invariant-loop-i l =
    let q = l.fn.opcodes in
    Progress mark_of l.file q.size q.count q.at q.bytes l.i l.p (marked 0 0 l.initial.skipped) (marked l.i l.n l.skipped)
    × (l.n ≤ l.i) × (length l.skipped ≡ length l.initial.skipped)
