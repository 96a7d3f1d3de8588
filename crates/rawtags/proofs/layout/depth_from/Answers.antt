use Prim.Native.Nat.{ℕ, ◌≤◌}
use mathlib.Core.Path.{◌≡◌}
use native.Mathlib.Omega.{arith}
use borrow.Author.Tests.{ne_eqb}
use Rattle.std.proofs.Common.{rules}
use Rattle.reading.proofs.Reading.{pick_no}
use Rattle.rawtags.specs.Layout.{bytes_per, depth_from}
use Rattle.rawtags.proofs.Chain.{on, off, end, exit}
use Rattle.rawtags.proofs.layout.depth_from.Goals as goal

some_bytes : (b n : ℕ) → n ≡ bytes_per b → 1 ≤ n → bytes_per b ≡ 0 → ⊥
some_bytes b n e h z = omega arith

pub returns-in_err-each : goal.returns-in_err-each
unfolding depth_from
returns-in_err-each c =
    let h = c.in-Some.ensures in (
      exit _ _ _ _ c.from_residual.ensures.1
          (rw (ne_eqb _ _ (some_bytes _ _ h.0 h.1), pick_no) (off _ _ _ (rw c.new-same.ensures at c.in_err-each.ensures))),
      search rules,
    )

pub returns : goal.returns
unfolding depth_from
returns c =
    let h = c.in-Some.ensures in
    (rw (ne_eqb _ _ (some_bytes _ _ h.0 h.1), pick_no, ← h.0) (on _ _ _ (rw c.new-same.ensures at c.in_ok-each.ensures) (end _ _)), search rules)
