-- A table of up to 65,536 entries has the same entry at k and at the smaller of k and 65535.
-- Assumes nothing.
use Rattle.std.proofs.Common.{◌≡◌, ℕ, ◌+◌, ◌-◌, ◌*◌, ◌≤◌, min, sym, ap, ◌∙◌, arith}
use Rattle.levels.specs.Run.{run_of}
use Rattle.levels.specs.Table.{through_of}
use Rattle.levels.proofs.Runs.{through_some}

pub through_capped : (f : ℕ → ℕ) (w at n k : ℕ) → 1 ≤ n → n ≤ 65536 →
    through_of (run_of f w at n) (min k 65535) ≡ through_of (run_of f w at n) k
through_capped f w at n k h m =
    let e : min (min k 65535) (n - 1) ≡ min k (n - 1) = omega arith in
    through_some f w at n (min k 65535) h ∙ ap (λ (i : ℕ). f (at + w * i)) e ∙ sym (through_some f w at n k h)
