-- M without a pass over the samples: rows a repeat apart meet the same cells, so of their deltas only the greatest counts, and
-- likewise for columns. What the code works out so is `greatest_black` (proofs, Residues: `greatest_by_residues_law`); a reader of the
-- claim may pass over it.
use Rattle.std.specs.Prelude.{◌≡◌, List, ℕ, ◌+◌, ◌-◌, ◌*◌, ◌/◌, ◌%◌, ◌<◌, min, ℤ, pos, ◌+ℤ◌, get_or}
use Rattle.levels.specs.Facts.Black.{Small}
use Rattle.levels.specs.Levels.{Levels, max_below, cell_for}

-- how many of the places 0 .. n - 1 are i, i + step ..: i is one of them
abbrev pub times_of : ℕ → ℕ → ℕ → ℕ
times_of n step i = (n - 1 - i) / step + 1

-- the greatest of the deltas at these places
abbrev pub greatest_delta : List ℤ → ℕ → ℕ → ℕ → ℤ
greatest_delta deltas n step i = max_below (times_of n step i) (λ k. get_or deltas (i + step * k) (pos 0))

-- the greatest deltas by residue, of the residues that occur among n places
pub record ByResidue (deltas : List ℤ) (n step : ℕ) (found : List ℤ) : Type 0 where
  pub each : (i : ℕ) → i < min step n → get_or found i (pos 0) ≡ greatest_delta deltas n step i
  pub small : Small found

-- the greatest B of the samples whose row has residue i and whose column has residue j, from the greatest deltas by residue
abbrev pub residue_black : Levels → List ℤ → List ℤ → ℕ → ℕ → ℕ → ℤ
residue_black l columns rows p i j = cell_for l i j p +ℤ get_or columns j (pos 0) +ℤ get_or rows i (pos 0)

-- the greatest of these over so many residues down and across, the pairs row by row
abbrev pub greatest_by_residues : Levels → List ℤ → List ℤ → ℕ → ℕ → ℕ → ℤ
greatest_by_residues l columns rows p down across = max_below (down * across) (λ k. residue_black l columns rows p (k / across) (k % across))
