-- "How far off can a level be?"
use Rattle.std.specs.Prelude.{◌≡◌, true, List, ℕ, ◌*◌, ◌≤◌, ◌<◌, ℤ, pos, nat_abs, ◌-ℤ◌, ◌*ℤ◌, length, get_or}
use Rattle.std.specs.Int.Signed.{le_z}
use Rattle.levels.specs.Levels.{Levels, level_at}

-- "where 0 <= D <= S, .. twice the distance between L x S and 65535 x D is at most S" (which is not negative there)
abbrev pub WithinHalfAStep : ℤ → ℤ → ℕ → Type 0
WithinHalfAStep d s l = le_z (pos 0) d ≡ true → le_z d s ≡ true → 2 * nat_abs (pos l *ℤ s -ℤ pos 65535 *ℤ d) ≤ nat_abs s

-- a table that "never falls": no entry is smaller than one before it. An absent table, the identity, has no entries
abbrev pub Ascending : List ℕ → Type 0
Ascending t = (i j : ℕ) → i ≤ j → j < length t → get_or t i 0 ≤ get_or t j 0

-- "at one place in one file, if the LinearizationTable never falls, a larger stored sample never gives a smaller L"
abbrev pub InStoredOrder : Levels → ℕ → ℕ → ℕ → Type 0
InStoredOrder l r c p = Ascending l.table → (a b : ℕ) → a ≤ b → level_at l r c p a ≤ level_at l r c p b
