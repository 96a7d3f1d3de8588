-- What the functions tell one another.
use Rattle.std.specs.Prelude.{ℕ, ◌≤◌, List, ℤ, pos, nat_abs, get_or}

-- 65,535 x 256: the greatest magnitude of a black that is carried, in 256ths
abbrev pub most_black : ℕ
most_black = 16776960

-- 256ths, each of a black that is carried
abbrev pub Small : List ℤ → Type 0
Small xs = (k : ℕ) → nat_abs (get_or xs k (pos 0)) ≤ most_black
