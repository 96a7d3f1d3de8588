-- What the functions tell one another.
use Rattle.std.specs.Prelude.{ℕ, ◌⊎◌, ◌≡◌}

-- the widths of a number that is read by its width: SHORT, LONG, 8 bytes
abbrev pub Wide : ℕ → Type 0
Wide s = (s ≡ 2) ⊎ ((s ≡ 4) ⊎ (s ≡ 8))
