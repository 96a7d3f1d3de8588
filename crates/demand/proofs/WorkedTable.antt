-- A file whose linearization table never falls: the larger of two stored samples has the larger L. With the table's entries exchanged L
-- falls, so the premise is needed.
use mathlib.Core.Path.{◌≡◌, refl, ap, ◌∙◌}
use mathlib.Core.List.{[]}
use Prim.Native.Nat.{ℕ, zero, suc, ◌≤◌}
use native.Mathlib.Nat.{le_refl}
use native.Mathlib.Omega.{arith}
use Rattle.reading.specs.Number.{number_of, little_of}
use Rattle.directory.specs.Out.{Out, Out.is}
use Rattle.levels.specs.Run.{run_of}
use Rattle.levels.specs.Table.{through_of}
use Rattle.levels.specs.Level.{level_of}
use Rattle.levels.specs.Levels.{max_from, max_of, max_below, cell_for, black_for, greatest_black, span_of, level_at}
use Rattle.levels.specs.Accuracy.{Ascending}
use Rattle.raw.specs.Stored.{Stored}
use Rattle.raw.specs.Sample.{ActiveIn}
use Rattle.develop.specs.Calls.{Opened, opened}
use Rattle.demand.specs.Accuracy.{levels_of, AccurateLevels}
use Rattle.develop.proofs.Views.{open_is}
use Rattle.demand.proofs.Accurate.{has_accurate_levels}
use Rattle.demand.proofs.Table.{file, found, picture, stored, held}
use Rattle.demand.proofs.Worked.{fronts, lists, values}

pub accepted : (t u : ℕ) → is (held t u) ≡ opened (file t u)
accepted t u =
    ap {B = Out Opened} (λ (s : Stored). is (record { picture = picture; opcodes = []; stored = s })) (values.2 t u).answer
    ∙ open_is (file t u) picture (fronts.2 t u).answer [] (lists.2 t u).answer

pub accurate : (t u : ℕ) → AccurateLevels (file t u) (held t u)
accurate t u = has_accurate_levels (file t u) (held t u) (accepted t u)

-- its left sample
left : ActiveIn found 0 0 0
left = record { row = omega arith; column = omega arith; plane = omega arith }

-- L of a stored number there
abbrev level : ℕ → ℕ → ℕ → ℕ
level t u v = level_at (levels_of (held t u)) 0 0 0 v

computed : (level 10 200 0 ≡ 2570) × (level 10 200 1 ≡ 51400) × (level 200 10 0 ≡ 51400) × (level 200 10 1 ≡ 2570)
unfolding level_at span_of greatest_black black_for cell_for max_below max_of max_from run_of through_of level_of number_of little_of
computed = (refl, refl, refl, refl)

-- 10, 200 never falls
ascends : Ascending (levels_of (held 10 200)).table
unfolding number_of little_of
ascends zero zero h k = le_refl 10
ascends zero (suc zero) h k = omega arith
ascends (suc zero) (suc zero) h k = le_refl 200
ascends i (suc (suc j)) h k = absurd (omega arith)
ascends (suc i) zero h k = absurd (omega arith)
ascends (suc (suc i)) (suc zero) h k = absurd (omega arith)

pub rises : (a b : ℕ) → a ≤ b → level 10 200 a ≤ level 10 200 b
rises = (accurate 10 200).ordered 0 0 0 left ascends

-- 200, 10 falls, and L with it
pub falls : ((a b : ℕ) → a ≤ b → level 200 10 a ≤ level 200 10 b) → ⊥
falls h = omega (arith, h 0 1 (omega arith), computed.2, computed.3)
