-- Scaled values are from 0 to 1; and what the list makes of them.
-- Assumes nothing.
use mathlib.Core.Path.{◌≡◌, ◌∙◌}
use mathlib.Core.List.{List}
use Prim.Native.Nat.{ℕ, ◌+◌, ◌/◌, ◌%◌, ◌<◌}
use native.Mathlib.Omega.{arith}
use lib.Ieee.{Float, nan}
use lib.ListN.{length, get_or}
use Rattle.reading.specs.declared.number.Order.{Order}
use Rattle.levels.proofs.Unit.{unit}
use Rattle.levels.proofs.UnitRange.{scaled_unit}
use Rattle.levels.proofs.Rounding.{level_most}
use Rattle.raw.specs.Sample.{scaled_sample}
use Rattle.rawtags.specs.declared.Tags.{Tags}
use Rattle.opcodes.specs.Opcode.{Opcode}
use Rattle.samples.specs.Facts.Line.{scaled_from, scaled_part}
use Rattle.samples.proofs.Eaches.{each_length, each_at, each_each}
use Rattle.rows.specs.Facts.Part.{AllInUnit}
use Rattle.rows.specs.Facts.ListPart.{alone_part, developed_part}

pub scaled_in_unit : (f : List ℕ) (o : Order) (t : Tags) (r c p : ℕ) → unit (scaled_from f o t r c p)
unfolding scaled_sample Rattle.levels.specs.Levels.level_at
scaled_in_unit f o t r c p = scaled_unit _ (level_most _ _)

pub part_units : (f : List ℕ) (o : Order) (t : Tags) (r l : ℕ) (xs : List Float) → AllInUnit (scaled_part f o t r l xs)
unfolding scaled_part
part_units f o t r l xs k b =
    let q = each_length (λ (j : ℕ) (x : Float). scaled_from f o t r (l + j / t.frame.samples) (j % t.frame.samples)) 0 xs in
    let b' : k < length xs = omega arith in
    let e : get_or (scaled_part f o t r l xs) k nan ≡ scaled_from f o t r (l + (0 + k) / t.frame.samples) ((0 + k) % t.frame.samples) =
    each_at _ 0 xs k nan b' in
    rw e (scaled_in_unit f o t r (l + (0 + k) / t.frame.samples) ((0 + k) % t.frame.samples))

-- the scaled values through the list
pub part_developed :
    (f : List ℕ) (o : Order) (t : Tags) (os : List Opcode) (r l n : ℕ) (old xs new : List Float) → n ≡ t.frame.samples
    → xs ≡ scaled_part f o t r l old → new ≡ alone_part os r l n xs → new ≡ developed_part f o t os r l old
unfolding scaled_part alone_part developed_part
part_developed f o t os r l n old xs new e q h = h ∙ rw (q, e) (each_each _ _ 0 old)
