-- What the opcode list refuses: each detail is an opcode's place, 32 at most.
-- Assumes nothing.
use Rattle.std.proofs.Common.{◌≡◌, ℕ, zero, suc, ◌+◌, ◌-◌, ◌<◌, ◌≤◌, Bool, true, false, ltb, List, refl, arith, lit<, ltb-false}
use Rattle.reading.specs.Number.{number_of}
use Rattle.reading.specs.Reading.{Reading, pick}
use Rattle.reading.specs.declared.number.Order.TheVariants.{Big}
use Rattle.directory.specs.Out.{Out}
use Rattle.directory.proofs.Refusals.{SmallDetail, SmallRefusals, smalls, small_answer, small_ask, small_bind, small_pick, small_choice}
use Rattle.directory.proofs.Refusals.{either}
use Rattle.opcodes.specs.OpcodeList.{header_of, refusal_of, plain_fault, gain_map_fault, opcode_fault, parameters_of, opcode_reading, class_of}
use Rattle.opcodes.specs.OpcodeList.{list_from, list_reading}
use Rattle.opcodes.specs.declared.grid.Size.{Size}
use Rattle.opcodes.specs.declared.list.Header.{Header}
use Rattle.opcodes.specs.declared.list.Class.{Class}
use Rattle.opcodes.specs.declared.list.Class.TheVariants as class

refusal_small : (legal wrong : Bool) → refusal_of legal wrong < 20
refusal_small legal wrong = either (λ (n : ℕ). n < 20) _ _ _ (either (λ (n : ℕ). n < 20) _ _ _ (lit< tt) (lit< tt)) (lit< tt)

fault_small : (z : Size) (id : ℕ) (ps : List ℕ) → opcode_fault z id ps < 20
unfolding opcode_fault plain_fault gain_map_fault
fault_small z id ps = either (λ (n : ℕ). n < 20) _ _ _ (refusal_small _ _) (refusal_small _ _)

-- a place up to 32
placed : {i : ℕ} → i ≤ 32 → SmallDetail i
placed h = omega (arith, h)

module _ (z : Size) (i : ℕ) (place : i ≤ 32) where
  opcode_small : (k : Class) (at : ℕ) (h : Header) → SmallRefusals (opcode_reading k z i at h)
  unfolding parameters_of
  opcode_small class.Carried at h =
      small_ask _ _ _ (λ ps. small_answer _ (small_choice _ _ _ tt (fault_small z h.id ps, placed place)))
  opcode_small class.Optional at h = search smalls
  opcode_small class.Compulsory at h = search (smalls, placed)

from_small : (z : Size) (k i at n : ℕ) → k + i ≤ 32 → SmallRefusals (list_from z k i at n)
unfolding list_from
from_small z zero i at n h = let p : i ≤ 32 = omega (arith, h) in search (smalls, placed)
from_small z (suc k) i at n h =
    let p : i ≤ 32 = omega (arith, h) in
    small_pick _ _ _
    (small_ask _ _ _ (λ bs. small_pick _ _ _
    (small_bind _ _ (opcode_small z i p (class_of (header_of bs)) at (header_of bs))
    (λ o. small_bind _ _ (from_small z k (i + 1) (at + (16 + (header_of bs).length)) (n - (16 + (header_of bs).length)) (omega (arith, h)))
    (λ os. search smalls)))
    (search (smalls, placed))))
    (search (smalls, placed))

counted : {A : Type 0} (n : ℕ) (a b : Reading (Out A)) → SmallRefusals a → (n ≤ 32 → SmallRefusals b) → SmallRefusals (pick (ltb 32 n) a b)
unfolding pick
counted n a b p q = go (ltb 32 n) refl
  where
    go : (t : Bool) → ltb 32 n ≡ t → SmallRefusals (pick t a b)
    go true e = p
    go false e = q (ltb-false 32 n e)

pub list_small : (z : Size) (at n : ℕ) → SmallRefusals (list_reading z at n)
unfolding list_reading
list_small z at n =
    small_pick _ _ _ (search smalls)
    (small_ask _ _ _ (λ h. counted (number_of Big h) _ _ (search smalls)
    (λ b. from_small z (number_of Big h) 0 (at + 4) (n - 4) (omega (arith, b)))))
