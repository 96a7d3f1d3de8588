-- Two neighbouring opcodes that change places.
use Rattle.std.specs.Prelude.{ℕ, zero, suc, ◌-◌, List, [], ◌∷◌, ◌++◌, take, drop}
use Rattle.reading.specs.Bytes.{part}
use Rattle.opcodes.specs.Opcode.{Opcode}
use Rattle.opcodes.specs.OpcodeList.{start_of}

-- the bytes from a up to b, and from b up to c, "fill the same stretch in the other order"
unfoldable pub exchange : List ℕ → ℕ → ℕ → ℕ → List ℕ
exchange f a b c = take a f ++ (part f b (c - b) ++ (part f a (b - a) ++ drop c f))

-- "They change places": the k-th opcode, "header with its parameters", and the next one, of a list whose first one stands at a place
abbrev pub swapped_file : List ℕ → ℕ → ℕ → List ℕ
swapped_file f at k = exchange f (start_of f at k) (start_of f at (suc k)) (start_of f at (suc (suc k)))

-- the list with the k-th opcode and the next one in each other's place
abbrev pub swap_at : ℕ → List Opcode → List Opcode
swap_at k [] = []
swap_at zero (o ∷ []) = o ∷ []
swap_at zero (o ∷ (p ∷ os)) = p ∷ (o ∷ os)
swap_at (suc k) (o ∷ os) = o ∷ swap_at k os
