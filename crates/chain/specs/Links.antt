-- The opcodes of a list that cover a spot, with the values before and after each, and those that are skipped.
use Rattle.std.specs.Prelude.{ℕ, ◌+◌, Bool, true, false, List, [], ◌∷◌, Float}
use Rattle.reading.specs.Reading.{pick}
use Rattle.opcodes.specs.Opcode.{row, column, OpcodeKind, table, polynomial, delta, scale, gain, Opcode, skipped, kept, opcode_at}
use Rattle.opcodes.specs.Frame.{touches}
use Rattle.chain.specs.declared.links.Link.{Link}

-- the id of a kind: each kind has one, so that it need not be carried beside it
abbrev pub kind_id : OpcodeKind → ℕ
kind_id (table t) = 7
kind_id (polynomial cs) = 8
kind_id (gain z m) = 9
kind_id (delta row vs) = 10
kind_id (delta column vs) = 11
kind_id (scale row vs) = 12
kind_id (scale column vs) = 13

-- a skipped opcode covers nothing: its id is not asked for
abbrev pub opcode_id : Opcode → ℕ
opcode_id skipped = 0
opcode_id (kept g k) = kind_id k

-- an opcode at a sample whose number is x
abbrev pub link_of : Opcode → ℕ → ℕ → ℕ → Float → Link
link_of o r c p x = record { id = opcode_id o; before = x; after = opcode_at o r c p x }

-- "id, value before and value after of each covering correction": the opcodes whose grid has the sample, in list order
unfoldable pub links_of : List Opcode → ℕ → ℕ → ℕ → Float → List Link
links_of [] r c p x = []
links_of (o ∷ os) r c p x = pick (touches o r c p) (link_of o r c p x ∷ links_of os r c p (opcode_at o r c p x)) (links_of os r c p x)

abbrev pub is_skipped : Opcode → Bool
is_skipped skipped = true
is_skipped (kept g k) = false

-- the places of the opcodes of which a test holds, in list order, in a list whose first one's place is i
unfoldable pub places_where : (Opcode → Bool) → ℕ → List Opcode → List ℕ
places_where t i [] = []
places_where t i (o ∷ os) = pick (t o) (i ∷ places_where t (i + 1) os) (places_where t (i + 1) os)
