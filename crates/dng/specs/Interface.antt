-- What an answer shows through the C interface.
use Rattle.std.specs.Prelude.{ℕ, ◌+◌, ◌*◌, List, [], ◌∷◌, ℤ, pos, Result, Ok, Err}
use Rattle.directory.specs.Refusal.{number_of, detail_of}
use Rattle.directory.specs.declared.refusal.Refusal.{Refusal}
use Rattle.chain.specs.Chain.{ChainAnswer}
use Rattle.demand.specs.Card.{CardAnswer}

-- a card: number, detail, active rows, active columns, samples, opcodes kept, opcodes skipped, crop left, crop top, crop columns,
-- crop rows
unfoldable pub numbers_of : CardAnswer → List ℕ
numbers_of c =
    c.number ∷ c.detail ∷ c.rows ∷ c.columns ∷ c.samples ∷ c.kept ∷ c.skipped
    ∷ c.crop.left ∷ c.crop.top ∷ c.crop.columns ∷ c.crop.rows ∷ []

-- a chain's numbers: stored sample, table value, cell's black, column delta, row delta, B, M, L, covering, skipped
unfoldable pub chain_numbers_of : ChainAnswer → List ℤ
chain_numbers_of a =
    let n = a.levels in
    pos n.stored ∷ pos n.table_value ∷ n.cell ∷ n.column_delta ∷ n.row_delta ∷ n.black ∷ n.greatest_black
    ∷ pos n.level ∷ pos a.covering ∷ pos a.skipped ∷ []

-- number * 2^32 + detail: every number is below 20, every detail below 2^32 (`window_fits` and its like)
unfoldable pub packed_of : ℕ → ℕ → ℕ
packed_of n d = n * 0x1_0000_0000 + d

-- the number and the detail of an answer
abbrev pub number_in : {A : Type 0} → Result A Refusal → ℕ
number_in (Ok v) = 0
number_in (Err r) = number_of r

abbrev pub detail_in : {A : Type 0} → Result A Refusal → ℕ
detail_in (Ok v) = 0
detail_in (Err r) = detail_of r
