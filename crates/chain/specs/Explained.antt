-- The request's sentences about the chain, of every accepted file and every spot of its active area.
use Rattle.std.specs.Prelude.{ℕ, suc, ◌+◌, ◌<◌, ◌≡◌, Bool, true, List, [], ◌∷◌, Float, ◌+ℤ◌, length, get_or}
use Rattle.reading.specs.Bytes.{part}
use Rattle.reading.specs.Number.{number_of}
use Rattle.directory.specs.Out.{Out.is}
use Rattle.levels.specs.Level.{difference_of, level_of, scaled_of}
use Rattle.levels.specs.Levels.{level_numbers}
use Rattle.raw.specs.Sample.{cell_of, ActiveIn}
use Rattle.opcodes.specs.Opcode.{Opcode, skipped, opcode_at}
use Rattle.opcodes.specs.OpcodeList.{header_of, start_of}
use Rattle.opcodes.specs.Frame.{touches}
use Rattle.develop.specs.Calls.{Opened, opened, tags_of, scaled_in, spot_call}
use Rattle.chain.specs.Links.{is_skipped}
use Rattle.chain.specs.Chain.{Chain, chain_of}
use Rattle.chain.specs.declared.links.Link.{Link}

-- k is one of these numbers
abbrev pub Among : ℕ → List ℕ → Type 0
Among k ks = (j : ℕ) × (j < length ks) × (get_or ks j 0 ≡ k)

-- the places of exactly the opcodes of which a test holds, in list order
pub record Names (t : Opcode → Bool) (os : List Opcode) (ks : List ℕ) : Type 0 where
  pub ordered : (i j : ℕ) → i < j → j < length ks → get_or ks i 0 < get_or ks j 0
  pub only : (k : ℕ) → Among k ks → (k < length os) × (t (get_or os k skipped) ≡ true)
  pub all : (k : ℕ) → k < length os → t (get_or os k skipped) ≡ true → Among k ks

-- the value after the last link; without one, x
abbrev pub last_of : Float → List Link → Float
last_of x [] = x
last_of x (l ∷ ls) = last_of l.after ls

pub record Explains (f : List ℕ) (o : Opened) (r c p : ℕ) (ch : Chain) : Type 0 where
  -- "the eight numbers are demand 2's for this spot, the first from the stored bytes"
  pub stored : let s = cell_of (tags_of o) o.stored.offsets r c p in ch.levels.stored ≡ number_of o.picture.order (part f s.start s.count)
  pub numbers : ch.levels ≡ level_numbers o.stored.levels r c p ch.levels.stored
  pub black : ch.levels.black ≡ ch.levels.cell +ℤ ch.levels.column_delta +ℤ ch.levels.row_delta
  pub level :
      ch.levels.level
      ≡ level_of (difference_of ch.levels.table_value ch.levels.black)
      (difference_of (get_or o.stored.levels.whites p 0) ch.levels.greatest_black)
  pub scaled : scaled_in f o r c p ≡ scaled_of ch.levels.level
  -- "each value follows from the one before, the first from L, by demand 2"
  pub first : (d : Link) → 0 < length ch.links → (get_or ch.links 0 d).before ≡ scaled_of ch.levels.level
  pub next : (j : ℕ) (d : Link) → suc j < length ch.links → (get_or ch.links (suc j) d).before ≡ (get_or ch.links j d).after
  pub follows :
      (j : ℕ) (d : Link) → j < length ch.links →
      (get_or ch.links j d).after ≡ opcode_at (get_or o.opcodes (get_or ch.places j 0) skipped) r c p (get_or ch.links j d).before
  -- "the chain names exactly the covering corrections in list order", with their ids
  pub names : Names (λ (q : Opcode). touches q r c p) o.opcodes ch.places
  pub as_many : length ch.links ≡ length ch.places
  pub ids :
      (j : ℕ) (d : Link) → j < length ch.links →
      (get_or ch.links j d).id ≡ (header_of (part f (start_of f ((tags_of o).list.place + 4) (get_or ch.places j 0)) 16)).id
  -- "its last value is the spot's in every bit"
  pub last : last_of (scaled_of ch.levels.level) ch.links ≡ (spot_call f r c p).value
  pub value : ch.value ≡ (spot_call f r c p).value
  -- "exactly the skipped corrections, in list order"
  pub skips : Names is_skipped o.opcodes ch.skipped

abbrev pub Explained : List ℕ → ℕ → ℕ → ℕ → Type 0
Explained f r c p = (o : Opened) → is o ≡ opened f → ActiveIn (tags_of o) r c p → Explains f o r c p (chain_of f o r c p)
