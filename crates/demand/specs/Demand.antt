-- Demand 3: one claim about an accepted file f with its whole list.
use Rattle.std.specs.Prelude.{◌≡◌, false, List, ℕ, suc, ◌+◌, ◌/◌, ◌%◌, ◌≤◌, ◌<◌, eqb, Float, length, get_or}
use Rattle.reading.specs.Bytes.{replaced}
use Rattle.reading.specs.Reading.{run, pick, trace, reads, covers, trace_whole}
use Rattle.directory.specs.Out.{Out.is}
use Rattle.raw.specs.Front.{front_reading}
use Rattle.raw.specs.Stored.{stored_reading}
use Rattle.raw.specs.Sample.{place_of, cell_of, ActiveIn}
use Rattle.opcodes.specs.Opcode.{skipped}
use Rattle.opcodes.specs.OpcodeList.{start_of}
use Rattle.opcodes.specs.Swap.{swapped_file}
use Rattle.opcodes.specs.Frame.{Untouched, Apart}
use Rattle.colour.specs.declared.Colour.{Colour}
use Rattle.develop.specs.Calls.{Opened, opened, size_of, opcodes_of, colour_for, scaled_in, frame_of, pixel_in, values_of}
use Rattle.chain.specs.Chain.{Slices, Chained, chain_of, chain_call}
use Rattle.chain.specs.Explained.{Among}
use Rattle.half.specs.Half.{half_for, blocks_of, block_in, half_window_call}
use Rattle.develop.specs.Calls.{spot_call, window_call, colour_window_call, tags_of, developed_in, alone_in, pixel_alone, slot_row, slot_column}
use Rattle.demand.specs.Card.{card_call}
use Rattle.half.specs.declared.half_window.Half.{Half}

-- where the list's k-th opcode begins; its count comes first
abbrev pub opcode_start : List ℕ → Opened → ℕ → ℕ
opcode_start f o k = start_of f ((tags_of o).list.place + 4) k

-- where a sample stands, by stored row, stored column and plane
abbrev pub stored_place : Opened → ℕ → ℕ → ℕ → ℕ
stored_place o r c p = place_of (tags_of o) o.stored.offsets r c p

-- the active pixel is the one at a stored row and column
abbrev pub IsPixel : Opened → ℕ → ℕ → ℕ → ℕ → Type 0
IsPixel o r₀ c₀ r c = ((tags_of o).area.top + r ≡ r₀) × ((tags_of o).area.left + c ≡ c₀)

-- the active sample is the one at a stored row and column and a plane
abbrev pub IsSample : Opened → ℕ → ℕ → ℕ → ℕ → ℕ → ℕ → Type 0
IsSample o r₀ c₀ p₀ r c p = IsPixel o r₀ c₀ r c × (p ≡ p₀)

-- the block in row i and column j of blocks holds the pixel at a stored row and column
abbrev pub InBlock : Opened → ℕ → ℕ → ℕ → ℕ → Type 0
InBlock o r₀ c₀ i j = (r : ℕ) × (c : ℕ) × (r / 2 ≡ i) × (c / 2 ≡ j) × IsPixel o r₀ c₀ r c

-- the place at which the opcode at place j stood before the k-th one and the next changed places
abbrev pub exchanged : ℕ → ℕ → ℕ
exchanged k j = pick (eqb j k) (suc k) (pick (eqb j (suc k)) k j)

-- the places ls name the same opcodes after the exchange as ks did before
abbrev pub Exchanged : ℕ → List ℕ → List ℕ → Type 0
Exchanged k ks ls = (j : ℕ) → (Among j ls → Among (exchanged k j) ks) × (Among (exchanged k j) ks → Among j ls)

-- two answers that differ in no more than the places that they name: number, detail, value, numbers and counts, ids, values before and after
abbrev pub SameButPlaces : Chained → Chained → Type 0
SameButPlaces a b =
    (a.answer ≡ b.answer) × (a.lent.ids ≡ b.lent.ids) × (a.lent.before ≡ b.lent.before) × (a.lent.after ≡ b.lent.after)

module _ (f : List ℕ) (o : Opened) where
  -- ---- "a byte counts as read when any call reads it, colour's tags included"

  -- no call reads byte i for the header, a directory or a tag's value, the list's own bytes apart
  abbrev pub NotInTags : ℕ → Type 0
  NotInTags i =
      (reads (trace_whole f front_reading) i ≡ false)
      × (reads (trace f (stored_reading o.picture.order (tags_of o))) i ≡ false)
      × (reads (trace f (colour_for o.picture)) i ≡ false)
      × (reads (trace f (half_for o.picture)) i ≡ false)

  -- or for the list
  abbrev pub NotInList : ℕ → Type 0
  NotInList i = reads (trace f (opcodes_of o.picture)) i ≡ false

  -- or for an active sample
  abbrev pub NotInSample : ℕ → ℕ → ℕ → ℕ → Type 0
  NotInSample i r c p = covers (cell_of (tags_of o) o.stored.offsets r c p) i ≡ false

  -- of the bytes of the k-th opcode and the next one, headers with parameters, none is read but for the list
  abbrev pub UnreadButList : ℕ → Type 0
  UnreadButList k =
      (i : ℕ) → opcode_start f o k ≤ i → i < opcode_start f o (suc (suc k)) →
      NotInTags i × ((r c p : ℕ) → ActiveIn (tags_of o) r c p → NotInSample i r c p)

  -- of a stored sample's bytes, none is read but for this sample
  abbrev pub UnreadButSample : ℕ → ℕ → ℕ → Type 0
  UnreadButSample r₀ c₀ p₀ =
      (i : ℕ) → stored_place o r₀ c₀ p₀ ≤ i → i < stored_place o r₀ c₀ p₀ + (tags_of o).layout.bytes →
      NotInTags i × NotInList i × ((r c p : ℕ) → ActiveIn (tags_of o) r c p → (IsSample o r₀ c₀ p₀ r c p → ⊥) → NotInSample i r c p)

  -- ---- what stays

  -- each call that accepts f accepts g, and every call answers on g, in which the k-th opcode and the next have changed places, as on f:
  -- number, detail, value and whole slice; of a chain all but the places that it names, which are the opcodes' new ones
  pub record SameAnswers (k : ℕ) (g : List ℕ) : Type 0 where
    pub accepted :
        (o' : Opened) × (is o' ≡ opened g) × (run g (colour_for o'.picture) ≡ run f (colour_for o.picture))
        × (run g (half_for o'.picture) ≡ run f (half_for o.picture))
    pub cards : card_call g ≡ card_call f
    pub windows : (t l h w : ℕ) (old : List Float) → window_call g t l h w old ≡ window_call f t l h w old
    pub spots : (r c p : ℕ) → spot_call g r c p ≡ spot_call f r c p
    pub colour_windows : (t l h w : ℕ) (old : List Float) → colour_window_call g t l h w old ≡ colour_window_call f t l h w old
    pub half_windows : (t l h w : ℕ) (old : List Float) → half_window_call g t l h w old ≡ half_window_call f t l h w old
    pub chains : (r c p : ℕ) (old : Slices) → SameButPlaces (chain_call g r c p old) (chain_call f r c p old)
    pub chain_places :
        (o' : Opened) → is o' ≡ opened g → (r c p : ℕ) →
        Exchanged k (chain_of f o r c p).places (chain_of g o' r c p).places × Exchanged k (chain_of f o r c p).skipped (chain_of g o' r c p).skipped

  -- the stored pixel is not in the window
  abbrev pub Outside : ℕ → ℕ → ℕ → ℕ → ℕ → ℕ → Type 0
  Outside r₀ c₀ t l h w = (r c : ℕ) → t ≤ r → r < t + h → l ≤ c → c < l + w → IsPixel o r₀ c₀ r c → ⊥

  -- nor in a block of the half window
  abbrev pub OutsideBlocks : ℕ → ℕ → ℕ → ℕ → ℕ → ℕ → Type 0
  OutsideBlocks r₀ c₀ t l h w = (i j : ℕ) → t ≤ i → i < t + h → l ≤ j → j < l + w → InBlock o r₀ c₀ i j → ⊥

  -- g is accepted as f is, and all but the stored sample at r₀, c₀, p₀ stays: every other sample's spot, chain and developed value, every
  -- other pixel's and block's colour, the windows without it; of windows with it, number, detail and every other place of the slice
  pub record SameElsewhere (r₀ c₀ p₀ : ℕ) (g : List ℕ) : Type 0 where
    pub accepted : is o ≡ opened g
    pub colour_accepted : run g (colour_for o.picture) ≡ run f (colour_for o.picture)
    pub half_accepted : run g (half_for o.picture) ≡ run f (half_for o.picture)
    pub cards : card_call g ≡ card_call f
    pub samples : (r c p : ℕ) → ActiveIn (tags_of o) r c p → (IsSample o r₀ c₀ p₀ r c p → ⊥) → developed_in g o r c p ≡ developed_in f o r c p
    pub pixels :
        (m : Colour) → is m ≡ run f (colour_for o.picture) →
        (r c : ℕ) → r < (size_of o.picture).rows → c < (size_of o.picture).columns →
        (IsPixel o r₀ c₀ r c → ⊥) → (k : ℕ) → pixel_in m (frame_of g o) r c k ≡ pixel_in m (frame_of f o) r c k
    pub blocks :
        (m : Half) → is m ≡ run f (half_for o.picture) →
        (i j : ℕ) → i < (blocks_of (size_of o.picture)).rows → j < (blocks_of (size_of o.picture)).columns →
        (InBlock o r₀ c₀ i j → ⊥) → (k : ℕ) → block_in m (developed_in g o) i j k ≡ block_in m (developed_in f o) i j k
    pub windows : (t l h w : ℕ) (old : List Float) → Outside r₀ c₀ t l h w → window_call g t l h w old ≡ window_call f t l h w old
    pub window_numbers :
        (t l h w : ℕ) (old : List Float) →
        ((window_call g t l h w old).number ≡ (window_call f t l h w old).number)
        × ((window_call g t l h w old).detail ≡ (window_call f t l h w old).detail)
    pub window_places :
        (t l h w : ℕ) (old : List Float) (k : ℕ) (d : Float) →
        let n = (size_of o.picture).samples in (IsSample o r₀ c₀ p₀ (slot_row t w n k) (slot_column l w n k) (k % n) → ⊥) →
        get_or (window_call g t l h w old).slice k d ≡ get_or (window_call f t l h w old).slice k d
    pub spots : (r c p : ℕ) → (IsSample o r₀ c₀ p₀ r c p → ⊥) → spot_call g r c p ≡ spot_call f r c p
    pub chains : (r c p : ℕ) (old : Slices) → (IsSample o r₀ c₀ p₀ r c p → ⊥) → chain_call g r c p old ≡ chain_call f r c p old
    pub colour_windows :
        (t l h w : ℕ) (old : List Float) → Outside r₀ c₀ t l h w → colour_window_call g t l h w old ≡ colour_window_call f t l h w old
    pub colour_window_numbers :
        (t l h w : ℕ) (old : List Float) →
        ((colour_window_call g t l h w old).number ≡ (colour_window_call f t l h w old).number)
        × ((colour_window_call g t l h w old).detail ≡ (colour_window_call f t l h w old).detail)
    pub colour_window_places :
        (t l h w : ℕ) (old : List Float) (k : ℕ) (d : Float) → (IsPixel o r₀ c₀ (slot_row t w 3 k) (slot_column l w 3 k) → ⊥) →
        get_or (colour_window_call g t l h w old).slice k d ≡ get_or (colour_window_call f t l h w old).slice k d
    pub half_windows :
        (t l h w : ℕ) (old : List Float) → OutsideBlocks r₀ c₀ t l h w → half_window_call g t l h w old ≡ half_window_call f t l h w old
    pub half_window_numbers :
        (t l h w : ℕ) (old : List Float) →
        ((half_window_call g t l h w old).number ≡ (half_window_call f t l h w old).number)
        × ((half_window_call g t l h w old).detail ≡ (half_window_call f t l h w old).detail)
    pub half_window_places :
        (t l h w : ℕ) (old : List Float) (k : ℕ) (d : Float) → (InBlock o r₀ c₀ (slot_row t w 3 k) (slot_column l w 3 k) → ⊥) →
        get_or (half_window_call g t l h w old).slice k d ≡ get_or (half_window_call f t l h w old).slice k d

  -- ---- the claim

  pub record Demand3 : Type 0 where
    -- the whole frame through the list and each sample alone agree, at every spot, at the end of its chain and in every window
    pub spot_values :
        (r c p : ℕ) → (spot_call f r c p).number ≡ 0 →
        ((spot_call f r c p).value ≡ developed_in f o r c p) × ((spot_call f r c p).value ≡ alone_in f o r c p)
    pub chain_values :
        (r c p : ℕ) (old : Slices) → (chain_call f r c p old).answer.number ≡ 0 →
        ((chain_call f r c p old).answer.value ≡ developed_in f o r c p) × ((chain_call f r c p old).answer.value ≡ alone_in f o r c p)
    pub window_values :
        (t l h w : ℕ) (old : List Float) → (window_call f t l h w old).number ≡ 0 →
        ((window_call f t l h w old).slice ≡ values_of (developed_in f o) t l h w (size_of o.picture).samples)
        × ((window_call f t l h w old).slice ≡ values_of (alone_in f o) t l h w (size_of o.picture).samples)
    -- and in the colour of every pixel and of every block
    pub colour_window_values :
        (m : Colour) → is m ≡ run f (colour_for o.picture) →
        (t l h w : ℕ) (old : List Float) → (colour_window_call f t l h w old).number ≡ 0 →
        ((colour_window_call f t l h w old).slice ≡ values_of (pixel_in m (frame_of f o)) t l h w 3)
        × ((colour_window_call f t l h w old).slice ≡ values_of (pixel_alone f o m) t l h w 3)
    pub half_window_values :
        (m : Half) → is m ≡ run f (half_for o.picture) →
        (t l h w : ℕ) (old : List Float) → (half_window_call f t l h w old).number ≡ 0 →
        ((half_window_call f t l h w old).slice ≡ values_of (block_in m (developed_in f o)) t l h w 3)
        × ((half_window_call f t l h w old).slice ≡ values_of (block_in m (alone_in f o)) t l h w 3)
    -- a sample on no grid keeps its scaled value
    pub keeps : (r c p : ℕ) → ActiveIn (tags_of o) r c p → Untouched o.opcodes r c p → developed_in f o r c p ≡ scaled_in f o r c p
    -- two neighbouring opcodes with disjoint grids may change places
    pub swaps :
        (k : ℕ) → suc k < length o.opcodes → Apart (get_or o.opcodes k skipped) (get_or o.opcodes (suc k) skipped) →
        UnreadButList k →
        SameAnswers k (swapped_file f ((tags_of o).list.place + 4) k)
    -- one stored sample's bytes, whether in the active area or not, may change
    pub changes :
        (r c p : ℕ) → r < (tags_of o).frame.length → c < (tags_of o).frame.width → p < (tags_of o).frame.samples →
        (new : List ℕ) → length new ≡ (tags_of o).layout.bytes → UnreadButSample r c p →
        SameElsewhere r c p (replaced f (stored_place o r c p) new)

-- the claim, of whatever the tests before 13 accept
abbrev pub MeetsDemand3 : List ℕ → Type 0
MeetsDemand3 f = (o : Opened) → is o ≡ opened f → Demand3 f o
