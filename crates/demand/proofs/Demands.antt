-- Demand 3, of every accepted file, by the definitions alone.
-- Assumes nothing.
use mathlib.Core.Path.{◌≡◌, refl, sym, ap, subst, ◌∙◌}
use mathlib.Core.Bool.{Bool, true, false, ◌||◌, or-false}
use mathlib.Core.List.{List, [], ◌∷◌, ◌++◌}
use Prim.Native.Nat.{ℕ, suc, ◌+◌, ◌*◌, ◌/◌, ◌%◌, ◌≤◌, ◌<◌}
use native.Mathlib.Omega.{arith}
use lib.Dec.{eqb}
use lib.Ieee.{Float}
use lib.ListN.{length, get_or}
use borrow.Author.Tests.{eqb-true, eqb-false}
use Rattle.reading.specs.Bytes.{part, replaced}
use Rattle.reading.specs.Reading.{Reading, Reading.answer, Reading.ask, Stretch, run, trace, covers, reads, run_whole, trace_whole}
use Rattle.reading.proofs.Bytes.{length_replaced}
use Rattle.reading.proofs.Reading.{run_answer, run_ask, trace_answer, trace_ask, trace_and_then, reads_append, unread}
use Rattle.directory.specs.Out.{Out, Out.refused, Out.is}
use Rattle.directory.proofs.Outs.{bind_trace, same_value}
use Rattle.raw.specs.Front.{front_reading}
use Rattle.raw.specs.Stored.{Stored, stored_reading}
use Rattle.raw.specs.Sample.{place_of, cell_of, ActiveIn}
use Rattle.raw.proofs.TagFacts.{place_inside, scaled_same}
use Rattle.raw.proofs.Accepted.{Inside, front_accepted}
use Rattle.opcodes.specs.Opcode.{Opcode, skipped}
use Rattle.opcodes.specs.OpcodeList.{kept_in, skipped_in}
use Rattle.opcodes.specs.Frame.{Frame, standing, alone, touches, Untouched, Apart}
use Rattle.opcodes.specs.Swap.{swapped_file, swap_at}
use Rattle.opcodes.specs.declared.grid.Size.{Size}
use Rattle.opcodes.proofs.Frames.{framed_same, untouched}
use Rattle.opcodes.proofs.Listing.{value_none}
use Rattle.opcodes.proofs.Swaps.{swapped_length, swapped_unread, swapped_inside, list_swapped, swapped_counts, alone_swapped}
use Rattle.colour.specs.declared.Colour.{Colour}
use Rattle.colour.specs.declared.pixel.Xyz.{Xyz}
use Rattle.develop.specs.Calls.{Opened, open_reading, opened, size_of, opcodes_of, colour_for, scaled_in, frame_of, pixel_in, channel_of}
use Rattle.levels.specs.Level.{scaled_of}
use Rattle.levels.specs.declared.LevelNumbers.{LevelNumbers}
use Rattle.chain.specs.Links.{links_of, is_skipped, places_where}
use Rattle.chain.specs.Chain.{Chain, chain_of, Slices, Chained, shown_of, chain_call}
use Rattle.chain.proofs.ChainLaws.{numbers_in}
use Rattle.half.specs.Half.{half_for, blocks_of, block_in, halved_of, half_window_of, half_window_call}
use Rattle.develop.specs.Calls.{within, values_of, Window, filled_of, spot_of, spot_call, window_of, window_call, coloured_of, colour_window_of}
use Rattle.demand.specs.Card.{card_of, card_call}
use Rattle.develop.specs.Calls.{colour_window_call, tags_of, developed_in, alone_in, pixel_alone, slot_row, slot_column}
use Rattle.demand.specs.Demand.{opcode_start, stored_place, IsPixel, IsSample, InBlock, NotInTags, MeetsDemand3}
use Rattle.demand.specs.Demand.{UnreadButList, UnreadButSample, Outside, OutsideBlocks, SameAnswers, SameElsewhere}
use Rattle.demand.specs.Demand.{Exchanged, SameButPlaces}
use Rattle.demand.proofs.Chains.{where_exchanged, where_swapped, links_swapped, numbers_same, chain_related, same_itself, chain_called}
use Rattle.demand.proofs.Chains.{shown_but_places, chain_same, chain_value}
use Rattle.half.specs.declared.half_window.Half.{Half}
use Rattle.develop.proofs.Views.{open_is, open_inverse, list_inside}
use Rattle.develop.proofs.Answers.{frame_alone, developed_alone, spot_at, spot_same, spot_value, values_same, filled_same}
use Rattle.develop.proofs.Answers.{filled_place, filled_numbers, filled_values, colour_three, pixel_same, pixel_alone_law}
use Rattle.half.proofs.BlockLaws.{block_same, half_inverse, block_alone}

-- its strips and its list lie in the file
in_file : (f : List ℕ) (o : Opened) → is o ≡ opened f → Inside f o.picture.order (tags_of o)
in_file f o e = front_accepted f o.picture (open_inverse f o e).front

-- the tests before 13 read of it what they read for the tags, for the list and for the values that every sample needs
pub open_reads :
    (f : List ℕ) (o : Opened) → is o ≡ opened f → (i : ℕ) →
    reads (trace_whole f open_reading) i
    ≡ (reads (trace_whole f front_reading) i ||
    (reads (trace f (opcodes_of o.picture)) i || reads (trace f (stored_reading o.picture.order (tags_of o))) i))
unfolding open_reading reads
open_reads f o e i =
    let a = open_inverse f o e in
    let s = stored_reading o.picture.order (tags_of o) in
    let t = trace_and_then f s _ ∙ ap (λ (l : List Stretch). trace f s ++ l) (trace_answer f _) in
    let l = bind_trace f (opcodes_of o.picture) _ o.opcodes a.list
    ∙ ap (λ (l : List Stretch). trace f (opcodes_of o.picture) ++ l) t in
    let w = bind_trace f (front_reading (length f)) _ o.picture a.front
    ∙ ap (λ (l : List Stretch). trace_whole f front_reading ++ l) l in
    ap (λ (l : List Stretch). reads l i) w
    ∙ simp (reads_append, or-false)

-- ---- another file that differs only from lo up to hi: what reads none of these bytes answers the same
pub record Kept (f g : List ℕ) (lo hi : ℕ) : Type 1 where
  pub sized : length g ≡ length f
  pub same : {A : Type 0} (p : Reading A) → ((i : ℕ) → lo ≤ i → i < hi → reads (trace f p) i ≡ false) → run g p ≡ run f p

module _ (f g : List ℕ) (lo hi : ℕ) (k : Kept f g lo hi) where
  stretch_kept : (t : Stretch) → ((i : ℕ) → lo ≤ i → i < hi → covers t i ≡ false) →
      part g t.start t.count ≡ part f t.start t.count
  unfolding reads
  stretch_kept t h =
      let p : Reading (List ℕ) = ask t.start t.count (λ bs. answer bs) in
      let bytes : (l : List ℕ) → run l p ≡ part l t.start t.count = λ l. run_ask l _ _ _ ∙ run_answer l _ in
      let asks : trace f p ≡ record { start = t.start; count = t.count } ∷ [] = trace_ask f _ _ _
      ∙ ap (λ (l : List Stretch). record { start = t.start; count = t.count } ∷ l) (trace_answer f _) in
      sym (bytes g) ∙ k.same p (λ i a b. rw (asks, h i a b) refl) ∙ bytes f

  module _ (o : Opened) (e : is o ≡ opened f) (tagless : (i : ℕ) → lo ≤ i → i < hi → NotInTags f o i) where
    -- the same picture, with the list that g has
    opened_again : (os : List Opcode) → is os ≡ run g (opcodes_of o.picture) →
        is (record { picture = o.picture; opcodes = os; stored = o.stored }) ≡ opened g
    opened_again os l =
        let a = open_inverse f o e in
        let p : is o.picture ≡ run_whole g front_reading =
        a.front ∙ sym (ap (λ (n : ℕ). run g (front_reading n)) k.sized ∙ k.same (front_reading (length f)) (λ i x y. (tagless i x y).0))
        in
        let s : o.stored ≡ run g (stored_reading o.picture.order (tags_of o)) =
        a.stored ∙ sym (k.same (stored_reading o.picture.order (tags_of o)) (λ i x y. (tagless i x y).1)) in
        ap {B = Out Opened} (λ (x : Stored). is (record { picture = o.picture; opcodes = os; stored = x })) s
        ∙ open_is g o.picture p os l

    colours_again : run g (colour_for o.picture) ≡ run f (colour_for o.picture)
    colours_again = k.same (colour_for o.picture) (λ i x y. (tagless i x y).2)

    halves_again : run g (half_for o.picture) ≡ run f (half_for o.picture)
    halves_again = k.same (half_for o.picture) (λ i x y. (tagless i x y).3)

  -- a sample whose bytes are kept
  scaled_again :
      (o : Opened) (r c p : ℕ) → ((i : ℕ) → lo ≤ i → i < hi → covers (cell_of (tags_of o) o.stored.offsets r c p) i ≡ false) →
      scaled_in g o r c p ≡ scaled_in f o r c p
  scaled_again o r c p h =
      scaled_same g f o.picture.order (tags_of o) o.stored r c p (stretch_kept (cell_of (tags_of o) o.stored.offsets r c p) h)

  numbers_again :
      (o : Opened) (r c p : ℕ) → ((i : ℕ) → lo ≤ i → i < hi → covers (cell_of (tags_of o) o.stored.offsets r c p) i ≡ false) →
      numbers_in g o r c p ≡ numbers_in f o r c p
  numbers_again o r c p h =
      numbers_same g f o.picture.order (tags_of o) o.stored r c p (stretch_kept (cell_of (tags_of o) o.stored.offsets r c p) h)

-- ---- the same frame: every call answers the same
module _
    (f g : List ℕ) (o : Opened) (os : List Opcode) (k : ℕ) (ef : is o ≡ opened f)
    (eg : is (record { picture = o.picture; opcodes = os; stored = o.stored }) ≡ opened g)
    (frames : frame_of g (record { picture = o.picture; opcodes = os; stored = o.stored }) ≡ frame_of f o)
    (counts : (kept_in os ≡ kept_in o.opcodes) × (skipped_in os ≡ skipped_in o.opcodes))
    (colours : run g (colour_for o.picture) ≡ run f (colour_for o.picture))
    (halves : run g (half_for o.picture) ≡ run f (half_for o.picture))
    (numbers : (r c p : ℕ) → ActiveIn (tags_of o) r c p → numbers_in g o r c p ≡ numbers_in f o r c p)
    (links : (r c p : ℕ) (x : Float) → links_of os r c p x ≡ links_of o.opcodes r c p x)
    (as_many : (t : Opcode → Bool) → length (places_where t 0 os) ≡ length (places_where t 0 o.opcodes))
    (moved : (t : Opcode → Bool) → Exchanged k (places_where t 0 o.opcodes) (places_where t 0 os)) where
  abbrev other : Opened
  other = record { picture = o.picture; opcodes = os; stored = o.stored }

  abbrev size : Size
  size = size_of o.picture

  same_card : card_call g ≡ card_call f
  same_card = ap card_of (sym eg) ∙ rw (counts.0, counts.1) refl ∙ ap card_of ef

  same_window : (t l h w : ℕ) (old : List Float) → window_call g t l h w old ≡ window_call f t l h w old
  same_window t l h w old =
      ap (window_of g t l h w old) (sym eg)
      ∙ ap (λ (q : Frame). filled_of size size.samples t l h w old (standing q)) frames
      ∙ ap (window_of f t l h w old) ef

  same_spot : (r c p : ℕ) → spot_call g r c p ≡ spot_call f r c p
  same_spot r c p =
      ap (spot_of g r c p) (sym eg)
      ∙ ap (λ (q : Frame). spot_at (within size r c p) (standing q r c p)) frames
      ∙ ap (spot_of f r c p) ef

  same_colour_window : (t l h w : ℕ) (old : List Float) → colour_window_call g t l h w old ≡ colour_window_call f t l h w old
  same_colour_window t l h w old =
      ap (colour_window_of g t l h w old) (sym eg)
      ∙ ap (coloured_of g t l h w old other) colours
      ∙ go (run f (colour_for o.picture))
      ∙ ap (colour_window_of f t l h w old) ef
    where
      go : (x : Out Colour) → coloured_of g t l h w old other x ≡ coloured_of f t l h w old o x
      go (refused n d) = refl
      go (is m) = ap (λ (q : Frame). filled_of size 3 t l h w old (pixel_in m q)) frames

  same_half_window : (t l h w : ℕ) (old : List Float) → half_window_call g t l h w old ≡ half_window_call f t l h w old
  same_half_window t l h w old =
      ap (half_window_of g t l h w old) (sym eg)
      ∙ ap (halved_of g t l h w old other) halves
      ∙ go (run f (half_for o.picture))
      ∙ ap (half_window_of f t l h w old) ef
    where
      go : (x : Out Half) → halved_of g t l h w old other x ≡ halved_of f t l h w old o x
      go (refused n d) = refl
      go (is m) = ap (λ (q : Frame). filled_of (blocks_of size) 3 t l h w old (block_in m (standing q))) frames

  same_chain : (r c p : ℕ) (old : Slices) → SameButPlaces (chain_call g r c p old) (chain_call f r c p old)
  unfolding chain_of
  same_chain r c p old =
      let a = chain_called g other eg r c p old in
      let b = chain_called f o ef r c p old in
      rw (a, b) (chain_related SameButPlaces same_itself o.picture r c p old _ _ (λ act.
      let n = numbers r c p act in
      shown_but_places (chain_of g other r c p) (chain_of f o r c p) old n (ap (λ (q : Frame). standing q r c p) frames)
      (ap (λ (m : LevelNumbers). links_of os r c p (scaled_of m.level)) n ∙ links r c p (scaled_of (numbers_in f o r c p).level))
      (as_many (λ (q : Opcode). touches q r c p)) (as_many is_skipped)))

  same_chain_places :
      (o' : Opened) → is o' ≡ opened g → (r c p : ℕ) →
      Exchanged k (chain_of f o r c p).places (chain_of g o' r c p).places × Exchanged k (chain_of f o r c p).skipped (chain_of g o' r c p).skipped
  unfolding chain_of
  same_chain_places o' e r c p =
      subst (λ (q : Opened).
      Exchanged k (chain_of f o r c p).places (chain_of g q r c p).places × Exchanged k (chain_of f o r c p).skipped (chain_of g q r c p).skipped)
      (same_value other o' (eg ∙ sym e)) (moved (λ (q : Opcode). touches q r c p), moved is_skipped)

  same_answers : SameAnswers f o k g
  same_answers =
      record {
        accepted = (other, eg, colours, halves);
        cards = same_card;
        windows = same_window;
        spots = same_spot;
        colour_windows = same_colour_window;
        half_windows = same_half_window;
        chains = same_chain;
        chain_places = same_chain_places;
      }

module _ (f : List ℕ) (o : Opened) (e : is o ≡ opened f) where
  -- ---- frame by frame and sample by sample
  spots :
      (r c p : ℕ) → (spot_call f r c p).number ≡ 0 →
      ((spot_call f r c p).value ≡ developed_in f o r c p) × ((spot_call f r c p).value ≡ alone_in f o r c p)
  spots r c p n =
      let q : spot_call f r c p ≡ spot_of f r c p (is o) = ap (spot_of f r c p) (sym e) in
      rw q (spot_value f o r c p (rw q at n))

  chains :
      (r c p : ℕ) (old : Slices) → (chain_call f r c p old).answer.number ≡ 0 →
      ((chain_call f r c p old).answer.value ≡ developed_in f o r c p) × ((chain_call f r c p old).answer.value ≡ alone_in f o r c p)
  chains r c p old n =
      let q = chain_called f o e r c p old in
      rw q (chain_value f o r c p old (rw q at n))

  windows :
      (t l h w : ℕ) (old : List Float) → (window_call f t l h w old).number ≡ 0 →
      ((window_call f t l h w old).slice ≡ values_of (developed_in f o) t l h w (size_of o.picture).samples)
      × ((window_call f t l h w old).slice ≡ values_of (alone_in f o) t l h w (size_of o.picture).samples)
  windows t l h w old n =
      let z : Size = size_of o.picture in
      let q : window_call f t l h w old ≡ filled_of z z.samples t l h w old (developed_in f o) = ap (window_of f t l h w old) (sym e) in
      let v = filled_values z z.samples t l h w old (developed_in f o) (rw q at n) in
      let s : values_of (developed_in f o) t l h w z.samples ≡ values_of (alone_in f o) t l h w z.samples =
      values_same (developed_in f o) (alone_in f o) t l h w z.samples
      (λ r c p a b i j k. developed_alone f o r c p (record { row = omega (arith, v.0); column = omega (arith, v.1); plane = k })) in
      rw q (v.2, v.2 ∙ s)

  -- the colour of a pixel and of a block
  colour_windows :
      (m : Colour) → is m ≡ run f (colour_for o.picture) → (t l h w : ℕ) (old : List Float) → (colour_window_call f t l h w old).number ≡ 0 →
      ((colour_window_call f t l h w old).slice ≡ values_of (pixel_in m (frame_of f o)) t l h w 3)
      × ((colour_window_call f t l h w old).slice ≡ values_of (pixel_alone f o m) t l h w 3)
  colour_windows m em t l h w old n =
      let z : Size = size_of o.picture in
      let q : colour_window_call f t l h w old ≡ filled_of z 3 t l h w old (pixel_in m (frame_of f o)) =
      ap (colour_window_of f t l h w old) (sym e) ∙ ap (coloured_of f t l h w old o) (sym em) in
      let v = filled_values z 3 t l h w old (pixel_in m (frame_of f o)) (rw q at n) in
      let s : values_of (pixel_in m (frame_of f o)) t l h w 3 ≡ values_of (pixel_alone f o m) t l h w 3 =
      values_same _ _ t l h w 3 (λ r c p a b i j k. pixel_alone_law f o m em r c (omega (arith, v.0)) (omega (arith, v.1)) p) in
      rw q (v.2, v.2 ∙ s)

  half_windows :
      (m : Half) → is m ≡ run f (half_for o.picture) → (t l h w : ℕ) (old : List Float) → (half_window_call f t l h w old).number ≡ 0 →
      ((half_window_call f t l h w old).slice ≡ values_of (block_in m (developed_in f o)) t l h w 3)
      × ((half_window_call f t l h w old).slice ≡ values_of (block_in m (alone_in f o)) t l h w 3)
  half_windows m em t l h w old n =
      let z : Size = blocks_of (size_of o.picture) in
      let q : half_window_call f t l h w old ≡ filled_of z 3 t l h w old (block_in m (developed_in f o)) =
      ap (half_window_of f t l h w old) (sym e) ∙ ap (halved_of f t l h w old o) (sym em) in
      let v = filled_values z 3 t l h w old (block_in m (developed_in f o)) (rw q at n) in
      let s : values_of (block_in m (developed_in f o)) t l h w 3 ≡ values_of (block_in m (alone_in f o)) t l h w 3 =
      values_same _ _ t l h w 3 (λ i j p a b x y k. block_alone f o m em i j (omega (arith, v.0)) (omega (arith, v.1)) p) in
      rw q (v.2, v.2 ∙ s)

  keep_scaled : (r c p : ℕ) → ActiveIn (tags_of o) r c p → Untouched o.opcodes r c p → developed_in f o r c p ≡ scaled_in f o r c p
  keep_scaled r c p a u = developed_alone f o r c p a ∙ untouched o.opcodes r c p (scaled_in f o r c p) u

  -- ---- two neighbours change places
  some_list : (k : ℕ) → suc k < length o.opcodes → 4 ≤ (tags_of o).list.count
  some_list k two = go (eqb (tags_of o).list.count 0) refl
    where
      go : (b : Bool) → eqb (tags_of o).list.count 0 ≡ b → 4 ≤ (tags_of o).list.count
      go true t =
          let q = ap length (value_none f (size_of o.picture) (tags_of o).list.place (tags_of o).list.count o.opcodes
          (eqb-true _ _ t) (open_inverse f o e).list) in
          absurd (omega (arith, q))
      go false t = let z : (tags_of o).list.count ≡ 0 → ⊥ = eqb-false _ _ t in (in_file f o e).list.enough (omega arith)

  swap_two :
      (k : ℕ) → suc k < length o.opcodes → Apart (get_or o.opcodes k skipped) (get_or o.opcodes (suc k) skipped) →
      UnreadButList f o k →
      SameAnswers f o k (swapped_file f ((tags_of o).list.place + 4) k)
  swap_two k two far unread =
      let z : Size = size_of o.picture in
      let s : ℕ = (tags_of o).list.place in
      let n : ℕ = (tags_of o).list.count in
      let g : List ℕ = swapped_file f (s + 4) k in
      let list = (open_inverse f o e).list in
      let inn : s + n ≤ length f = list_inside (length f) (tags_of o).list (in_file f o e).list in
      let some : 4 ≤ n = some_list k two in
      let ends = swapped_inside f z s n some o.opcodes list k two in
      let fits : opcode_start f o (suc (suc k)) ≤ length f = omega (arith, ends.1) in
      let kept : Kept f g (opcode_start f o k) (opcode_start f o (suc (suc k))) =
      record { sized = swapped_length f (s + 4) k fits; same = λ p h. (swapped_unread f (s + 4) k fits p h).0 } in
      let tagless : (i : ℕ) → opcode_start f o k ≤ i → i < opcode_start f o (suc (suc k)) → NotInTags f o i = λ i a b. (unread i a b).0 in
      let other : Opened = record { picture = o.picture; opcodes = swap_at k o.opcodes; stored = o.stored } in
      let frames : frame_of g other ≡ frame_of f o =
      frame_alone g other
      ∙ framed_same z (alone_in g other) (alone_in f o) (λ r c p a b d.
      alone_swapped k o.opcodes far r c p (scaled_in g o r c p)
      ∙ ap (alone o.opcodes r c p)
      (scaled_again f g _ _ kept o r c p (λ i x y. (unread i x y).1 r c p (record { row = a; column = b; plane = d }))))
      ∙ sym (frame_alone f o) in
      same_answers f g o (swap_at k o.opcodes) k e
      (opened_again f g _ _ kept o e tagless (swap_at k o.opcodes) (list_swapped f z s n some o.opcodes list k two inn))
      frames
      (swapped_counts k o.opcodes)
      (colours_again f g _ _ kept o e tagless)
      (halves_again f g _ _ kept o e tagless)
      (λ r c p act. numbers_again f g _ _ kept o r c p (λ i x y. (unread i x y).1 r c p act))
      (λ r c p x. links_swapped k o.opcodes far r c p x)
      (λ t. where_swapped t 0 k o.opcodes)
      (λ t. where_exchanged t k o.opcodes two)

-- ---- all but one sample: what every call answers
module _
    (f g : List ℕ) (o : Opened) (r₀ c₀ p₀ : ℕ) (ef : is o ≡ opened f) (eg : is o ≡ opened g)
    (colours : run g (colour_for o.picture) ≡ run f (colour_for o.picture))
    (halves : run g (half_for o.picture) ≡ run f (half_for o.picture))
    (same : (r c p : ℕ) → ActiveIn (tags_of o) r c p → (IsSample o r₀ c₀ p₀ r c p → ⊥) → developed_in g o r c p ≡ developed_in f o r c p)
    (numbers : (r c p : ℕ) → ActiveIn (tags_of o) r c p → (IsSample o r₀ c₀ p₀ r c p → ⊥) → numbers_in g o r c p ≡ numbers_in f o r c p)
  where
    abbrev area : Size
    area = size_of o.picture

    same_pixels :
        (m : Colour) → is m ≡ run f (colour_for o.picture) → (r c : ℕ) → r < area.rows → c < area.columns → (IsPixel o r₀ c₀ r c → ⊥) →
        (k : ℕ) → pixel_in m (frame_of g o) r c k ≡ pixel_in m (frame_of f o) r c k
    same_pixels m em r c a b off k =
        let three = colour_three f o.picture m em in
        pixel_same m (frame_of g o) (frame_of f o) r c
        (λ p d. same r c p (record { row = a; column = b; plane = omega (arith, three) }) (λ i. off i.0)) k

    window_is : (q : List ℕ) → is o ≡ opened q → (t l h w : ℕ) (old : List Float) →
        window_call q t l h w old ≡ filled_of area area.samples t l h w old (developed_in q o)
    window_is q eq t l h w old = ap (window_of q t l h w old) (sym eq)

    same_windows : (t l h w : ℕ) (old : List Float) → Outside f o r₀ c₀ t l h w → window_call g t l h w old ≡ window_call f t l h w old
    same_windows t l h w old off =
        window_is g eg t l h w old
        ∙ filled_same area area.samples t l h w old (developed_in g o) (developed_in f o)
        (λ x y r c p a b i j d. same r c p (record { row = omega arith; column = omega arith; plane = d }) (λ s. off r c a b i j s.0))
        ∙ sym (window_is f ef t l h w old)

    same_window_numbers :
        (t l h w : ℕ) (old : List Float) →
        ((window_call g t l h w old).number ≡ (window_call f t l h w old).number)
        × ((window_call g t l h w old).detail ≡ (window_call f t l h w old).detail)
    same_window_numbers t l h w old =
        let a = window_is g eg t l h w old in
        let b = window_is f ef t l h w old in
        rw (a, b) (filled_numbers area area.samples t l h w old (developed_in g o) (developed_in f o))

    same_window_places :
        (t l h w : ℕ) (old : List Float) (k : ℕ) (d : Float) →
        let n = area.samples in (IsSample o r₀ c₀ p₀ (slot_row t w n k) (slot_column l w n k) (k % n) → ⊥) →
        get_or (window_call g t l h w old).slice k d ≡ get_or (window_call f t l h w old).slice k d
    same_window_places t l h w old k d off =
        ap (λ (q : Window). get_or q.slice k d) (window_is g eg t l h w old)
        ∙ filled_place area area.samples t l h w old (developed_in g o) (developed_in f o) k d (λ x y i.
        same _ _ _ (record { row = omega (arith, i.row); column = omega (arith, i.column); plane = i.plane }) off)
        ∙ ap (λ (q : Window). get_or q.slice k d) (sym (window_is f ef t l h w old))

    same_spots : (r c p : ℕ) → (IsSample o r₀ c₀ p₀ r c p → ⊥) → spot_call g r c p ≡ spot_call f r c p
    same_spots r c p off =
        ap (spot_of g r c p) (sym eg)
        ∙ spot_same o.picture (developed_in g o r c p) (developed_in f o r c p) r c p (λ a. same r c p a off)
        ∙ ap (spot_of f r c p) ef

    same_chains : (r c p : ℕ) (old : Slices) → (IsSample o r₀ c₀ p₀ r c p → ⊥) → chain_call g r c p old ≡ chain_call f r c p old
    same_chains r c p old off =
        chain_called g o eg r c p old
        ∙ chain_related (λ (x y : Chained). x ≡ y) (λ x. refl) o.picture r c p old _ _
        (λ a. ap (λ (ch : Chain). shown_of ch old) (chain_same g f o r c p (numbers r c p a off) (same r c p a off)))
        ∙ sym (chain_called f o ef r c p old)

    coloured_is : (q : List ℕ) → is o ≡ opened q → (t l h w : ℕ) (old : List Float) →
        colour_window_call q t l h w old ≡ coloured_of q t l h w old o (run q (colour_for o.picture))
    coloured_is q eq t l h w old = ap (colour_window_of q t l h w old) (sym eq)

    same_colour_windows : (t l h w : ℕ) (old : List Float) → Outside f o r₀ c₀ t l h w →
        colour_window_call g t l h w old ≡ colour_window_call f t l h w old
    same_colour_windows t l h w old off =
        coloured_is g eg t l h w old ∙ ap (coloured_of g t l h w old o) colours ∙ go (run f (colour_for o.picture)) refl
        ∙ sym (coloured_is f ef t l h w old)
      where
        go : (x : Out Colour) → x ≡ run f (colour_for o.picture) → coloured_of g t l h w old o x ≡ coloured_of f t l h w old o x
        go (refused n d) q = refl
        go (is m) q =
            filled_same area 3 t l h w old (pixel_in m (frame_of g o)) (pixel_in m (frame_of f o))
            (λ x y r c p a b i j d. same_pixels m q r c (omega arith) (omega arith) (off r c a b i j) p)

    same_colour_numbers :
        (t l h w : ℕ) (old : List Float) →
        ((colour_window_call g t l h w old).number ≡ (colour_window_call f t l h w old).number)
        × ((colour_window_call g t l h w old).detail ≡ (colour_window_call f t l h w old).detail)
    same_colour_numbers t l h w old =
        let a = coloured_is g eg t l h w old ∙ ap (coloured_of g t l h w old o) colours in
        let b = coloured_is f ef t l h w old in
        rw (a, b) (go (run f (colour_for o.picture)))
      where
        go :
            (x : Out Colour) →
            ((coloured_of g t l h w old o x).number ≡ (coloured_of f t l h w old o x).number)
            × ((coloured_of g t l h w old o x).detail ≡ (coloured_of f t l h w old o x).detail)
        go (refused n d) = (refl, refl)
        go (is m) = filled_numbers area 3 t l h w old (pixel_in m (frame_of g o)) (pixel_in m (frame_of f o))

    same_colour_places :
        (t l h w : ℕ) (old : List Float) (k : ℕ) (d : Float) → (IsPixel o r₀ c₀ (slot_row t w 3 k) (slot_column l w 3 k) → ⊥) →
        get_or (colour_window_call g t l h w old).slice k d ≡ get_or (colour_window_call f t l h w old).slice k d
    same_colour_places t l h w old k d off =
        let a = coloured_is g eg t l h w old ∙ ap (coloured_of g t l h w old o) colours in
        let b = coloured_is f ef t l h w old in
        ap (λ (q : Window). get_or q.slice k d) a
        ∙ go (run f (colour_for o.picture)) refl
        ∙ ap (λ (q : Window). get_or q.slice k d) (sym b)
      where
        go : (x : Out Colour) → x ≡ run f (colour_for o.picture) →
            get_or (coloured_of g t l h w old o x).slice k d ≡ get_or (coloured_of f t l h w old o x).slice k d
        go (refused n e) q = refl
        go (is m) q =
            filled_place area 3 t l h w old (pixel_in m (frame_of g o)) (pixel_in m (frame_of f o)) k d (λ x y i.
            same_pixels m q _ _ (omega (arith, i.row)) (omega (arith, i.column)) off (k % 3))

    same_blocks :
        (m : Half) → is m ≡ run f (half_for o.picture) → (i j : ℕ) → i < (blocks_of area).rows → j < (blocks_of area).columns →
        (InBlock o r₀ c₀ i j → ⊥) → (k : ℕ) → block_in m (developed_in g o) i j k ≡ block_in m (developed_in f o) i j k
    same_blocks m em i j a b off k =
        let h = half_inverse f o.picture m em in
        ap (λ (v : Xyz). channel_of v k) (block_same m h.1 (developed_in g o) (developed_in f o) i j i j (λ n hn.
        let er : (2 * i + n / 2) / 2 ≡ i = omega arith in
        let ec : (2 * j + n % 2) / 2 ≡ j = omega arith in
        same _ _ 0 (record { row = omega arith; column = omega arith; plane = omega (arith, h.0) }) (λ s. off (_, _, er, ec, s.0))))

    halved_is :
        (q : List ℕ) → is o ≡ opened q → (t l h w : ℕ) (old : List Float) →
        half_window_call q t l h w old ≡ halved_of q t l h w old o (run q (half_for o.picture))
    halved_is q eq t l h w old = ap (half_window_of q t l h w old) (sym eq)

    same_half_windows : (t l h w : ℕ) (old : List Float) → OutsideBlocks f o r₀ c₀ t l h w →
        half_window_call g t l h w old ≡ half_window_call f t l h w old
    same_half_windows t l h w old off =
        halved_is g eg t l h w old ∙ ap (halved_of g t l h w old o) halves ∙ go (run f (half_for o.picture)) refl
        ∙ sym (halved_is f ef t l h w old)
      where
        go : (x : Out Half) → x ≡ run f (half_for o.picture) → halved_of g t l h w old o x ≡ halved_of f t l h w old o x
        go (refused n d) q = refl
        go (is m) q =
            filled_same (blocks_of area) 3 t l h w old (block_in m (developed_in g o)) (block_in m (developed_in f o))
            (λ x y i j p a b u v d. same_blocks m q i j (omega arith) (omega arith) (off i j a b u v) p)

    same_half_numbers :
        (t l h w : ℕ) (old : List Float) →
        ((half_window_call g t l h w old).number ≡ (half_window_call f t l h w old).number)
        × ((half_window_call g t l h w old).detail ≡ (half_window_call f t l h w old).detail)
    same_half_numbers t l h w old =
        let a = halved_is g eg t l h w old ∙ ap (halved_of g t l h w old o) halves in
        let b = halved_is f ef t l h w old in
        rw (a, b) (go (run f (half_for o.picture)))
      where
        go :
            (x : Out Half) →
            ((halved_of g t l h w old o x).number ≡ (halved_of f t l h w old o x).number)
            × ((halved_of g t l h w old o x).detail ≡ (halved_of f t l h w old o x).detail)
        go (refused n d) = (refl, refl)
        go (is m) = filled_numbers (blocks_of area) 3 t l h w old (block_in m (developed_in g o)) (block_in m (developed_in f o))

    same_half_places :
        (t l h w : ℕ) (old : List Float) (k : ℕ) (d : Float) → (InBlock o r₀ c₀ (slot_row t w 3 k) (slot_column l w 3 k) → ⊥) →
        get_or (half_window_call g t l h w old).slice k d ≡ get_or (half_window_call f t l h w old).slice k d
    same_half_places t l h w old k d off =
        let a = halved_is g eg t l h w old ∙ ap (halved_of g t l h w old o) halves in
        let b = halved_is f ef t l h w old in
        ap (λ (q : Window). get_or q.slice k d) a
        ∙ go (run f (half_for o.picture)) refl
        ∙ ap (λ (q : Window). get_or q.slice k d) (sym b)
      where
        go : (x : Out Half) → x ≡ run f (half_for o.picture) →
            get_or (halved_of g t l h w old o x).slice k d ≡ get_or (halved_of f t l h w old o x).slice k d
        go (refused n e) q = refl
        go (is m) q =
            filled_place (blocks_of area) 3 t l h w old (block_in m (developed_in g o)) (block_in m (developed_in f o)) k d (λ x y i.
            same_blocks m q _ _ (omega (arith, i.row)) (omega (arith, i.column)) off (k % 3))

    same_elsewhere : SameElsewhere f o r₀ c₀ p₀ g
    same_elsewhere =
        record {
          accepted = eg;
          colour_accepted = colours;
          half_accepted = halves;
          cards = ap card_of (sym eg) ∙ ap card_of ef;
          samples = same;
          pixels = same_pixels;
          blocks = same_blocks;
          windows = same_windows;
          window_numbers = same_window_numbers;
          window_places = same_window_places;
          spots = same_spots;
          chains = same_chains;
          colour_windows = same_colour_windows;
          colour_window_numbers = same_colour_numbers;
          colour_window_places = same_colour_places;
          half_windows = same_half_windows;
          half_window_numbers = same_half_numbers;
          half_window_places = same_half_places;
        }

-- ---- one stored sample's bytes change
change_one :
    (f : List ℕ) (o : Opened) → is o ≡ opened f →
    (r c p : ℕ) → r < (tags_of o).frame.length → c < (tags_of o).frame.width → p < (tags_of o).frame.samples →
    (new : List ℕ) → length new ≡ (tags_of o).layout.bytes → UnreadButSample f o r c p →
    SameElsewhere f o r c p (replaced f (stored_place o r c p) new)
change_one f o e r₀ c₀ p₀ hr hc hp new sized unread' =
    let at : ℕ = stored_place o r₀ c₀ p₀ in
    let g : List ℕ = replaced f at new in
    let a = open_inverse f o e in
    let h = in_file f o e in
    let inn : at + (tags_of o).layout.bytes ≤ length f =
    subst (λ (s : Stored). place_of (tags_of o) s.offsets r₀ c₀ p₀ + (tags_of o).layout.bytes ≤ length f) (sym a.stored)
    (place_inside f o.picture.order (tags_of o) h.rows h.strips r₀ c₀ p₀ hr hc hp) in
    let fits : at + length new ≤ length f = omega (arith, sized) in
    let kept : Kept f g at (at + (tags_of o).layout.bytes) =
    record { sized = length_replaced f at new fits; same = λ p h. (unread f at new fits p (λ i x y. h i x (omega (arith, sized)))).0 } in
    let tagless : (i : ℕ) → at ≤ i → i < at + (tags_of o).layout.bytes → NotInTags f o i = λ i x y. (unread' i x y).0 in
    let list : is o.opcodes ≡ run g (opcodes_of o.picture) = a.list
    ∙ sym (kept.same (opcodes_of o.picture) (λ i x y. (unread' i x y).1)) in
    same_elsewhere f g o r₀ c₀ p₀ e
    (opened_again f g _ _ kept o e tagless o.opcodes list)
    (colours_again f g _ _ kept o e tagless)
    (halves_again f g _ _ kept o e tagless)
    (λ r c p act off.
    developed_alone g o r c p act
    ∙ ap (alone o.opcodes r c p) (scaled_again f g _ _ kept o r c p (λ i x y. (unread' i x y).2 r c p act off))
    ∙ sym (developed_alone f o r c p act))
    (λ r c p act off. numbers_again f g _ _ kept o r c p (λ i x y. (unread' i x y).2 r c p act off))

pub meets_demand_3 : (f : List ℕ) → MeetsDemand3 f
meets_demand_3 f o e =
    record {
      spot_values = spots f o e;
      chain_values = chains f o e;
      window_values = windows f o e;
      colour_window_values = colour_windows f o e;
      half_window_values = half_windows f o e;
      keeps = keep_scaled f o e;
      swaps = swap_two f o e;
      changes = change_one f o e;
    }
