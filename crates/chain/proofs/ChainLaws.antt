-- The chain of an accepted file, from what the code holds of it, and the request's sentences about it.
-- Assumes nothing.
use mathlib.Core.Path.{◌≡◌, refl, sym, ap, ◌∙◌, subst}
use mathlib.Core.Bool.{true, false}
use mathlib.Core.List.{List}
use Prim.Native.Nat.{ℕ, ◌+◌, ◌-◌, ◌≤◌, ◌<◌}
use native.Mathlib.Omega.{arith}
use lib.Dec.{eqb, leb}
use lib.ListN.{length, get_or}
use borrow.Author.Tests.{eqb-true, eqb-false, leb-true}
use borrow.Table.Steps.{cases}
use Rattle.reading.specs.Bytes.{part}
use Rattle.reading.specs.Number.{number_of}
use Rattle.reading.specs.declared.number.Order.{Order}
use Rattle.reading.specs.declared.number.Order.TheVariants.{Big}
use Rattle.reading.specs.Reading.{run}
use Rattle.reading.proofs.Reading.{pick_yes, pick_no}
use Rattle.directory.specs.Out.{Out, Out.refused, Out.is}
use Rattle.directory.proofs.Refusals.{either}
use Rattle.directory.specs.declared.tag.Values.{Values}
use Rattle.levels.specs.Level.{scaled_of}
use Rattle.levels.specs.Levels.{black_for, span_of, level_at, level_numbers}
use Rattle.levels.specs.declared.LevelNumbers.{LevelNumbers}
use Rattle.levels.proofs.Rounding.{level_most}
use Rattle.levels.proofs.Unit.{unit}
use Rattle.levels.proofs.UnitRange.{scaled_unit}
use Rattle.raw.specs.Sample.{ActiveIn, scaled_sample, sample_numbers}
use Rattle.raw.specs.Stored.{Stored, stored_reading}
use Rattle.rawtags.specs.declared.Tags.{Tags}
use Rattle.opcodes.specs.Opcode.{Opcode, skipped}
use Rattle.opcodes.specs.OpcodeList.{list_reading, start_of}
use Rattle.opcodes.specs.Frame.{touches, alone}
use Rattle.opcodes.specs.declared.grid.Size.{Size}
use Rattle.opcodes.proofs.OpcodeLists.{and-true}
use Rattle.opcodes.proofs.Listing.{head_at, list_length, value_none, value_inverse}
use Rattle.rows.specs.Facts.Part.{SizedIn}
use Rattle.develop.specs.Calls.{Opened, opened, size_of, tags_of, scaled_in, developed_in, within, spot_of, spot_call}
use Rattle.develop.specs.Facts.View.{Viewed}
use Rattle.develop.specs.declared.View.{View}
use Rattle.develop.proofs.Views.{open_inverse}
use Rattle.develop.proofs.Answers.{developed_alone, active_within}
use Rattle.develop.proofs.Called.{within_is}
use Rattle.std.specs.Prelude.{Ok}
use Rattle.chain.specs.Links.{opcode_id, is_skipped}
use Rattle.chain.specs.Chain.{chain_of, Slices, slices, Chained, chained_with, room_for, room_in, refused_chain}
use Rattle.chain.specs.Chain.{id_of, after_of, shown_of, chain_in, chain_call}
use Rattle.chain.specs.Explained.{Explains, Explained}
use Rattle.chain.specs.Facts.Links.{OpcodesIn, OpcodesOf, Covered, covered_of, Marked, skipped_of}
use Rattle.chain.specs.declared.links.Opcodes.{Opcodes}
use Rattle.chain.proofs.LinkLaws.{where_few, links_length}
use Rattle.chain.proofs.PlaceLaws.{where_names, link_of_law, links_first, links_next, links_last, list_id}

-- ---- an opcode's id, from the list that was read
pub stored_id :
    (r c p : ℕ) (f : List ℕ) (z : Size) (v : Values) (os : List Opcode) → is os ≡ run f (list_reading z v.place v.count) →
    (k : ℕ) → k < length os → touches (get_or os k skipped) r c p ≡ true →
    opcode_id (get_or os k skipped) ≡ (head_at f (start_of f (v.place + 4) k)).id
stored_id r c p f z v os e k h t =
    cases (eqb v.count 0)
    (λ n. absurd (let q = ap length (value_none f z v.place v.count os (eqb-true _ 0 n) e) in omega (arith, q)))
    (λ n.
    let m = number_of Big (part f v.place 4) in
    let q = value_inverse f z v.place v.count (eqb-false _ 0 n) m refl os e in
    list_id r c p f z k m 0 (v.place + 4) (v.count - 4) os q.1 h t)

-- ---- the numbers behind a level
pub numbers_unit : (f : List ℕ) (o : Order) (t : Tags) (s : Stored) (r c p : ℕ) → unit (scaled_of (sample_numbers f o t s r c p).level)
unfolding sample_numbers level_numbers level_at
numbers_unit f o t s r c p = scaled_unit _ (level_most _ _)

module _ (f : List ℕ) (o : Opened) (r c p : ℕ) where
  abbrev pub numbers_in : LevelNumbers
  numbers_in = sample_numbers f o.picture.order (tags_of o) o.stored r c p

  pub scaled_from_law : scaled_in f o r c p ≡ scaled_of numbers_in.level
  unfolding scaled_sample sample_numbers level_numbers
  scaled_from_law = refl

  module _ (a : ActiveIn (tags_of o) r c p) where
    value_is : alone o.opcodes r c p (scaled_of numbers_in.level) ≡ developed_in f o r c p
    value_is = sym (developed_alone f o r c p a ∙ ap (alone o.opcodes r c p) scaled_from_law)

    -- ---- the answer, from the numbers and what the loops leave
    pub chain_is :
        (w : Covered) (m : Marked) (s : Slices) →
        w ≡ covered_of o.opcodes r c p (scaled_of numbers_in.level) s.places s.ids s.before s.after →
        m ≡ skipped_of o.opcodes s.skipped →
        chained_with (Ok (record { value = w.value; levels = numbers_in; covering = w.count; skipped = m.count }))
        (slices w.places w.ids w.before w.after m.slice)
        ≡ shown_of (chain_of f o r c p) s
    unfolding chain_of covered_of skipped_of
    chain_is w m s ew em = rw (ew, em, value_is) refl

    -- ---- the request's sentences
    spot_is : is o ≡ opened f → developed_in f o r c p ≡ (spot_call f r c p).value
    spot_is e =
        let t = active_within o.picture r c p a in
        let q : spot_of f r c p (is o) ≡ record { number = 0; detail = 0; value = developed_in f o r c p } = simp (t, pick_yes) in
        sym (ap (λ x. x.value) (ap (spot_of f r c p) (sym e) ∙ q))

    pub explains : is o ≡ opened f → Explains f o r c p (chain_of f o r c p)
    unfolding chain_of sample_numbers level_numbers black_for level_at span_of
    explains e =
        let x = scaled_of numbers_in.level in
        let os = o.opcodes in
        record {
          stored = refl;
          numbers = refl;
          black = refl;
          level = refl;
          scaled = scaled_from_law;
          first = λ d h. links_first r c p os x d h;
          next = λ j d h. links_next r c p os x d j h;
          follows = λ j d h. ap after_of (link_of_law r c p os x d j h).link;
          names = where_names (λ (q : Opcode). touches q r c p) os;
          as_many = links_length os 0 r c p x;
          ids = λ j d h.
              let l = link_of_law r c p os x d j h in
              ap id_of l.link ∙ stored_id r c p f (size_of o.picture) (tags_of o).list os (open_inverse f o e).list _ l.below l.covered;
          last = links_last r c p os x ∙ value_is ∙ spot_is e;
          value = spot_is e;
          skips = where_names is_skipped os;
        }

pub explained : (f : List ℕ) (r c p : ℕ) → Explained f r c p
explained f r c p o e a = explains f o r c p a e

-- ---- the five slices
pub room_told : (a b c d e : ℕ) → room_for a b c d e ≡ true → (32 ≤ a) × (32 ≤ b) × (32 ≤ c) × (32 ≤ d) × (32 ≤ e)
room_told a b c d e h =
    let t = and-true (leb 32 a) _ h in
    let u = and-true (leb 32 b) _ t.1 in
    let v = and-true (leb 32 c) _ u.1 in
    let w = and-true (leb 32 d) _ v.1 in
    (leb-true 32 a t.0, leb-true 32 b u.0, leb-true 32 c v.0, leb-true 32 d w.0, leb-true 32 e w.1)

-- ---- of an accepted file
-- the opcodes of its list
pub opcodes_in : (f : List ℕ) (z : Size) (v : Values) (q : Opcodes) (os : List Opcode) → OpcodesOf f z v q →
    is os ≡ run f (list_reading z v.place v.count) → SizedIn z → OpcodesIn f q
opcodes_in f z v q os h e w =
    record {
      read = record { opcodes = os; read = h.read os e; inside = h.inside };
      few = h.few;
      sized = subst SizedIn (sym h.size) w;
    }

module _ (f : List ℕ) (v : View) (q : Viewed f v) (r c p : ℕ) where
  pub viewed_numbers :
      sample_numbers f v.picture.order v.picture.raw.tags (run f (stored_reading v.picture.order v.picture.raw.tags)) r c p
      ≡ numbers_in f q.file r c p
  viewed_numbers = rw (q.picture, q.stored) refl

  -- 13, 14, and the chain
  module _ (s : Slices) where
    called : chain_in f r c p s (is q.file) ≡ chain_call f r c p s
    called = ap (chain_in f r c p s) q.accepted

    pub chain_outside : within v.size r c p ≡ false → refused_chain 13 0 s ≡ chain_call f r c p s
    chain_outside t = sym (simp (within_is f v q r c p, t, pick_no)) ∙ called

    pub chain_short : within v.size r c p ≡ true → room_in s ≡ false → refused_chain 14 0 s ≡ chain_call f r c p s
    chain_short t k = sym (simp (within_is f v q r c p, t, k, pick_yes, pick_no)) ∙ called

    pub chain_shown : within v.size r c p ≡ true → room_in s ≡ true → shown_of (chain_of f q.file r c p) s ≡ chain_call f r c p s
    chain_shown t k = sym (simp (within_is f v q r c p, t, k, pick_yes)) ∙ called

-- ---- no more than 32 opcodes cover a spot or are skipped
list_few : (f : List ℕ) (z : Size) (v : Values) (os : List Opcode) → is os ≡ run f (list_reading z v.place v.count) → length os ≤ 32
list_few f z v os e =
    cases (eqb v.count 0)
    (λ n. let q = ap length (value_none f z v.place v.count os (eqb-true _ 0 n) e) in omega (arith, q))
    (λ n.
    let q = value_inverse f z v.place v.count (eqb-false _ 0 n) (number_of Big (part f v.place 4)) refl os e in
    omega (arith, q.0, list_length f z (number_of Big (part f v.place 4)) 0 (v.place + 4) (v.count - 4) os q.1))

abbrev Few : Chained → Type 0
Few x = (x.answer.covering ≤ 32) × (x.answer.skipped ≤ 32)

pub chain_few : (f : List ℕ) (r c p : ℕ) (s : Slices) → ((chain_call f r c p s).answer.covering ≤ 32) × ((chain_call f r c p s).answer.skipped ≤ 32)
unfolding chain_of
chain_few f r c p s = go (opened f) refl
  where
    go : (x : Out Opened) → x ≡ opened f → Few (chain_in f r c p s x)
    go (refused n d) e = (omega arith, omega arith)
    go (is o) e =
        let l = list_few f (size_of o.picture) (tags_of o).list o.opcodes (open_inverse f o e).list in
        let a = where_few (λ (q : Opcode). touches q r c p) 0 o.opcodes in
        let b = where_few is_skipped 0 o.opcodes in
        either Few _ _ _ (either Few _ _ _ (omega arith, omega arith) (omega arith, omega arith)) (omega arith, omega arith)
