-- Chains, where two opcodes have changed places and where one sample has changed.
-- Assumes nothing.
use mathlib.Core.Path.{◌≡◌, refl, sym, ap, ◌∙◌, subst}
use mathlib.Core.Bool.{Bool, true, false}
use mathlib.Core.List.{List, [], ◌∷◌}
use Prim.Native.Nat.{ℕ, zero, suc, ◌+◌, ◌<◌}
use native.Mathlib.Omega.{arith}
use lib.Dec.{eqb}
use lib.Ieee.{Float}
use lib.ListN.{length, get_or}
use borrow.Table.Steps.{cases}
use borrow.Author.Tests.{eqb-true, eqb-false, eq-eqb, ne_eqb}
use Rattle.reading.specs.Bytes.{part}
use Rattle.reading.specs.Number.{number_of}
use Rattle.reading.specs.Reading.{pick}
use Rattle.reading.specs.declared.number.Order.{Order}
use Rattle.reading.proofs.Reading.{pick_yes, pick_no}
use Rattle.directory.specs.Out.{Out.is}
use Rattle.levels.specs.Levels.{level_numbers}
use Rattle.raw.specs.Sample.{cell_of, ActiveIn, sample_numbers}
use Rattle.raw.specs.Stored.{Stored}
use Rattle.raw.specs.declared.front.Picture.{Picture}
use Rattle.rawtags.specs.declared.Tags.{Tags}
use Rattle.opcodes.specs.Opcode.{Opcode, skipped, opcode_at}
use Rattle.opcodes.specs.Frame.{touches, Apart}
use Rattle.opcodes.specs.Swap.{swap_at}
use Rattle.develop.specs.Calls.{Opened, opened, size_of, developed_in, alone_in, within}
use Rattle.develop.proofs.Answers.{developed_alone, within_active}
use Rattle.chain.specs.Links.{link_of, links_of, places_where}
use Rattle.chain.specs.Chain.{Chain, chain_of, Slices, Chained, room_in, refused_chain, shown_of, chain_in, chain_call}
use Rattle.chain.specs.declared.links.Link.{Link}
use Rattle.chain.proofs.LinkLaws.{where_yes, where_no, links_yes, links_no}
use Rattle.chain.proofs.PlaceLaws.{where_names}
use Rattle.chain.proofs.ChainLaws.{numbers_in}
use Rattle.demand.specs.Demand.{exchanged, Exchanged, SameButPlaces}

-- ---- two neighbours in each other's place
pub swapped_long : (k : ℕ) (os : List Opcode) → length (swap_at k os) ≡ length os
swapped_long k [] = refl
swapped_long zero (o ∷ []) = refl
swapped_long zero (o ∷ (q ∷ os)) = refl
swapped_long (suc k) (o ∷ os) = ap suc (swapped_long k os)

module _ (k j : ℕ) where
  exchanged_first : j ≡ k → exchanged k j ≡ suc k
  exchanged_first e = simp (eq-eqb j k e, pick_yes)

  exchanged_second : j ≡ suc k → exchanged k j ≡ k
  exchanged_second e =
      let n : j ≡ k → ⊥ = λ q. omega arith in
      simp (ne_eqb j k n, eq-eqb j (suc k) e, pick_yes, pick_no)

  exchanged_other : (j ≡ k → ⊥) → (j ≡ suc k → ⊥) → exchanged k j ≡ j
  exchanged_other n m = simp (ne_eqb j k n, ne_eqb j (suc k) m, pick_no)

  -- the three of them
  exchanged_cases : (P : ℕ → Type 0) → (j ≡ k → P (suc k)) → (j ≡ suc k → P k) →
      ((j ≡ k → ⊥) → (j ≡ suc k → ⊥) → P j) → P (exchanged k j)
  exchanged_cases P a b d =
      cases (eqb j k)
      (λ t. let e = eqb-true j k t in subst P (sym (exchanged_first e)) (a e))
      (λ t.
      cases (eqb j (suc k))
      (λ u. let e = eqb-true j (suc k) u in subst P (sym (exchanged_second e)) (b e))
      (λ u. let n = eqb-false j k t in let m = eqb-false j (suc k) u in subst P (sym (exchanged_other n m)) (d n m)))

swapped_first : (k : ℕ) (os : List Opcode) → suc k < length os → get_or (swap_at k os) k skipped ≡ get_or os (suc k) skipped
swapped_first k [] h = absurd (omega arith)
swapped_first zero (o ∷ []) h = absurd (omega arith)
swapped_first zero (o ∷ (q ∷ os)) h = refl
swapped_first (suc k) (o ∷ os) h = swapped_first k os (omega arith)

swapped_second : (k : ℕ) (os : List Opcode) → suc k < length os → get_or (swap_at k os) (suc k) skipped ≡ get_or os k skipped
swapped_second k [] h = absurd (omega arith)
swapped_second zero (o ∷ []) h = absurd (omega arith)
swapped_second zero (o ∷ (q ∷ os)) h = refl
swapped_second (suc k) (o ∷ os) h = swapped_second k os (omega arith)

swapped_other : (k j : ℕ) (os : List Opcode) → (j ≡ k → ⊥) → (j ≡ suc k → ⊥) → get_or (swap_at k os) j skipped ≡ get_or os j skipped
swapped_other k j [] n m = refl
swapped_other zero j (o ∷ []) n m = refl
swapped_other zero zero (o ∷ (q ∷ os)) n m = absurd (n refl)
swapped_other zero (suc zero) (o ∷ (q ∷ os)) n m = absurd (m refl)
swapped_other zero (suc (suc j)) (o ∷ (q ∷ os)) n m = refl
swapped_other (suc k) zero (o ∷ os) n m = refl
swapped_other (suc k) (suc j) (o ∷ os) n m = swapped_other k j os (λ e. n (ap suc e)) (λ e. m (ap suc e))

-- the opcode at a place is the one of the place before the exchange, and as much of the list is there
swapped_at : (k j : ℕ) (os : List Opcode) → suc k < length os → get_or (swap_at k os) j skipped ≡ get_or os (exchanged k j) skipped
swapped_at k j os h =
    exchanged_cases k j (λ (n : ℕ). get_or (swap_at k os) j skipped ≡ get_or os n skipped)
    (λ e. ap (λ (n : ℕ). get_or (swap_at k os) n skipped) e ∙ swapped_first k os h)
    (λ e. ap (λ (n : ℕ). get_or (swap_at k os) n skipped) e ∙ swapped_second k os h)
    (λ n m. swapped_other k j os n m)

exchanged_below : (k j len : ℕ) → suc k < len → (j < len → exchanged k j < len) × (exchanged k j < len → j < len)
exchanged_below k j len h =
    exchanged_cases k j (λ (n : ℕ). (j < len → n < len) × (n < len → j < len))
    (λ e. (λ q. omega arith, λ q. omega arith)) (λ e. (λ q. omega arith, λ q. omega arith)) (λ n m. (λ q. q, λ q. q))

pub where_exchanged : (t : Opcode → Bool) (k : ℕ) (os : List Opcode) → suc k < length os →
    Exchanged k (places_where t 0 os) (places_where t 0 (swap_at k os))
where_exchanged t k os h j =
    let a = where_names t os in
    let b = where_names t (swap_at k os) in
    let l = swapped_long k os in
    let e = swapped_at k j os h in
    let w = exchanged_below k j (length os) h in (
      λ q. let n = b.only j q in a.all (exchanged k j) (w.0 (omega (arith, n.0))) (sym (ap t e) ∙ n.1),
      λ q. let n = a.only (exchanged k j) q in b.all j (let i = w.1 n.0 in omega (arith, i, l)) (ap t e ∙ n.1),
    )

-- as many places, and the same links
pub where_swapped : (t : Opcode → Bool) (i k : ℕ) (os : List Opcode) → length (places_where t i (swap_at k os)) ≡ length (places_where t i os)
where_swapped t i k [] = refl
where_swapped t i zero (o ∷ []) = refl
where_swapped t i zero (o ∷ (q ∷ os)) =
    cases (t o)
    (λ a.
    cases (t q)
    (λ b. rw (where_yes t i q (o ∷ os) b, where_yes t (i + 1) o os a, where_yes t i o (q ∷ os) a, where_yes t (i + 1) q os b) refl)
    (λ b. rw (where_no t i q (o ∷ os) b, where_yes t (i + 1) o os a, where_yes t i o (q ∷ os) a, where_no t (i + 1) q os b) refl))
    (λ a.
    cases (t q)
    (λ b. rw (where_yes t i q (o ∷ os) b, where_no t (i + 1) o os a, where_no t i o (q ∷ os) a, where_yes t (i + 1) q os b) refl)
    (λ b. rw (where_no t i q (o ∷ os) b, where_no t (i + 1) o os a, where_no t i o (q ∷ os) a, where_no t (i + 1) q os b) refl))
where_swapped t i (suc k) (o ∷ os) =
    cases (t o)
    (λ a. rw (where_yes t i o (swap_at k os) a, where_yes t i o os a) (ap suc (where_swapped t (i + 1) k os)))
    (λ a. rw (where_no t i o (swap_at k os) a, where_no t i o os a) (where_swapped t (i + 1) k os))

pub links_swapped : (k : ℕ) (os : List Opcode) → Apart (get_or os k skipped) (get_or os (suc k) skipped) → (r c p : ℕ) (x : Float) →
    links_of (swap_at k os) r c p x ≡ links_of os r c p x
links_swapped k [] d r c p x = refl
links_swapped zero (o ∷ []) d r c p x = refl
links_swapped zero (o ∷ (q ∷ os)) d r c p x =
    cases (touches o r c p)
    (λ a.
    let b = d r c p a in
    let y = opcode_at o r c p x in
    links_no q (o ∷ os) r c p x b ∙ links_yes o os r c p x a
    ∙ sym (links_yes o (q ∷ os) r c p x a ∙ ap (λ (l : List Link). link_of o r c p x ∷ l) (links_no q os r c p y b)))
    (λ a.
    cases (touches q r c p)
    (λ b.
    let y = opcode_at q r c p x in
    links_yes q (o ∷ os) r c p x b ∙ ap (λ (l : List Link). link_of q r c p x ∷ l) (links_no o os r c p y a)
    ∙ sym (links_no o (q ∷ os) r c p x a ∙ links_yes q os r c p x b))
    (λ b. links_no q (o ∷ os) r c p x b ∙ links_no o os r c p x a ∙ sym (links_no o (q ∷ os) r c p x a ∙ links_no q os r c p x b)))
links_swapped (suc k) (o ∷ os) d r c p x =
    cases (touches o r c p)
    (λ a.
    let y = opcode_at o r c p x in
    links_yes o (swap_at k os) r c p x a ∙ ap (λ (l : List Link). link_of o r c p x ∷ l) (links_swapped k os d r c p y)
    ∙ sym (links_yes o os r c p x a))
    (λ a. links_no o (swap_at k os) r c p x a ∙ links_swapped k os d r c p x ∙ sym (links_no o os r c p x a))

-- ---- the numbers behind a level, of a sample whose bytes are kept
pub numbers_same :
    (g f : List ℕ) (o : Order) (t : Tags) (s : Stored) (r c p : ℕ) →
    part g (cell_of t s.offsets r c p).start (cell_of t s.offsets r c p).count
    ≡ part f (cell_of t s.offsets r c p).start (cell_of t s.offsets r c p).count →
    sample_numbers g o t s r c p ≡ sample_numbers f o t s r c p
unfolding sample_numbers
numbers_same g f o t s r c p e = ap (λ (bs : List ℕ). level_numbers s.levels r c p (number_of o bs)) e

-- ---- the call on an accepted file
abbrev pub chain_at : Bool → Slices → Chained → Chained
chain_at b s x = pick b (pick (room_in s) x (refused_chain 14 0 s)) (refused_chain 13 0 s)

-- what holds of the answers inside the active area, and of any answer with itself, holds of the calls
pub chain_related :
    (P : Chained → Chained → Type 0) → ((x : Chained) → P x x) → (q : Picture) (r c p : ℕ) (s : Slices) (x y : Chained) →
    (ActiveIn q.raw.tags r c p → P x y) → P (chain_at (within (size_of q) r c p) s x) (chain_at (within (size_of q) r c p) s y)
unfolding pick
chain_related P same q r c p s x y h = go (within (size_of q) r c p) (room_in s) refl
  where
    go : (b d : Bool) → within (size_of q) r c p ≡ b →
        P (pick b (pick d x (refused_chain 14 0 s)) (refused_chain 13 0 s)) (pick b (pick d y (refused_chain 14 0 s)) (refused_chain 13 0 s))
    go true true t = h (within_active q r c p t)
    go true false t = same _
    go false d t = same _

pub same_itself : (x : Chained) → SameButPlaces x x
same_itself x = (refl, refl, refl, refl)

pub chain_called : (f : List ℕ) (o : Opened) → is o ≡ opened f → (r c p : ℕ) (s : Slices) →
    chain_call f r c p s ≡ chain_at (within (size_of o.picture) r c p) s (shown_of (chain_of f o r c p) s)
chain_called f o e r c p s = ap (chain_in f r c p s) (sym e)

-- with other places in it
pub shown_but_places :
    (a b : Chain) (s : Slices) → a.levels ≡ b.levels → a.value ≡ b.value → a.links ≡ b.links →
    length a.places ≡ length b.places → length a.skipped ≡ length b.skipped → SameButPlaces (shown_of a s) (shown_of b s)
shown_but_places a b s n v l i j = rw (n, v, l, i, j) (refl, refl, refl, refl)

-- where the numbers and the developed value stay, the whole chain stays
pub chain_same : (g f : List ℕ) (o : Opened) (r c p : ℕ) → numbers_in g o r c p ≡ numbers_in f o r c p →
    developed_in g o r c p ≡ developed_in f o r c p → chain_of g o r c p ≡ chain_of f o r c p
unfolding chain_of
chain_same g f o r c p n v = rw (n, v) refl

-- the value of an answer
pub chain_value :
    (f : List ℕ) (o : Opened) (r c p : ℕ) (s : Slices) →
    (chain_at (within (size_of o.picture) r c p) s (shown_of (chain_of f o r c p) s)).answer.number ≡ 0 →
    let v = (chain_at (within (size_of o.picture) r c p) s (shown_of (chain_of f o r c p) s)).answer.value in
    (v ≡ developed_in f o r c p) × (v ≡ alone_in f o r c p)
unfolding pick chain_of
chain_value f o r c p s = go (within (size_of o.picture) r c p) (room_in s) refl
  where
    go : (b d : Bool) → within (size_of o.picture) r c p ≡ b →
        (pick b (pick d (shown_of (chain_of f o r c p) s) (refused_chain 14 0 s)) (refused_chain 13 0 s)).answer.number ≡ 0 →
        let v = (pick b (pick d (shown_of (chain_of f o r c p) s) (refused_chain 14 0 s)) (refused_chain 13 0 s)).answer.value in
        (v ≡ developed_in f o r c p) × (v ≡ alone_in f o r c p)
    go true true t n = (refl, developed_alone f o r c p (within_active o.picture r c p t))
    go true false t n = absurd (omega arith)
    go false d t n = absurd (omega arith)
