-- Two neighbouring opcodes change places in the file: the list stays accepted, with the two in the other order.
-- Assumes nothing.
use Rattle.std.proofs.Common.{◌≡◌, ℕ, zero, suc, ◌+◌, ◌-◌, ◌<◌, ◌≤◌, Bool, true, false, ◌⊎◌, List, [], ◌∷◌, ◌++◌, length, get_or, take, drop, sym}
use Rattle.std.proofs.Common.{refl, ap, ◌∙◌, inl, inr, append_assoc, arith, length-append, length-take-le, take-take, drop-drop, take_at, drop_at}
use mathlib.Core.Path.{fun_ext}
use lib.Ieee.{Float}
use Rattle.reading.specs.Bytes.{part, replaced}
use Rattle.reading.specs.Number.{number_of}
use Rattle.reading.specs.Reading.{Reading, run, trace, pick, reads}
use Rattle.reading.specs.declared.number.Order.TheVariants.{Big}
use Rattle.reading.proofs.Bytes.{part_part, part_same, length_part, length_replaced, replaced_before, replaced_after}
use Rattle.reading.proofs.Reading.{unread}
use Rattle.directory.specs.Out.{Out, Out.refused, Out.is}
use Rattle.directory.proofs.Outs.{not_refused}
use Rattle.opcodes.specs.Opcode.{Opcode, skipped, kept, opcode_at}
use Rattle.opcodes.specs.Frame.{framed, through, alone, Apart}
use Rattle.opcodes.specs.OpcodeList.{header_of, class_of, parameters_of, opcode_reading, list_from, list_reading, kept_in, skipped_in}
use Rattle.opcodes.specs.OpcodeList.{start_of}
use Rattle.opcodes.specs.Swap.{exchange, swapped_file, swap_at}
use Rattle.opcodes.specs.declared.grid.Size.{Size}
use Rattle.opcodes.specs.declared.list.Header.{Header}
use Rattle.opcodes.specs.declared.list.Class.{Class}
use Rattle.opcodes.specs.declared.list.Class.TheVariants as class
use Rattle.opcodes.proofs.Frames.{through_framed, swap_at_law}
use Rattle.opcodes.proofs.Listing.{head_at, whole_at, start_above, start_next, carried_run, optional_run, compulsory_run, list_inverse}
use Rattle.opcodes.proofs.Listing.{list_of, list_length, start_inside, value_some, value_inverse}
use Rattle.opcodes.proofs.Unread.{list_below}

-- ---- the file with the k-th opcode and the next one exchanged
module _ (f : List ℕ) (at k : ℕ) (fits : start_of f at (suc (suc k)) ≤ length f) where
  abbrev a : ℕ
  a = start_of f at k

  abbrev b : ℕ
  b = start_of f at (suc k)

  abbrev c : ℕ
  c = start_of f at (suc (suc k))

  one : length (part f a (b - a)) ≡ b - a
  one = length_part f a (b - a) (omega (arith, start_next f at k, start_next f at (suc k)))

  next : length (part f b (c - b)) ≡ c - b
  next = length_part f b (c - b) (omega (arith, start_next f at (suc k)))

  abbrev new : List ℕ
  new = part f b (c - b) ++ part f a (b - a)

  new_length : a + length new ≡ c
  new_length = omega (arith, length-append (part f b (c - b)) (part f a (b - a)), one, next, start_next f at k, start_next f at (suc k))

  new_fits : a + length new ≤ length f
  new_fits = omega (arith, new_length)

  swapped_replaced : swapped_file f at k ≡ replaced f a new
  unfolding exchange
  swapped_replaced =
      ap (λ (r : List ℕ). take a f ++ r)
      (sym (append_assoc (part f b (c - b)) (part f a (b - a)) (drop c f)) ∙ ap (λ (n : ℕ). new ++ drop n f) (sym new_length))

  behind : drop a (swapped_file f at k) ≡ part f b (c - b) ++ (part f a (b - a) ++ drop c f)
  unfolding exchange
  behind = drop_at (take a f) _ a (length-take-le a f (omega (arith, new_length)))

  swapped_first : part (swapped_file f at k) a (c - b) ≡ part f b (c - b)
  swapped_first = ap (take (c - b)) behind ∙ take_at (part f b (c - b)) _ (c - b) next

  swapped_second : part (swapped_file f at k) (a + (c - b)) (b - a) ≡ part f a (b - a)
  swapped_second =
      ap (take (b - a)) (sym (drop-drop (c - b) a (swapped_file f at k)) ∙ ap (drop (c - b)) behind
      ∙ drop_at (part f b (c - b)) _ (c - b) next)
      ∙ take_at (part f a (b - a)) _ (b - a) one

  pub swapped_length : length (swapped_file f at k) ≡ length f
  swapped_length = ap length swapped_replaced ∙ length_replaced f a new new_fits

  -- every byte before the two and behind them stays
  pub swapped_outside : (i : ℕ) → (i < a) ⊎ (c ≤ i) → get_or (swapped_file f at k) i 0 ≡ get_or f i 0
  swapped_outside i (inl h) = ap (λ (g : List ℕ). get_or g i 0) swapped_replaced ∙ replaced_before f a new new_fits i h
  swapped_outside i (inr h) = ap (λ (g : List ℕ). get_or g i 0) swapped_replaced
      ∙ replaced_after f a new new_fits i (omega (arith, new_length))

  -- where their bytes are not read: the same answer, and the same is read
  pub swapped_unread : {A : Type 0} (p : Reading A) → ((i : ℕ) → a ≤ i → i < c → reads (trace f p) i ≡ false) →
      (run (swapped_file f at k) p ≡ run f p) × (trace (swapped_file f at k) p ≡ trace f p)
  swapped_unread p h =
      let u = unread f a new new_fits p (λ i l m. h i l (omega (arith, new_length))) in
      (ap (λ (g : List ℕ). run g p) swapped_replaced ∙ u.0, ap (λ (g : List ℕ). trace g p) swapped_replaced ∙ u.1)

-- ---- an accepted opcode is the same one at another place of the list
accepted : {A : Type 0} (a : A) (b : Bool) (x : Out A) (n d d' : ℕ) → is a ≡ pick b x (refused n d) → is a ≡ pick b x (refused n d')
unfolding pick
accepted a true x n d d' e = e
accepted a false x n d d' e = absurd (not_refused a n d e)

module _ (z : Size) (i i' : ℕ) (o : Opcode) where
  parameters_moved : (id : ℕ) (ps : List ℕ) → is o ≡ parameters_of z i id ps → is o ≡ parameters_of z i' id ps
  unfolding parameters_of
  parameters_moved id ps e = accepted o _ _ _ i i' e

  module _ (g f : List ℕ) (at at' : ℕ) where
    opcode_moved : (c : Class) (h : Header) → part g (at' + 16) h.length ≡ part f (at + 16) h.length →
        is o ≡ run f (opcode_reading c z i at h) → is o ≡ run g (opcode_reading c z i' at' h)
    opcode_moved class.Carried h s e = parameters_moved h.id _ (e ∙ carried_run f z i at h) ∙ ap (parameters_of z i' h.id) (sym s)
        ∙ sym (carried_run g z i' at' h)
    opcode_moved class.Optional h s e = e ∙ optional_run f z i at h ∙ sym (optional_run g z i' at' h)
    opcode_moved class.Compulsory h s e = absurd (not_refused o 11 i (e ∙ compulsory_run f z i at h))

    -- the same bytes in front of a list
    list_moved :
        (k n : ℕ) (os : List Opcode) → whole_at f at ≤ n → part g at' (whole_at f at) ≡ part f at (whole_at f at) →
        is o ≡ run f (opcode_reading (class_of (head_at f at)) z i at (head_at f at)) →
        is os ≡ run g (list_from z k (i' + 1) (at' + whole_at f at) (n - whole_at f at)) → is (o ∷ os) ≡ run g (list_from z (suc k) i' at' n)
    list_moved k n os l s e r =
        let w : ℕ = whole_at f at in
        let p : part g (at' + 16) (head_at f at).length ≡ part f (at + 16) (head_at f at).length =
        sym (part_part g at' w 16 (head_at f at).length (omega arith)) ∙ ap (λ (bs : List ℕ). part bs 16 (head_at f at).length) s
        ∙ part_part f at w 16 (head_at f at).length (omega arith) in
        let h : head_at g at' ≡ head_at f at = ap header_of
        (sym (take-take 16 w (drop at' g) (omega arith)) ∙ ap (take 16) s ∙ take-take 16 w (drop at f) (omega arith)) in
        list_of g z k i' at' n o os (rw h l) (rw h (opcode_moved (class_of (head_at f at)) (head_at f at) p e)) (rw h r)

-- ---- the list
pub swap_from :
    (f : List ℕ) (z : Size) (k m i at n : ℕ) (os : List Opcode) → at + n ≤ length f → is os ≡ run f (list_from z m i at n) → suc k < m →
    is (swap_at k os) ≡ run (swapped_file f at k) (list_from z m i at n)
swap_from f z k zero i at n os l e s = absurd (omega arith)
swap_from f z zero (suc zero) i at n os l e s = absurd (omega arith)
swap_from f z zero (suc (suc m)) i at n os l e s =
    let w : ℕ = whole_at f at in
    let v : ℕ = whole_at f (at + w) in
    let g : List ℕ = swapped_file f at 0 in
    let x = list_inverse f z (suc m) i at n os e in
    let y = list_inverse f z m (i + 1) (at + w) (n - w) x.others x.others_are in
    let fits : at + w + v ≤ length f = omega (arith, x.fits, y.fits) in
    let two : os ≡ x.first ∷ (y.first ∷ y.others) = x.all ∙ ap {B = List Opcode} (λ r. x.first ∷ r) y.all in
    let vs : at + w + v - (at + w) ≡ v = omega arith in
    let ws : at + w - at ≡ w = omega arith in
    let p : part g at v ≡ part f (at + w) v = rw vs at (swapped_first f at 0 fits) in
    let q : part g (at + v) w ≡ part f at w = rw (vs, ws) at (swapped_second f at 0 fits) in
    let r : run g (list_from z m (i + 1 + 1) (at + w + v) (n - w - v)) ≡ run f (list_from z m (i + 1 + 1) (at + w + v) (n - w - v)) =
    (swapped_unread f at 0 fits _ (λ j _ h. list_below f j z m (i + 1 + 1) (at + w + v) (n - w - v) h)).0 in
    let c : at + w + v ≡ at + v + w = omega arith in
    let d : n - w - v ≡ n - v - w = omega arith in
    let t : is y.others ≡ run g (list_from z m (i + 1 + 1) (at + v + w) (n - v - w)) = y.others_are ∙ sym r
    ∙ ap (λ (j : ℕ). run g (list_from z m (i + 1 + 1) j (n - w - v))) c
    ∙ ap (λ (j : ℕ). run g (list_from z m (i + 1 + 1) (at + v + w) j)) d in
    ap (λ (l : List Opcode). is (swap_at 0 l)) two
    ∙ list_moved z (i + 1) i y.first g f (at + w) at (suc m) n _ (omega (arith, y.fits)) p y.first_is
    (list_moved z i (i + 1) x.first g f at (at + v) m (n - v) _ (omega (arith, x.fits, y.fits)) q x.first_is t)
swap_from f z (suc k) (suc m) i at n os l e s =
    let w : ℕ = whole_at f at in
    let x = list_inverse f z m i at n os e in
    let fits : start_of f (at + w) (suc (suc k)) ≤ length f = omega
    (arith, x.fits, start_inside f z (suc (suc k)) m (i + 1) (at + w) (n - w) x.others x.others_are (omega arith)) in
    let p : part (swapped_file f (at + w) k) at w ≡ part f at w =
    part_same _ f at w (swapped_length f (at + w) k fits)
    (λ j _ h. swapped_outside f (at + w) k fits j (inl (omega (arith, start_above f (at + w) k)))) in
    ap (λ (l : List Opcode). is (swap_at (suc k) l)) x.all
    ∙ list_moved z i i x.first (swapped_file f (at + w) k) f at at m n _ x.fits p x.first_is
    (swap_from f z k m (i + 1) (at + w) (n - w) x.others (omega (arith, x.fits)) x.others_are (omega arith))

-- the value of OpcodeList2, accepted
module _ (f : List ℕ) (z : Size) (s n : ℕ) (some : 4 ≤ n) (os : List Opcode) (e : is os ≡ run f (list_reading z s n)) (k : ℕ)
    (h : suc k < length os) where
  abbrev count : ℕ
  count = number_of Big (part f s 4)

  list : (count ≤ 32) × (is os ≡ run f (list_from z count 0 (s + 4) (n - 4)))
  list = value_inverse f z s n (λ q. omega arith) count refl os e

  enough : suc k < count
  enough = omega (arith, list_length f z count 0 (s + 4) (n - 4) os list.1)

  pub swapped_inside : (s + 4 ≤ start_of f (s + 4) k) × (start_of f (s + 4) (suc (suc k)) ≤ s + n)
  swapped_inside =
      (start_above f (s + 4) k, omega (arith, start_inside f z (suc (suc k)) count 0 (s + 4) (n - 4) os list.1 (omega (arith, enough))))

  pub list_swapped : s + n ≤ length f → is (swap_at k os) ≡ run (swapped_file f (s + 4) k) (list_reading z s n)
  list_swapped l =
      let g : List ℕ = swapped_file f (s + 4) k in
      let fits : start_of f (s + 4) (suc (suc k)) ≤ length f = omega (arith, swapped_inside.1) in
      let c : part g s 4 ≡ part f s 4 =
      part_same g f s 4 (swapped_length f (s + 4) k fits)
      (λ i _ b. swapped_outside f (s + 4) k fits i (inl (omega (arith, swapped_inside.0)))) in
      swap_from f z k count 0 (s + 4) (n - 4) os (omega arith) list.1 enough
      ∙ value_some g z s n (λ q. omega arith) count (ap (number_of Big) (sym c)) list.0

-- ---- the same counts
pub swapped_counts : (k : ℕ) (os : List Opcode) → (kept_in (swap_at k os) ≡ kept_in os) × (skipped_in (swap_at k os) ≡ skipped_in os)
swapped_counts k [] = (refl, refl)
swapped_counts zero (o ∷ []) = (refl, refl)
swapped_counts zero (skipped ∷ (skipped ∷ os)) = (refl, refl)
swapped_counts zero (skipped ∷ (kept g a ∷ os)) = (refl, refl)
swapped_counts zero (kept g a ∷ (skipped ∷ os)) = (refl, refl)
swapped_counts zero (kept g a ∷ (kept h b ∷ os)) = (refl, refl)
swapped_counts (suc k) (skipped ∷ os) = let r = swapped_counts k os in (r.0, ap suc r.1)
swapped_counts (suc k) (kept g a ∷ os) = let r = swapped_counts k os in (ap suc r.0, r.1)

-- ---- disjoint grids: the same numbers
pub alone_swapped :
    (k : ℕ) (os : List Opcode) → Apart (get_or os k skipped) (get_or os (suc k) skipped) → (r c p : ℕ) (x : Float) →
    alone (swap_at k os) r c p x ≡ alone os r c p x
unfolding alone
alone_swapped k [] d r c p x = refl
alone_swapped zero (o ∷ []) d r c p x = refl
alone_swapped zero (o ∷ (q ∷ os)) d r c p x = ap (alone os r c p) (swap_at_law o q r c p x d)
alone_swapped (suc k) (o ∷ os) d r c p x = alone_swapped k os d r c p (opcode_at o r c p x)

pub through_swapped :
    (k : ℕ) (os : List Opcode) → Apart (get_or os k skipped) (get_or os (suc k) skipped) → (z : Size) (x : ℕ → ℕ → ℕ → Float) →
    through (swap_at k os) (framed z x) ≡ through os (framed z x)
through_swapped k os d z x =
    through_framed (swap_at k os) z x
    ∙ ap (framed z) (fun_ext (λ (r : ℕ). fun_ext (λ (c : ℕ). fun_ext (λ (p : ℕ). alone_swapped k os d r c p (x r c p)))))
    ∙ sym (through_framed os z x)
