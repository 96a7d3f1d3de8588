-- The places and the links of a list, as the request's sentences say them.
-- Assumes nothing.
use mathlib.Core.Path.{◌≡◌, refl, sym, ap, ◌∙◌, subst}
use mathlib.Core.Bool.{Bool, true, true≢false}
use mathlib.Core.List.{List, [], ◌∷◌}
use Prim.Native.Nat.{ℕ, zero, suc, ◌+◌, ◌-◌, ◌<◌}
use native.Mathlib.Nat.{add-zero}
use native.Mathlib.Omega.{arith}
use lib.Ieee.{Float}
use lib.ListN.{length, get_or}
use borrow.Table.Steps.{cases}
use Rattle.reading.specs.Reading.{run}
use Rattle.reading.specs.Bytes.{part}
use Rattle.directory.specs.Out.{Out.is}
use Rattle.opcodes.specs.Opcode.{Opcode, skipped, opcode_at}
use Rattle.opcodes.specs.OpcodeList.{class_of, opcode_reading, list_from, start_of}
use Rattle.opcodes.specs.Frame.{touches, alone}
use Rattle.opcodes.specs.declared.grid.Size.{Size}
use Rattle.opcodes.specs.declared.list.Header.{Header}
use Rattle.opcodes.specs.declared.list.Class.{Class}
use Rattle.opcodes.specs.declared.list.Class.TheVariants as class
use Rattle.opcodes.proofs.Frames.{at_off}
use Rattle.opcodes.proofs.Listing.{head_at, whole_at, list_inverse, none_inverse}
use Rattle.rows.proofs.Walks.{listed_id_law, carried_is, optional_is, compulsory_not}
use Rattle.chain.specs.Links.{opcode_id, link_of, links_of, places_where}
use Rattle.chain.specs.Explained.{Among, Names, last_of}
use Rattle.chain.specs.declared.links.Link.{Link}
use Rattle.chain.proofs.LinkLaws.{kind_id_law, where_none, where_yes, where_no, links_none, links_yes, links_no}

-- ---- exactly the opcodes of which a test holds, in list order
module _ (t : Opcode → Bool) where
  -- a place that is named, in a list whose first one's place is i
  pub record Named (os : List Opcode) (i k : ℕ) : Type 0 where
    pub index : ℕ
    pub place : k ≡ i + index
    pub below : index < length os
    pub holds : t (get_or os index skipped) ≡ true

  abbrev further : (o : Opcode) (os : List Opcode) (i k : ℕ) → Named os (i + 1) k → Named (o ∷ os) i k
  further o os i k n =
      record { index = suc n.index; place = omega (arith, n.place); below = omega (arith, n.below); holds = n.holds }

  first_named : (o : Opcode) (os : List Opcode) (i : ℕ) (ks : List ℕ) → t o ≡ true →
      ((j : ℕ) → j < length ks → Named os (i + 1) (get_or ks j 0)) → (j : ℕ) → j < length (i ∷ ks) → Named (o ∷ os) i (get_or (i ∷ ks) j 0)
  first_named o os i ks e n zero h = record { index = 0; place = sym (add-zero i); below = omega arith; holds = e }
  first_named o os i ks e n (suc j) h = further o os i _ (n j (omega arith))

  pub named : (os : List Opcode) (i j : ℕ) → j < length (places_where t i os) → Named os i (get_or (places_where t i os) j 0)
  named [] i j h = absurd (let h' = rw (where_none t i) at h in omega (arith, h'))
  named (o ∷ os) i j h =
      let n : (j : ℕ) → j < length (places_where t (i + 1) os) → Named os (i + 1) (get_or (places_where t (i + 1) os) j 0) = λ j l. named os (i + 1) j l
      in
      cases (t o)
      (λ e.
      let w = where_yes t i o os e in
      subst (λ (ks : List ℕ). Named (o ∷ os) i (get_or ks j 0)) (sym w)
      (first_named o os i (places_where t (i + 1) os) e n j (subst (λ (ks : List ℕ). j < length ks) w h)))
      (λ e.
      let w = where_no t i o os e in
      subst (λ (ks : List ℕ). Named (o ∷ os) i (get_or ks j 0)) (sym w)
      (further o os i _ (n j (subst (λ (ks : List ℕ). j < length ks) w h))))

  pub where_all : (os : List Opcode) (i m : ℕ) → m < length os → t (get_or os m skipped) ≡ true → Among (i + m) (places_where t i os)
  where_all [] i m h e = absurd (omega arith)
  where_all (o ∷ os) i zero h e = rw (where_yes t i o os e) (0, omega arith, sym (add-zero i))
  where_all (o ∷ os) i (suc m) h e =
      let a = where_all os (i + 1) m (omega arith) e in
      let q : i + 1 + m ≡ i + suc m = omega arith in
      cases (t o)
      (λ b. rw (where_yes t i o os b) (suc a.0, omega (arith, a.1), a.2 ∙ q))
      (λ b. rw (where_no t i o os b) (a.0, a.1, a.2 ∙ q))

  first_ordered : (i : ℕ) (ks : List ℕ) → ((j : ℕ) → j < length ks → i < get_or ks j 0) →
      ((a b : ℕ) → a < b → b < length ks → get_or ks a 0 < get_or ks b 0) →
      (a b : ℕ) → a < b → b < length (i ∷ ks) → get_or (i ∷ ks) a 0 < get_or (i ∷ ks) b 0
  first_ordered i ks l n a zero h k = absurd (omega arith)
  first_ordered i ks l n zero (suc b) h k = l b (omega arith)
  first_ordered i ks l n (suc a) (suc b) h k = n a b (omega arith) (omega arith)

  pub where_ordered : (os : List Opcode) (i a b : ℕ) → a < b → b < length (places_where t i os) →
      get_or (places_where t i os) a 0 < get_or (places_where t i os) b 0
  where_ordered [] i a b h k = absurd (let k' = rw (where_none t i) at k in omega (arith, k'))
  where_ordered (o ∷ os) i a b h k =
      let ks = places_where t (i + 1) os in
      let l : (j : ℕ) → j < length ks → i < get_or ks j 0 = λ j q. omega (arith, (named os (i + 1) j q).place) in
      let n : (a b : ℕ) → a < b → b < length ks → get_or ks a 0 < get_or ks b 0 = λ a b h k. where_ordered os (i + 1) a b h k in
      cases (t o)
      (λ e.
      let w = where_yes t i o os e in
      rw w (first_ordered i ks l n a b h (subst (λ (ks : List ℕ). b < length ks) w k)))
      (λ e.
      let w = where_no t i o os e in
      rw w (n a b h (subst (λ (ks : List ℕ). b < length ks) w k)))

  pub where_names : (os : List Opcode) → Names t os (places_where t 0 os)
  where_names os =
      record {
        ordered = λ i j h k. where_ordered os 0 i j h k;
        only = λ k a.
            let n = named os 0 a.0 a.1 in
            let e : n.index ≡ k = omega (arith, n.place, a.2) in
            subst (λ (m : ℕ). (m < length os) × (t (get_or os m skipped) ≡ true)) e (n.below, n.holds);
        all = λ k h e. let q : 0 + k ≡ k = omega arith in subst (λ (m : ℕ). Among m (places_where t 0 os)) q (where_all os 0 k h e);
      }

-- ---- the links
module _ (r c p : ℕ) where
  abbrev covers : Opcode → Bool
  covers o = touches o r c p

  -- the j-th link is the opcode at the j-th place
  pub record LinkedAt (os : List Opcode) (i k : ℕ) (l : Link) : Type 0 where
    pub at : Named covers os i k
    pub link : l ≡ link_of (get_or os at.index skipped) r c p l.before

  linked_further : (o : Opcode) (os : List Opcode) (i k : ℕ) (l : Link) → LinkedAt os (i + 1) k l → LinkedAt (o ∷ os) i k l
  linked_further o os i k l n = record { at = further covers o os i k n.at; link = n.link }

  first_linked : (o : Opcode) (os : List Opcode) (i : ℕ) (x : Float) (ks : List ℕ) (ls : List Link) (d : Link) → touches o r c p ≡ true →
      ((j : ℕ) → j < length ls → LinkedAt os (i + 1) (get_or ks j 0) (get_or ls j d)) →
      (j : ℕ) → j < length (link_of o r c p x ∷ ls) → LinkedAt (o ∷ os) i (get_or (i ∷ ks) j 0) (get_or (link_of o r c p x ∷ ls) j d)
  first_linked o os i x ks ls d e n zero h =
      record { at = record { index = 0; place = sym (add-zero i); below = omega arith; holds = e }; link = refl }
  first_linked o os i x ks ls d e n (suc j) h = linked_further o os i _ _ (n j (omega arith))

  pub links_at : (os : List Opcode) (i : ℕ) (x : Float) (d : Link) (j : ℕ) → j < length (links_of os r c p x) →
      LinkedAt os i (get_or (places_where covers i os) j 0) (get_or (links_of os r c p x) j d)
  links_at [] i x d j h = absurd (let h' = rw (links_none r c p x) at h in omega (arith, h'))
  links_at (o ∷ os) i x d j h =
      cases (touches o r c p)
      (λ e.
      let w = where_yes covers i o os e in
      let l = links_yes o os r c p x e in
      let y = opcode_at o r c p x in
      rw (w, l) (first_linked o os i x (places_where covers (i + 1) os) (links_of os r c p y) d e (λ j q. links_at os (i + 1) y d j q) j
      (subst (λ (ls : List Link). j < length ls) l h)))
      (λ e.
      let w = where_no covers i o os e in
      let l = links_no o os r c p x e in
      rw (w, l) (linked_further o os i _ _ (links_at os (i + 1) x d j (subst (λ (ls : List Link). j < length ls) l h))))

  -- in a list from place 0 on
  pub record LinkOf (os : List Opcode) (k : ℕ) (l : Link) : Type 0 where
    pub below : k < length os
    pub covered : touches (get_or os k skipped) r c p ≡ true
    pub link : l ≡ link_of (get_or os k skipped) r c p l.before

  pub link_of_law : (os : List Opcode) (x : Float) (d : Link) (j : ℕ) → j < length (links_of os r c p x) →
      LinkOf os (get_or (places_where covers 0 os) j 0) (get_or (links_of os r c p x) j d)
  link_of_law os x d j h =
      let l = links_at os 0 x d j h in
      let e : l.at.index ≡ get_or (places_where covers 0 os) j 0 = omega (arith, l.at.place) in
      subst (λ (k : ℕ). LinkOf os k (get_or (links_of os r c p x) j d)) e
      (record { below = l.at.below; covered = l.at.holds; link = l.link })

  -- the first value is x, each other one that after the link before
  pub links_first : (os : List Opcode) (x : Float) (d : Link) → 0 < length (links_of os r c p x) → (get_or (links_of os r c p x) 0 d).before ≡ x
  links_first [] x d h = absurd (let h' = rw (links_none r c p x) at h in omega (arith, h'))
  links_first (o ∷ os) x d h =
      cases (touches o r c p)
      (λ e. rw (links_yes o os r c p x e) refl)
      (λ e. let l = links_no o os r c p x e in rw l (links_first os x d (subst (λ (ls : List Link). 0 < length ls) l h)))

  first_next : (l : Link) (ls : List Link) (d : Link) → (0 < length ls → (get_or ls 0 d).before ≡ l.after) →
      ((j : ℕ) → suc j < length ls → (get_or ls (suc j) d).before ≡ (get_or ls j d).after) →
      (j : ℕ) → suc j < length (l ∷ ls) → (get_or (l ∷ ls) (suc j) d).before ≡ (get_or (l ∷ ls) j d).after
  first_next l ls d f n zero h = f (omega arith)
  first_next l ls d f n (suc j) h = n j (omega arith)

  pub links_next : (os : List Opcode) (x : Float) (d : Link) (j : ℕ) → suc j < length (links_of os r c p x) →
      (get_or (links_of os r c p x) (suc j) d).before ≡ (get_or (links_of os r c p x) j d).after
  links_next [] x d j h = absurd (let h' = rw (links_none r c p x) at h in omega (arith, h'))
  links_next (o ∷ os) x d j h =
      cases (touches o r c p)
      (λ e.
      let l = links_yes o os r c p x e in
      let y = opcode_at o r c p x in
      rw l (first_next (link_of o r c p x) (links_of os r c p y) d (links_first os y d) (λ j q. links_next os y d j q) j
      (subst (λ (ls : List Link). suc j < length ls) l h)))
      (λ e. let l = links_no o os r c p x e in rw l (links_next os x d j (subst (λ (ls : List Link). suc j < length ls) l h)))

  -- the last one is what the whole list makes of x
  pub links_last : (os : List Opcode) (x : Float) → last_of x (links_of os r c p x) ≡ alone os r c p x
  unfolding alone
  links_last [] x = rw (links_none r c p x) refl
  links_last (o ∷ os) x =
      cases (touches o r c p)
      (λ e. rw (links_yes o os r c p x e) (links_last os (opcode_at o r c p x)))
      (λ e. rw (links_no o os r c p x e, at_off o r c p x e) (links_last os x))

  -- ---- an id stands in its opcode's header
  read_id : (f : List ℕ) (z : Size) (i at : ℕ) (h : Header) (o : Opcode) → is o ≡ run f (opcode_reading (class_of h) z i at h) →
      touches o r c p ≡ true → opcode_id o ≡ h.id
  read_id f z i at h o e t = go (class_of h) refl
    where
      go : (k : Class) → k ≡ class_of h → opcode_id o ≡ h.id
      go class.Carried q = ap opcode_id (carried_is f z at h q i o e) ∙ kind_id_law z h.id (part f (at + 16) h.length) (listed_id_law f z at h (sym q))
      go class.Optional q = absurd (true≢false (sym t ∙ ap covers (optional_is f z at h q i o e)))
      go class.Compulsory q = absurd (compulsory_not f z at h q i o e)

  pub list_id : (f : List ℕ) (z : Size) (m k i at n : ℕ) (os : List Opcode) → is os ≡ run f (list_from z k i at n) → m < length os →
      touches (get_or os m skipped) r c p ≡ true → opcode_id (get_or os m skipped) ≡ (head_at f (start_of f at m)).id
  list_id f z m zero i at n os e h t = absurd (let q = ap length (none_inverse f z i at n os e).1 in omega (arith, q))
  list_id f z m (suc k) i at n os e h t =
      let a = list_inverse f z k i at n os e in
      let h' : m < length (a.first ∷ a.others) = subst (λ (l : List Opcode). m < length l) a.all h in
      let t' : touches (get_or (a.first ∷ a.others) m skipped) r c p ≡ true =
      subst (λ (l : List Opcode). touches (get_or l m skipped) r c p ≡ true) a.all t in
      ap (λ (l : List Opcode). opcode_id (get_or l m skipped)) a.all
      ∙ go a.first a.others m h' t' (read_id f z i at (head_at f at) a.first a.first_is)
      (λ m h t. list_id f z m k (i + 1) (at + whole_at f at) (n - whole_at f at) a.others a.others_are h t)
    where
      go : (o : Opcode) (l : List Opcode) (m : ℕ) → m < length (o ∷ l) → touches (get_or (o ∷ l) m skipped) r c p ≡ true →
          (touches o r c p ≡ true → opcode_id o ≡ (head_at f at).id) →
          ((m : ℕ) → m < length l → touches (get_or l m skipped) r c p ≡ true →
          opcode_id (get_or l m skipped) ≡ (head_at f (start_of f (at + whole_at f at) m)).id) →
          opcode_id (get_or (o ∷ l) m skipped) ≡ (head_at f (start_of f at m)).id
      go o l zero h t first others = first t
      go o l (suc m) h t first others = others m (omega arith) t
