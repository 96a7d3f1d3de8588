-- One opcode at a spot, and what the loops over the list leave in the slices.
-- Assumes nothing.
use mathlib.Core.Path.{◌≡◌, refl, sym, ap, ◌∙◌, subst}
use mathlib.Core.Bool.{Bool, true, false}
use mathlib.Core.List.{List, [], ◌∷◌, ◌++◌, map}
use Prim.Native.Nat.{ℕ, suc, ◌+◌, ◌-◌, ◌≤◌, ◌<◌}
use native.Mathlib.Nat.{zero-add, add-zero}
use native.Mathlib.Omega.{arith}
use lib.Dec.{eqb, leb}
use lib.Ieee.{Float}
use lib.ListN.{length, length-map, drop, set, length-set}
use lib.Seq.{sets, sets-eq}
use borrow.Table.Steps.{cases}
use borrow.Author.Tests.{eqb-true, eqb-false, leb-true}
use Rattle.reading.specs.Bytes.{part}
use Rattle.reading.specs.Number.{number_of}
use Rattle.reading.specs.Reading.{run, pick}
use Rattle.reading.specs.declared.number.Order.TheVariants.{Big}
use Rattle.reading.proofs.Reading.{run_answer, pick_yes, pick_no}
use Rattle.reading.proofs.Bytes.{length_part}
use Rattle.directory.specs.Out.{Out, Out.is}
use Rattle.directory.specs.declared.tag.Values.{Values}
use Rattle.levels.specs.Clip.{clip_of}
use Rattle.opcodes.specs.Grid.{on_of, grid_of}
use Rattle.opcodes.specs.Facts.Grid.{FitsIn}
use Rattle.opcodes.specs.Opcode.{Opcode, opcode_at}
use Rattle.opcodes.specs.OpcodeList.{listed_id, class_of, opcode_kind, opcode_reading, list_from}
use Rattle.opcodes.specs.Frame.{touches, alone}
use Rattle.opcodes.specs.declared.grid.Size.{Size}
use Rattle.opcodes.specs.declared.grid.Grid.{Grid}
use Rattle.opcodes.specs.declared.list.Header.{Header}
use Rattle.opcodes.specs.declared.list.Class.{Class}
use Rattle.opcodes.specs.declared.list.Class.TheVariants as class
use Rattle.opcodes.proofs.OpcodeLists.{and-true}
use Rattle.opcodes.proofs.Frames.{at_off, at_unit}
use Rattle.opcodes.proofs.GainMaps.{map_accepted}
use Rattle.opcodes.proofs.Listing.{head_at, list_length, value_inverse}
use Rattle.rows.specs.Facts.Part.{KeptIn, kept_of}
use Rattle.rows.specs.Facts.ListPart.{OpcodeRead, ListRead}
use Rattle.rows.proofs.Parts as plain
use Rattle.rows.proofs.Gains as gained
use Rattle.rows.proofs.Gains.{kept_plain, kept_gained}
use Rattle.rows.proofs.Walks.{carried_is, optional_is, compulsory_not, absent_is, folded}
use Rattle.rows.proofs.Walks.{Progress, StepOn, walk_start, walk_next, step_read, step_onward, walk_end}
use Rattle.std.specs.Prelude.{Option, Some, None}
use Rattle.std.specs.Option.{is_some}
use Rattle.chain.specs.Links.{kind_id, opcode_id, link_of, links_of, is_skipped, places_where}
use Rattle.chain.specs.Chain.{written, id_of, before_of, after_of}
use Rattle.chain.specs.Facts.Links.{OpcodesIn, OpcodesOf, touch_of, Covered, linked, passed, link_into, Held, start_of, covered_of}
use Rattle.chain.specs.Facts.Links.{skips_of, Marked, marked, mark_into, skipped_of}
use Rattle.chain.specs.declared.links.Link.{Link}
use Rattle.chain.specs.declared.links.Opcodes.{Opcodes}

-- ---- the id
pub kind_id_law : (z : Size) (id : ℕ) (ps : List ℕ) → listed_id id ≡ true → kind_id (opcode_kind z id ps) ≡ id
unfolding opcode_kind
kind_id_law z id ps h =
    let a = and-true (leb 7 id) (leb id 13) h in
    let low : 7 ≤ id = leb-true 7 id a.0 in
    let high : id ≤ 13 = leb-true id 13 a.1 in
    go (eqb id 7) (eqb id 8) (eqb id 9) (eqb id 10) (eqb id 11) (eqb id 12) refl refl refl refl refl refl low high
  where
    go : (b7 b8 b9 b10 b11 b12 : Bool) → eqb id 7 ≡ b7 → eqb id 8 ≡ b8 → eqb id 9 ≡ b9 → eqb id 10 ≡ b10 → eqb id 11 ≡ b11 →
        eqb id 12 ≡ b12 → 7 ≤ id → id ≤ 13 → kind_id (opcode_kind z id ps) ≡ id
    go true b8 b9 b10 b11 b12 e7 e8 e9 e10 e11 e12 l u = simp (e7, pick_yes) (sym (eqb-true id 7 e7))
    go false true b9 b10 b11 b12 e7 e8 e9 e10 e11 e12 l u = simp (e7, e8, pick_yes, pick_no) (sym (eqb-true id 8 e8))
    go false false true b10 b11 b12 e7 e8 e9 e10 e11 e12 l u = simp (e7, e8, e9, pick_yes, pick_no) (sym (eqb-true id 9 e9))
    go false false false true b11 b12 e7 e8 e9 e10 e11 e12 l u = simp (e7, e8, e9, e10, pick_yes, pick_no) (sym (eqb-true id 10 e10))
    go false false false false true b12 e7 e8 e9 e10 e11 e12 l u =
        simp (e7, e8, e9, e10, e11, pick_yes, pick_no) (sym (eqb-true id 11 e11))
    go false false false false false true e7 e8 e9 e10 e11 e12 l u =
        simp (e7, e8, e9, e10, e11, e12, pick_yes, pick_no) (sym (eqb-true id 12 e12))
    go false false false false false false e7 e8 e9 e10 e11 e12 l u =
        let n7 = eqb-false id 7 e7 in
        let n8 = eqb-false id 8 e8 in
        let n9 = eqb-false id 9 e9 in
        let n10 = eqb-false id 10 e10 in
        let n11 = eqb-false id 11 e11 in
        let n12 = eqb-false id 12 e12 in
        simp (e7, e8, e9, e10, e11, e12, pick_yes, pick_no) (omega arith)

-- ---- the list of a tag's value
module _ (f : List ℕ) (z : Size) (v : Values) (l : ListRead f z v.place v.count) where
  pub opcodes_none : v.count ≡ 0 → OpcodesOf f z v (record { size = z; count = 0; at = v.place; bytes = 0 })
  unfolding list_from
  opcodes_none e =
      record {
        few = omega arith;
        inside = omega (arith, l.inside);
        size = refl;
        read = λ os q. ap {B = Out (List Opcode)} (λ (k : List Opcode). is k) (absent_is f z v.place v.count e os q)
            ∙ sym (simp (pick_yes, run_answer));
      }

  pub opcodes_some : (v.count ≡ 0 → ⊥) → (m : ℕ) → m ≡ number_of Big (part f v.place 4) →
      OpcodesOf f z v (record { size = z; count = m; at = v.place + 4; bytes = v.count - 4 })
  opcodes_some s m e =
      let n : 4 ≤ v.count = l.some (omega arith) in
      record {
        few = (value_inverse f z v.place v.count s m e l.opcodes l.read).0;
        inside = omega (arith, l.inside);
        size = refl;
        read = λ os q. (value_inverse f z v.place v.count s m e os q).1;
      }

-- ---- one opcode
-- an accepted one, its parameters at a place, begins with its grid
module _ (f : List ℕ) (z : Size) (at : ℕ) (h : Header) (k : KeptIn f z at h) where
  abbrev ps : List ℕ
  ps = part f at h.length

  record Own : Type 0 where
    pub long : 32 ≤ h.length
    pub fits : FitsIn z (grid_of ps)

  own : Own
  own = go (eqb h.id 9) refl
    where
      go : (b : Bool) → eqb h.id 9 ≡ b → Own
      go true e =
          let m = kept_gained f z at h k (eqb-true _ 9 e) in
          record { long = omega (arith, gained.enough z ps m, length_part f at h.length k.inside); fits = (map_accepted z ps m).grid }
      go false e =
          let m = kept_plain f z at h k (eqb-false _ 9 e) in
          record { long = omega (arith, plain.enough f z at h m); fits = plain.grid_in f z at h m }

  pub kept_long : 32 ≤ h.length
  kept_long = own.long

  module _ (g : Grid) (e : (n : ℕ) → 32 ≤ n → g ≡ grid_of (part f at n)) where
    pub kept_fits : FitsIn z g
    kept_fits = subst (FitsIn z) (sym (e h.length kept_long)) own.fits

    pub kept_touches : (r c p : ℕ) → touches (kept_of f z at h) r c p ≡ on_of g r c p
    kept_touches r c p = ap (λ (q : Grid). on_of q r c p) (sym (e h.length kept_long))

some_not_none : (l : Link) → Some l ≡ None → ⊥
some_not_none l e = let k : true ≡ false = ap is_some e in cc

same_link : (k l : Link) → Some k ≡ Some l → k ≡ l
same_link k l e = cc

module _ (o : Opcode) (r c p : ℕ) (x : Float) where
  pub touch_on : touches o r c p ≡ true → Some (link_of o r c p x) ≡ touch_of o r c p x
  unfolding touch_of
  touch_on e = sym (simp (e, pick_yes))

  pub touch_off : touches o r c p ≡ false → None ≡ touch_of o r c p x
  unfolding touch_of
  touch_off e = sym (simp (e, pick_no))

  -- and back
  pub touched_off : None ≡ touch_of o r c p x → touches o r c p ≡ false
  touched_off e =
      cases (touches o r c p) (λ t. absurd (some_not_none _ (touch_on t ∙ sym e))) (λ t. t)

  pub touched_on : (l : Link) → Some l ≡ touch_of o r c p x → (touches o r c p ≡ true) × (l ≡ link_of o r c p x)
  touched_on l e =
      cases (touches o r c p) (λ t. (t, same_link l _ (e ∙ sym (touch_on t)))) (λ t. absurd (some_not_none l (e ∙ sym (touch_off t))))

-- by its class
module _ (f : List ℕ) (z : Size) (at : ℕ) (h : Header) (i : ℕ) (o : Opcode) (e : is o ≡ run f (opcode_reading (class_of h) z i at h))
    (r c p : ℕ) (x : Float) where
  pub link_optional : class.Optional ≡ class_of h → None ≡ touch_of o r c p x
  link_optional q = touch_off o r c p x (ap (λ (k : Opcode). touches k r c p) (optional_is f z at h q i o e))

  pub link_compulsory : class.Compulsory ≡ class_of h → None ≡ touch_of o r c p x
  link_compulsory q = absurd (compulsory_not f z at h q i o e)

  module _ (q : class.Carried ≡ class_of h) (k : KeptIn f z (at + 16) h) (g : Grid)
      (w : (n : ℕ) → 32 ≤ n → g ≡ grid_of (part f (at + 16) n)) where
    is_kept : o ≡ kept_of f z (at + 16) h
    is_kept = carried_is f z at h q i o e

    on_is : touches o r c p ≡ on_of g r c p
    on_is = ap (λ (l : Opcode). touches l r c p) is_kept ∙ kept_touches f z (at + 16) h k g w r c p

    pub link_off : on_of g r c p ≡ false → None ≡ touch_of o r c p x
    link_off t = touch_off o r c p x (on_is ∙ t)

    pub link_on : on_of g r c p ≡ true → (y : Float) → y ≡ opcode_at (kept_of f z (at + 16) h) r c p x →
        Some (record { id = h.id; before = x; after = y }) ≡ touch_of o r c p x
    link_on t y d =
        let n : h.id ≡ opcode_id o =
        sym (ap opcode_id is_kept ∙ kind_id_law z h.id (part f (at + 16) h.length) k.listed) in
        let a : y ≡ opcode_at o r c p x = d ∙ ap (λ (l : Opcode). opcode_at l r c p x) (sym is_kept) in
        rw (n, a) (touch_on o r c p x (on_is ∙ t))

-- by the header that was read
pub read_as : (f : List ℕ) (z : Size) (at : ℕ) (h k : Header) → h ≡ k → (i : ℕ) (o : Opcode) →
    is o ≡ run f (opcode_reading (class_of k) z i at k) → is o ≡ run f (opcode_reading (class_of h) z i at h)
read_as f z at h k e i o r = subst (λ (l : Header). is o ≡ run f (opcode_reading (class_of l) z i at l)) (sym e) r

-- a skipped one
pub skips_is : (f : List ℕ) (z : Size) (at : ℕ) (h : Header) (i : ℕ) (o : Opcode) →
    is o ≡ run f (opcode_reading (class_of h) z i at h) → is_skipped o ≡ skips_of (class_of h)
skips_is f z at h i o e = go (class_of h) refl
  where
    go : (k : Class) → k ≡ class_of h → is_skipped o ≡ skips_of k
    go class.Carried q = ap is_skipped (carried_is f z at h q i o e)
    go class.Optional q = ap is_skipped (optional_is f z at h q i o e)
    go class.Compulsory q = absurd (compulsory_not f z at h q i o e)

-- by its class alone
module _ (k : Class) (s : Marked) where
  pub class_skips : k ≡ class.Optional →
      marked (s.index + 1) (s.count + 1) (set s.slice s.count s.index) ≡ mark_into (skips_of k) s
  unfolding mark_into
  class_skips e = sym (simp (ap skips_of e, pick_yes))

  pub class_keeps : skips_of k ≡ false → marked (s.index + 1) s.count s.slice ≡ mark_into (skips_of k) s
  unfolding mark_into
  class_keeps e = sym (simp (e, pick_no))

-- ---- the definitions, opcode by opcode
module _ (t : Opcode → Bool) (i : ℕ) (o : Opcode) (os : List Opcode) where
  pub where_yes : t o ≡ true → places_where t i (o ∷ os) ≡ i ∷ places_where t (i + 1) os
  unfolding places_where
  where_yes e = simp (e, pick_yes)

  pub where_no : t o ≡ false → places_where t i (o ∷ os) ≡ places_where t (i + 1) os
  unfolding places_where
  where_no e = simp (e, pick_no)

pub where_none : (t : Opcode → Bool) (i : ℕ) → places_where t i [] ≡ []
unfolding places_where
where_none t i = refl

module _ (o : Opcode) (os : List Opcode) (r c p : ℕ) (x : Float) where
  pub links_yes : touches o r c p ≡ true → links_of (o ∷ os) r c p x ≡ link_of o r c p x ∷ links_of os r c p (opcode_at o r c p x)
  unfolding links_of
  links_yes e = simp (e, pick_yes)

  pub links_no : touches o r c p ≡ false → links_of (o ∷ os) r c p x ≡ links_of os r c p x
  unfolding links_of
  links_no e = simp (e, pick_no)

  alone_no : touches o r c p ≡ false → alone (o ∷ os) r c p x ≡ alone os r c p x
  unfolding alone
  alone_no e = ap (alone os r c p) (at_off o r c p x e)

pub links_none : (r c p : ℕ) (x : Float) → links_of [] r c p x ≡ []
unfolding links_of
links_none r c p x = refl

-- no more than the list has
pub where_few : (t : Opcode → Bool) (i : ℕ) (os : List Opcode) → length (places_where t i os) ≤ length os
where_few t i [] = rw (where_none t i) (omega arith)
where_few t i (o ∷ os) =
    let h = where_few t (i + 1) os in
    cases (t o) (λ e. rw (where_yes t i o os e) (omega arith)) (λ e. rw (where_no t i o os e) (omega arith))

-- as many links as places
pub links_length : (os : List Opcode) (i r c p : ℕ) (x : Float) →
    length (links_of os r c p x) ≡ length (places_where (λ (q : Opcode). touches q r c p) i os)
links_length [] i r c p x = rw (where_none (λ (q : Opcode). touches q r c p) i, links_none r c p x) refl
links_length (o ∷ os) i r c p x =
    let t : Opcode → Bool = λ q. touches q r c p in
    cases (touches o r c p)
    (λ e. rw (where_yes t i o os e, links_yes o os r c p x e) (ap suc (links_length os (i + 1) r c p (opcode_at o r c p x))))
    (λ e. rw (where_no t i o os e, links_no o os r c p x e) (links_length os (i + 1) r c p x))

-- ---- the loops
pub written_is : {A : Type 0} (xs old : List A) → length xs ≤ length old → sets old 0 xs ≡ written xs old
written_is xs old h = sets-eq xs old 0 (rw (zero-add (length xs)) h) ∙ ap (λ (n : ℕ). xs ++ drop n old) (zero-add (length xs))

module _ (r c p : ℕ) where
  abbrev covers : Opcode → Bool
  covers o = touches o r c p

  pub into_yes : (o : Opcode) (s : Covered) → touches o r c p ≡ true → link_into r c p o s ≡ linked r c p o s
  unfolding link_into
  into_yes o s e = simp (e, pick_yes)

  pub into_no : (o : Opcode) (s : Covered) → touches o r c p ≡ false → link_into r c p o s ≡ passed s
  unfolding link_into
  into_no o s e = simp (e, pick_no)

  -- an opcode that was found not to cover the sample, or to cover it
  module _ (o : Opcode) (s : Covered) where
    pub into_off : None ≡ touch_of o r c p s.value → passed s ≡ link_into r c p o s
    into_off e = sym (into_no o s (touched_off o r c p s.value e))

    pub into_on : (l : Link) → Some l ≡ touch_of o r c p s.value →
        record {
          index = s.index + 1;
          count = s.count + 1;
          value = l.after;
          places = set s.places s.count s.index;
          ids = set s.ids s.count l.id;
          before = set s.before s.count l.before;
          after = set s.after s.count l.after;
        }
        ≡ link_into r c p o s
    into_on l e =
        let q = touched_on o r c p s.value l e in
        rw q.1 (sym (into_yes o s q.0))

    pub into_index : (link_into r c p o s).index ≡ s.index + 1
    into_index =
        cases (touches o r c p) (λ e. ap (λ (k : Covered). k.index) (into_yes o s e)) (λ e. ap (λ (k : Covered). k.index) (into_no o s e))

    pub into_held : (ps ns : List ℕ) (xs ys : List Float) → Held ps ns xs ys s → Held ps ns xs ys (link_into r c p o s)
    into_held ps ns xs ys h =
        cases (touches o r c p)
        (λ e.
        subst (Held ps ns xs ys) (sym (into_yes o s e))
        (record {
          in_unit = at_unit o r c p s.value h.in_unit;
          few = omega (arith, h.few);
          places = length-set s.places s.count s.index ∙ h.places;
          ids = length-set s.ids s.count (opcode_id o) ∙ h.ids;
          before = length-set s.before s.count s.value ∙ h.before;
          after = length-set s.after s.count (opcode_at o r c p s.value) ∙ h.after;
        }))
        (λ e.
        subst (Held ps ns xs ys) (sym (into_no o s e))
        (record {
          in_unit = h.in_unit;
          few = omega (arith, h.few);
          places = h.places;
          ids = h.ids;
          before = h.before;
          after = h.after;
        }))

  -- what the loop leaves of s
  abbrev left : List Opcode → Covered → Covered
  left os s =
      record {
        index = s.index + length os;
        count = s.count + length (places_where covers s.index os);
        value = alone os r c p s.value;
        places = sets s.places s.count (places_where covers s.index os);
        ids = sets s.ids s.count (map id_of (links_of os r c p s.value));
        before = sets s.before s.count (map before_of (links_of os r c p s.value));
        after = sets s.after s.count (map after_of (links_of os r c p s.value));
      }

  loop_left : (os : List Opcode) (s : Covered) → folded (link_into r c p) os s ≡ left os s
  unfolding alone
  loop_left [] s = rw (where_none covers s.index, links_none r c p s.value, add-zero s.index, add-zero s.count) refl
  loop_left (o ∷ os) s =
      let i : s.index + 1 + length os ≡ s.index + suc (length os) = omega arith in
      cases (touches o r c p)
      (λ e.
      let n = length (places_where covers (s.index + 1) os) in
      let m : s.count + 1 + n ≡ s.count + suc n = omega arith in
      let q : s.count + 1 ≡ suc s.count = omega arith in
      ap (folded (link_into r c p) os) (into_yes o s e) ∙ loop_left os (linked r c p o s)
      ∙ rw (where_yes covers s.index o os e, links_yes o os r c p s.value e, i, m, q) refl)
      (λ e.
      ap (folded (link_into r c p) os) (into_no o s e) ∙ loop_left os (passed s)
      ∙ rw (where_no covers s.index o os e, links_no o os r c p s.value e, at_off o r c p s.value e, i) refl)

  -- in the end
  pub loop_covered :
      (os : List Opcode) (x : Float) (ps ns : List ℕ) (xs ys : List Float) → length os ≤ 32 →
      32 ≤ length ps → 32 ≤ length ns → 32 ≤ length xs → 32 ≤ length ys →
      folded (link_into r c p) os (start_of x ps ns xs ys) ≡ covered_of os r c p x ps ns xs ys
  unfolding covered_of
  loop_covered os x ps ns xs ys few hp hn hx hy =
      let w = where_few covers 0 os in
      let l = links_length os 0 r c p x in
      let ls = links_of os r c p x in
      let a = written_is (places_where covers 0 os) ps (omega arith) in
      let b = written_is (map id_of ls) ns (omega (arith, length-map ls id_of)) in
      let d = written_is (map before_of ls) xs (omega (arith, length-map ls before_of)) in
      let k = written_is (map after_of ls) ys (omega (arith, length-map ls after_of)) in
      loop_left os _ ∙ rw (a, b, d, k, zero-add (length os), zero-add (length (places_where covers 0 os))) refl

  -- the loop over the covering opcodes: what it has done when it comes to an opcode
  module _ (f : List ℕ) (q : Opcodes) (x : Float) (ps ns : List ℕ) (xs ys : List Float) where
    pub record Gone (s : Covered) (at : ℕ) : Type 0 where
      pub progress : Progress (link_into r c p) f q.size q.count q.at q.bytes s.index at (start_of x ps ns xs ys) s
      pub held : Held ps ns xs ys s

    module _ (h : OpcodesIn f q) where
      pub gone_start : clip_of x ≡ x → Gone (start_of x ps ns xs ys) q.at
      gone_start u =
          record {
            progress = walk_start _ _ _ _ _ _ _ h.read;
            held = record { in_unit = u; few = omega arith; places = refl; ids = refl; before = refl; after = refl };
          }

      module _ (s : Covered) (at : ℕ) (g : Gone s at) where
        module _ (t : s.index < q.count) where
          abbrev next : StepOn (link_into r c p) f q.size q.count q.at q.bytes s.index at (start_of x ps ns xs ys) s
          next = walk_next (link_into r c p) f q.size q.count q.at q.bytes _ s.index at s t g.progress

          pub gone_read : OpcodeRead f q.size at (head_at f at)
          gone_read = step_read (link_into r c p) f q.size q.count q.at q.bytes _ s.index at s _ refl next h.read.inside

          module _ (s' : Covered) (at' : ℕ)
              (e : (i : ℕ) (o : Opcode) → is o ≡ run f (opcode_reading (class_of (head_at f at)) q.size i at (head_at f at)) →
              s' ≡ link_into r c p o s)
              (d : at' ≡ at + (16 + (head_at f at).length)) where
            abbrev done : s' ≡ link_into r c p next.first s
            done = e s.index next.first next.read

            pub gone_index : s'.index ≡ s.index + 1
            gone_index = ap (λ (k : Covered). k.index) done ∙ into_index next.first s

            pub gone_on : Gone s' at'
            gone_on =
                record {
                  progress =
                      subst (λ (n : ℕ). Progress (link_into r c p) f q.size q.count q.at q.bytes n at' (start_of x ps ns xs ys) s')
                      (sym gone_index)
                      (rw d (step_onward (link_into r c p) f q.size q.count q.at q.bytes _ s.index at s _ refl next s' done));
                  held = subst (Held ps ns xs ys) (sym done) (into_held next.first s ps ns xs ys g.held);
                }

        pub gone_end :
            q.count ≤ s.index → 32 ≤ length ps → 32 ≤ length ns → 32 ≤ length xs → 32 ≤ length ys →
            (os : List Opcode) → is os ≡ run f (list_from q.size q.count 0 q.at q.bytes) → s ≡ covered_of os r c p x ps ns xs ys
        gone_end t a b d k os e =
            let n = list_length f q.size q.count 0 q.at q.bytes os e in
            walk_end (link_into r c p) f q.size q.count q.at q.bytes _ s.index at s t g.progress os e
            ∙ loop_covered os x ps ns xs ys (omega (arith, n, h.few)) a b d k

-- the skipped ones
abbrev pub mark_of : Opcode → Marked → Marked
mark_of o s = mark_into (is_skipped o) s

mark_yes : (o : Opcode) (s : Marked) → is_skipped o ≡ true →
    mark_of o s ≡ marked (s.index + 1) (s.count + 1) (set s.slice s.count s.index)
unfolding mark_into
mark_yes o s e = simp (e, pick_yes)

mark_no : (o : Opcode) (s : Marked) → is_skipped o ≡ false → mark_of o s ≡ marked (s.index + 1) s.count s.slice
unfolding mark_into
mark_no o s e = simp (e, pick_no)

-- no more are marked than were met, and the slice stays as long
pub mark_held : (b : Bool) (s : Marked) → s.count ≤ s.index →
    ((mark_into b s).count ≤ s.index + 1) × (length (mark_into b s).slice ≡ length s.slice)
unfolding mark_into pick
mark_held true s h = (omega arith, length-set s.slice s.count s.index)
mark_held false s h = (omega arith, refl)

marks_left : (os : List Opcode) (s : Marked) →
    folded mark_of os s
    ≡ marked (s.index + length os) (s.count + length (places_where is_skipped s.index os))
    (sets s.slice s.count (places_where is_skipped s.index os))
marks_left [] s = rw (where_none is_skipped s.index, add-zero s.index, add-zero s.count) refl
marks_left (o ∷ os) s =
    let i : s.index + 1 + length os ≡ s.index + suc (length os) = omega arith in
    cases (is_skipped o)
    (λ e.
    let n = length (places_where is_skipped (s.index + 1) os) in
    let m : s.count + 1 + n ≡ s.count + suc n = omega arith in
    let q : s.count + 1 ≡ suc s.count = omega arith in
    ap (folded mark_of os) (mark_yes o s e) ∙ marks_left os _ ∙ rw (where_yes is_skipped s.index o os e, i, m, q) refl)
    (λ e. ap (folded mark_of os) (mark_no o s e) ∙ marks_left os _ ∙ rw (where_no is_skipped s.index o os e, i) refl)

pub marks_skipped : (os : List Opcode) (ks : List ℕ) → length os ≤ 32 → 32 ≤ length ks → folded mark_of os (marked 0 0 ks) ≡ skipped_of os ks
unfolding skipped_of
marks_skipped os ks few h =
    let w = where_few is_skipped 0 os in
    let a = written_is (places_where is_skipped 0 os) ks (omega arith) in
    marks_left os _ ∙ rw (a, zero-add (length os), zero-add (length (places_where is_skipped 0 os))) refl

pub skipped_index : (os : List Opcode) (ks : List ℕ) → (skipped_of os ks).index ≡ length os
unfolding skipped_of
skipped_index os ks = refl
