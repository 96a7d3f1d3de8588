-- What is read for a tag of a directory: tag, type and count of its entries, and the tag's own value, with its offset where the value
-- does not stand in the entry. So another tag's value is not read.
-- Assumes nothing.
use mathlib.Core.Path.{◌≡◌, refl, sym, subst, ◌∙◌}
use mathlib.Core.Bool.{Bool, true, false, true≢false}
use mathlib.Core.List.{List, [], ◌∷◌}
use mathlib.Core.Logic.{⊎_elim}
use Prim.Native.Nat.{ℕ, zero, suc, ◌+◌, ◌*◌, ◌≤◌, ◌<◌, zero-le}
use native.Mathlib.Nat.{mul-suc, mul-zero, mul-le-mul_left}
use native.Mathlib.Omega.{arith}
use lib.Dec.{eqb, leb}
use borrow.Author.Tests.{eqb-true, eqb-false, leb-true, leb-false}
use Rattle.reading.specs.Bytes.{part}
use Rattle.reading.specs.Number.{number_of}
use Rattle.reading.specs.Reading.{Reading.answer, Stretch, run, and_then, pick, reads, number_at}
use Rattle.reading.specs.declared.number.Order.{Order}
use Rattle.reading.proofs.Reading.{stretch, run_answer, run_number}
use Rattle.reading.proofs.Unread.{Unread, Off, off_below, off_behind, off_inside, off_none, off_first, off_rest, off_both, off_left}
use Rattle.reading.proofs.Unread.{off_right, unread_answer, unread_ask, unread_number, unread_then, unread_pick}
use Rattle.directory.specs.Out.{Out.refused, Out.is}
use Rattle.directory.specs.Widths.{head_width, entry_width}
use Rattle.directory.specs.Entry.{code_of, plain_of, kind_width, bytes_of}
use Rattle.directory.specs.Tag.{found_at, find_from, found_reading, allows_of, values_at, no_values, whole_reading, value_reading, tested_reading}
use Rattle.directory.specs.Tag.{absent_of, values_found, values_reading, not_carried, if_absent, judged_of, first_reading, one_reading}
use Rattle.directory.specs.Tag.{each_reading, all_reading}
use Rattle.directory.specs.Facts.Tag.{SizeIn}
use Rattle.directory.specs.declared.Ifd.{Ifd}
use Rattle.directory.specs.declared.Widths.{Widths}
use Rattle.directory.specs.declared.entry.Kind.{Kind}
use Rattle.directory.specs.declared.entry.Entry.{Entry}
use Rattle.directory.specs.declared.tag.Found.{Found}
use Rattle.std.specs.Prelude.{Option, Some, None}
use Rattle.directory.specs.declared.tag.Kinds.TheVariants as kinds
use Rattle.directory.specs.declared.tag.Rule.{Rule}
use Rattle.directory.specs.declared.tag.Range.{Range}
use Rattle.directory.specs.declared.tag.Values.{Values}
use Rattle.directory.proofs.Entries.{plain_is}
use Rattle.directory.proofs.Outs.{not_refused, same_value}
use Rattle.directory.proofs.Tags.{size_in, list_unread, key_one, kind_wrong, count_low, count_high, in_entry, elsewhere}
use Rattle.directory.proofs.Tags.{values_found_law}
use Rattle.directory.proofs.Unread.{unread_bind, head_at, entry_asked, entries_asked}

-- tag, type and count of so many entries from a place on
unfoldable pub heads_from : Widths → ℕ → ℕ → List Stretch
heads_from w zero at = []
heads_from w (suc n) at = stretch at (head_width w) ∷ heads_from w n (at + entry_width w)

-- of a directory's entries
abbrev pub heads_of : Ifd → List Stretch
heads_of d = heads_from d.widths d.count d.at

-- the offset of an entry's value, where it does not stand in the entry
abbrev pub offset_asked : Widths → Option Found → List Stretch
offset_asked w None = []
offset_asked w (Some x) = pick (leb (bytes_of x.entry) w.word) [] (stretch x.place w.word ∷ [])

-- the value: in the entry, or where the offset says
abbrev pub value_asked : Widths → List ℕ → Order → Option Found → List Stretch
value_asked w f o None = []
value_asked w f o (Some x) =
    pick (leb (bytes_of x.entry) w.word) (stretch x.place (bytes_of x.entry) ∷ [])
    (stretch x.place w.word ∷ stretch (number_of o (part f x.place w.word)) (bytes_of x.entry) ∷ [])

-- of a tag of a directory; nothing of an absent one
abbrev pub offset_in : List ℕ → Ifd → ℕ → List Stretch
offset_in f d tag = offset_asked d.widths (run f (found_reading d tag))

abbrev pub value_in : List ℕ → Ifd → ℕ → List Stretch
value_in f d tag = value_asked d.widths f d.order (run f (found_reading d tag))

-- ---- bytes that are in no entry's tag, type and count
module _ (w : Widths) (j : ℕ) where
  pub heads_below : (n at : ℕ) → j < at → reads (heads_from w n at) j ≡ false
  unfolding heads_from
  heads_below zero at h = off_none j
  heads_below (suc n) at h =
      off_both j _ (heads_from w n (at + entry_width w)) (off_below j at (head_width w) h) (heads_below n (at + entry_width w) (omega arith))

  -- the next offset, and what lies behind
  pub heads_behind : (n at : ℕ) → at + entry_width w * n ≤ j → reads (heads_from w n at) j ≡ false
  unfolding heads_from
  heads_behind zero at h = off_none j
  heads_behind (suc n) at h =
      let e = mul-suc (entry_width w) n in
      off_both j _ (heads_from w n (at + entry_width w)) (off_behind j at (head_width w) (omega arith))
      (heads_behind n (at + entry_width w) (omega arith))

  -- the value or offset of the m-th entry
  pub heads_within :
      (n at m : ℕ) → at + entry_width w * m + head_width w ≤ j → j < at + entry_width w * m + entry_width w → reads (heads_from w n at) j ≡ false
  unfolding heads_from
  heads_within zero at m l h = off_none j
  heads_within (suc n) at zero l h =
      let e = mul-zero (entry_width w) in
      off_both j _ (heads_from w n (at + entry_width w)) (off_behind j at (head_width w) (omega arith))
      (heads_below n (at + entry_width w) (omega arith))
  heads_within (suc n) at (suc m) l h =
      let e = mul-suc (entry_width w) m in
      off_both j _ (heads_from w n (at + entry_width w)) (off_behind j at (head_width w) (omega arith))
      (heads_within n (at + entry_width w) m (omega arith) (omega arith))

-- what the shape test does not read
head_unasked : (w : Widths) (f : List ℕ) (o : Order) (j at : ℕ) → reads (entry_asked w f o at) j ≡ false → Off j at (head_width w)
unfolding entry_asked
head_unasked w f o j at h = off_first j (stretch at (head_width w)) _ h

pub heads_unasked :
    (w : Widths) (f : List ℕ) (o : Order) (j n at : ℕ) → reads (entries_asked w f o n at) j ≡ false → reads (heads_from w n at) j ≡ false
unfolding heads_from entries_asked
heads_unasked w f o j zero at h = off_none j
heads_unasked w f o j (suc n) at h =
    let rest = entries_asked w f o n (at + entry_width w) in
    off_both j _ (heads_from w n (at + entry_width w)) (head_unasked w f o j at (off_left j (entry_asked w f o at) rest h))
    (heads_unasked w f o j n (at + entry_width w) (off_right j (entry_asked w f o at) rest h))

-- ---- the test of a tag
undefined_code : (k : Kind) → allows_of kinds.Undefined k ≡ true → code_of k ≡ 7
undefined_code k e =
    let p : plain_of k ≡ 7 = eqb-true _ _ (key_one 7 (plain_of k) ∙ e) in
    ⊎_elim (λ h. h) (λ q. ⊎_elim (λ h. absurd (let z = h.1 in omega arith)) (λ h. absurd (let z = h.1 in omega arith)) q) (plain_is k 7 p)

module _ (w : Widths) (f : List ℕ) (o : Order) (j : ℕ) where
  find_unread : (tag n at : ℕ) → reads (heads_from w n at) j ≡ false → Unread f j (find_from w o n at tag)
  unfolding find_from heads_from
  find_unread tag zero at h = unread_answer f j None
  find_unread tag (suc n) at h =
      let rest = heads_from w n (at + entry_width w) in
      let later : reads rest j ≡ false = off_rest j (stretch at (head_width w)) rest h in
      unread_ask f j at (head_width w) _ (off_first j (stretch at (head_width w)) rest h)
      (unread_pick f j (eqb (head_at w f o at).tag tag) (answer (Some (found_at (at + head_width w) (head_at w f o at))))
      (find_from w o n (at + entry_width w) tag)
      (λ _. unread_answer f j (Some (found_at (at + head_width w) (head_at w f o at)))) (λ _. find_unread tag n (at + entry_width w) later))

  whole_unread : (p : ℕ) (e : Entry) → Off j p (bytes_of e) → Unread f j (whole_reading p e)
  unfolding whole_reading
  whole_unread p e h =
      unread_pick f j (eqb (code_of e.kind) 7) (answer (is (values_at p e))) _ (λ _. unread_answer f j (is (values_at p e)))
      (λ _. unread_ask f j p (bytes_of e) _ h (unread_answer f j (is (values_at p e))))

  value_unread : (p : ℕ) (e : Entry) → reads (value_asked w f o (Some (found_at p e))) j ≡ false → Unread f j (value_reading w o p e)
  unfolding value_reading pick
  value_unread p e h = go (leb (bytes_of e) w.word) h
    where
      go :
          (b : Bool) →
          reads (pick b (stretch p (bytes_of e) ∷ []) (stretch p w.word ∷ stretch (number_of o (part f p w.word)) (bytes_of e) ∷ [])) j
          ≡ false → Unread f j (pick b (whole_reading p e) (and_then (number_at o p w.word) (λ (q : ℕ). whole_reading q e)))
      go true g = whole_unread p e (off_first j (stretch p (bytes_of e)) [] g)
      go false g =
          let rest : List Stretch = stretch (number_of o (part f p w.word)) (bytes_of e) ∷ [] in
          let here : Unread f j (whole_reading (number_of o (part f p w.word)) e) =
          whole_unread _ e (off_first j (stretch (number_of o (part f p w.word)) (bytes_of e)) []
          (off_rest j (stretch p w.word) rest g)) in
          unread_then f j (number_at o p w.word) (λ (q : ℕ). whole_reading q e)
          (unread_number f j o p w.word (off_first j (stretch p w.word) rest g))
          (subst (λ (q : ℕ). Unread f j (whole_reading q e)) (sym (run_number f o p w.word)) here)

  list_value_unread :
      (p : ℕ) (e : Entry) → code_of e.kind ≡ 7 → reads (offset_asked w (Some (found_at p e))) j ≡ false → Unread f j (value_reading w o p e)
  unfolding value_reading pick
  list_value_unread p e k h = go (leb (bytes_of e) w.word) h
    where
      none : (q : ℕ) → Unread f j (whole_reading q e)
      none q = rw (list_unread f q e k) (off_none j)

      go :
          (b : Bool) → reads (pick b [] (stretch p w.word ∷ [])) j ≡ false →
          Unread f j (pick b (whole_reading p e) (and_then (number_at o p w.word) (λ (q : ℕ). whole_reading q e)))
      go true g = none p
      go false g =
          unread_then f j (number_at o p w.word) (λ (q : ℕ). whole_reading q e)
          (unread_number f j o p w.word (off_first j (stretch p w.word) [] g)) (none _)

  tested_unread :
      (r : Rule) (p : ℕ) (e : Entry) → (allows_of r.kinds e.kind ≡ true → Unread f j (value_reading w o p e)) →
      Unread f j (tested_reading w o r p e)
  unfolding tested_reading
  tested_unread r p e h =
      unread_pick f j (allows_of r.kinds e.kind) _ (answer (refused 4 r.tag))
      (λ k. unread_pick f j (leb r.least e.count) _ (answer (refused 4 r.tag))
      (λ _. unread_pick f j (leb e.count r.most) (value_reading w o p e) (answer (refused 4 r.tag))
      (λ _. h k) (λ _. unread_answer f j (refused 4 r.tag)))
      (λ _. unread_answer f j (refused 4 r.tag)))
      (λ _. unread_answer f j (refused 4 r.tag))

  found_unread : (r : Rule) (x : Option Found) → reads (value_asked w f o x) j ≡ false → Unread f j (values_found w o r x)
  found_unread r None h = unread_answer f j (absent_of r)
  found_unread r (Some x) h = tested_unread r x.place x.entry (λ _. value_unread x.place x.entry h)

  list_found_unread :
      (r : Rule) (x : Option Found) → r.kinds ≡ kinds.Undefined → reads (offset_asked w x) j ≡ false → Unread f j (values_found w o r x)
  list_found_unread r None k h = unread_answer f j (absent_of r)
  list_found_unread r (Some x) k h =
      tested_unread r x.place x.entry
      (λ a. list_value_unread x.place x.entry (undefined_code x.entry.kind (subst (λ ks. allows_of ks x.entry.kind ≡ true) k a)) h)

module _ (f : List ℕ) (d : Ifd) (j : ℕ) (heads : reads (heads_of d) j ≡ false) where
  -- a byte that lies neither in a tag, type or count of the entries nor in the tag's own value is not read for the tag
  pub other_value_unread : (r : Rule) → reads (value_in f d r.tag) j ≡ false → Unread f j (values_reading d r)
  unfolding values_reading
  other_value_unread r h =
      unread_then f j (found_reading d r.tag) (values_found d.widths d.order r)
      (find_unread d.widths f d.order j r.tag d.count d.at heads)
      (found_unread d.widths f d.order j r (run f (found_reading d r.tag)) h)

  -- of an opcode list (UNDEFINED) no byte but those of its offset
  pub list_tag_unread : (r : Rule) → r.kinds ≡ kinds.Undefined → reads (offset_in f d r.tag) j ≡ false → Unread f j (values_reading d r)
  unfolding values_reading
  list_tag_unread r k h =
      unread_then f j (found_reading d r.tag) (values_found d.widths d.order r)
      (find_unread d.widths f d.order j r.tag d.count d.at heads)
      (list_found_unread d.widths f d.order j r (run f (found_reading d r.tag)) k h)

  -- nor is it for a tag that is not carried, whose value is not read at all
  pub not_carried_unread : (tag : ℕ) → Unread f j (not_carried d tag)
  unfolding not_carried
  not_carried_unread tag =
      unread_then f j (found_reading d tag) (if_absent tag) (find_unread d.widths f d.order j tag d.count d.at heads)
      (go (run f (found_reading d tag)))
    where
      go : (x : Option Found) → Unread f j (if_absent tag x)
      go None = unread_answer f j (is 0)
      go (Some x) = unread_answer f j (refused 8 tag)

-- ---- the values of an accepted tag

-- byte j is in none of them; and what the rule says of them
pub record ValuesOff (j : ℕ) (r : Rule) (v : Values) : Type 0 where
  pub off : Off j v.place (v.size * v.count)
  pub typed : 0 < v.count → v.size ≡ kind_width v.kind
  pub sized : 0 < v.count → SizeIn r.kinds v.size
  pub enough : 0 < v.count → r.least ≤ v.count
  pub within : v.count ≤ r.most
  pub present : r.required ≡ true → r.least ≤ v.count

module _ (f : List ℕ) (j : ℕ) (r : Rule) (v : Values) where
  absent_off : is v ≡ run f (answer (absent_of r)) → ValuesOff j r v
  unfolding absent_of pick
  absent_off e = go r.required refl (e ∙ run_answer f (absent_of r))
    where
      go : (b : Bool) → r.required ≡ b → is v ≡ pick b (refused 5 r.tag) (is no_values) → ValuesOff j r v
      go true q h = absurd (not_refused v 5 r.tag h)
      go false q h =
          subst (ValuesOff j r) (sym (same_value v no_values h))
          (record {
            off = off_behind j 0 0 zero-le;
            typed = λ z. absurd (omega arith);
            sized = λ z. absurd (omega arith);
            enough = λ z. absurd (omega arith);
            within = omega arith;
            present = λ t. absurd (true≢false (sym t ∙ q));
          })

  module _ (w : Widths) (o : Order) (p : ℕ) (e : Entry) (t : is v ≡ run f (tested_reading w o r p e)) where
    tested_off : reads (value_asked w f o (Some (found_at p e))) j ≡ false → ValuesOff j r v
    unfolding pick
    tested_off h =
        go (allows_of r.kinds e.kind) refl (leb r.least e.count) refl (leb e.count r.most) refl
        (leb (bytes_of e) w.word) refl h
      where
        go :
            (k : Bool) → allows_of r.kinds e.kind ≡ k → (l : Bool) → leb r.least e.count ≡ l →
            (m : Bool) → leb e.count r.most ≡ m → (b : Bool) → leb (bytes_of e) w.word ≡ b →
            reads (pick b (stretch p (bytes_of e) ∷ [])
            (stretch p w.word ∷ stretch (number_of o (part f p w.word)) (bytes_of e) ∷ [])) j ≡ false →
            ValuesOff j r v
        go false ek l el m em b eb g = absurd (not_refused v 4 r.tag (t ∙ sym (kind_wrong w f o r p e ek)))
        go true ek false el m em b eb g = absurd (not_refused v 4 r.tag (t ∙ sym (count_low w f o r p e ek (leb-false _ _ el))))
        go true ek true el false em b eb g =
            absurd (not_refused v 4 r.tag (t ∙ sym (count_high w f o r p e ek (leb-true _ _ el) (leb-false _ _ em))))
        go true ek true el true em true eb g =
            subst (ValuesOff j r)
            (sym (same_value v _ (t ∙ sym (in_entry w f o r p e ek (leb-true _ _ el) (leb-true _ _ em) (leb-true _ _ eb)))))
            (record {
              off = off_first j (stretch p (bytes_of e)) [] g;
              typed = λ _. refl;
              sized = λ _. size_in r.kinds e.kind ek;
              enough = λ _. leb-true _ _ el;
              within = leb-true _ _ em;
              present = λ _. leb-true _ _ el;
            })
        go true ek true el true em false eb g =
            let q = number_of o (part f p w.word) in
            subst (ValuesOff j r)
            (sym (same_value v _ (t ∙ sym (elsewhere w f o r p e ek (leb-true _ _ el) (leb-true _ _ em) (leb-false _ _ eb) q refl))))
            (record {
              off = off_first j (stretch q (bytes_of e)) [] (off_rest j (stretch p w.word) _ g);
              typed = λ _. refl;
              sized = λ _. size_in r.kinds e.kind ek;
              enough = λ _. leb-true _ _ el;
              within = leb-true _ _ em;
              present = λ _. leb-true _ _ el;
            })

pub values_off :
    (f : List ℕ) (d : Ifd) (j : ℕ) (r : Rule) (v : Values) → is v ≡ run f (values_reading d r) → reads (value_in f d r.tag) j ≡ false →
    ValuesOff j r v
values_off f d j r v e h = go (run f (found_reading d r.tag)) (e ∙ values_found_law f d r _ refl) h
  where
    go :
        (x : Option Found) → is v ≡ run f (values_found d.widths d.order r x) → reads (value_asked d.widths f d.order x) j ≡ false →
        ValuesOff j r v
    go None t g = absent_off f j r v t
    go (Some x) t g = tested_off f j r v d.widths d.order x.place x.entry t g

-- the i-th of so many values
pub item_off : (j p s n i : ℕ) → Off j p (s * n) → i < n → Off j (p + s * i) s
item_off j p s n i h l =
    let k : suc i ≤ n = omega arith in
    off_inside j p (s * n) (p + s * i) s h (omega arith) (omega (arith, mul-le-mul_left s k, mul-suc s i))

-- the first
pub first_off : (j p s n : ℕ) → Off j p (s * n) → 0 < n → Off j p s
first_off j p s n h l =
    let k : 1 ≤ n = omega arith in
    off_inside j p (s * n) p s h (omega arith) (omega (arith, mul-le-mul_left s k, mul-suc s 0, mul-zero s))

-- ---- a tag's numbers
module _ (f : List ℕ) (j : ℕ) (o : Order) where
  pub first_unread :
      (tag default : ℕ) (r : Range) (v : Values) → Off j v.place (v.size * v.count) → Unread f j (first_reading o tag default r v)
  unfolding first_reading
  first_unread tag default r v h =
      unread_pick f j (eqb v.count 0) (answer (judged_of tag r default)) _ (λ _. unread_answer f j (judged_of tag r default))
      (λ e. let z : v.count ≡ 0 → ⊥ = eqb-false _ _ e in
      unread_then f j (number_at o v.place v.size) _
      (unread_number f j o v.place v.size (first_off j v.place v.size v.count h (omega arith)))
      (unread_answer f j (judged_of tag r _)))

  pub each_unread : (s tag : ℕ) (r : Range) (n p : ℕ) → Off j p (s * n) → Unread f j (each_reading o s tag r n p)
  unfolding each_reading
  each_unread s tag r zero p h = unread_answer f j (is 0)
  each_unread s tag r (suc n) p h =
      let m = mul-suc s n in
      unread_bind f j (and_then (number_at o p s) (λ (v : ℕ). answer (judged_of tag r v))) _
      (unread_then f j (number_at o p s) _ (unread_number f j o p s (off_inside j p (s * suc n) p s h (omega arith) (omega arith)))
      (unread_answer f j (judged_of tag r _)))
      (λ _ _. each_unread s tag r n (p + s) (off_inside j p (s * suc n) (p + s) (s * n) h (omega arith) (omega arith)))

module _ (f : List ℕ) (d : Ifd) (j : ℕ) (heads : reads (heads_of d) j ≡ false) (r : Rule)
    (value : reads (value_in f d r.tag) j ≡ false) where
  -- a tag that holds one number
  pub one_unread : (default : ℕ) (range : Range) → Unread f j (one_reading d r default range)
  unfolding one_reading
  one_unread default range =
      unread_bind f j (values_reading d r) _ (other_value_unread f d j heads r value)
      (λ v e. first_unread f j d.order r.tag default range v (values_off f d j r v e value).off)

  -- a tag whose numbers must all be in a range
  pub all_unread : (range : Range) → Unread f j (all_reading d r range)
  unfolding all_reading
  all_unread range =
      unread_bind f j (values_reading d r) _ (other_value_unread f d j heads r value)
      (λ v e. unread_bind f j (each_reading d.order v.size r.tag range v.count v.place) _
      (each_unread f j d.order v.size r.tag range v.count v.place (values_off f d j r v e value).off)
      (λ _ _. unread_answer f j (is v)))
