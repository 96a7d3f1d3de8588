-- Laws of tags: finding one, its type and count, its numbers, each by the code's tests.
-- Assumes nothing.
use mathlib.Core.Path.{◌≡◌, refl, sym, ap, subst, ◌∙◌}
use mathlib.Core.Bool.{Bool, true, false, not, ◌||◌, ◌&&◌}
use mathlib.Core.List.{List, [], ◌∷◌}
use mathlib.Core.Logic.{◌⊎◌, inl, inr, ⊎_elim}
use Prim.Native.Nat.{ℕ, zero, suc, ◌+◌, ◌*◌, ◌≤◌, ◌<◌}
use native.Mathlib.Numerals.{add-one}
use native.Mathlib.Omega.{arith}
use lib.Dec.{T, T_not, eqb, leb, ltb}
use lib.ListN.{length, get_or}
use mir.Val.{has_key}
use borrow.Author.Tests.{eqb-true, eqb-false, leb-true, leb-false, ltb-true, ltb-false, le-leb, lt-leb, eq-eqb, ne_eqb}
use Rattle.directory.specs.Facts.Out.{out}
use Rattle.reading.specs.Bytes.{part}
use Rattle.reading.specs.Number.{number_of}
use Rattle.reading.specs.Facts.Number.{Wide}
use Rattle.reading.specs.Reading.{Reading.answer, Reading.ask, and_then, run, trace, pick, number_at}
use Rattle.reading.specs.declared.number.Order.{Order}
use Rattle.reading.proofs.Reading.{running, run_answer, run_ask, run_then, pick_yes, pick_no, trace_answer}
use Rattle.directory.specs.Out.{Out, Out.refused, Out.is}
use Rattle.directory.specs.Widths.{head_width, entry_width}
use Rattle.directory.specs.Entry.{code_of, plain_of, sizes, kind_width, bytes_of, entry_of}
use Rattle.directory.specs.Shape.{entry_reading, shape_from}
use Rattle.directory.specs.Tag.{found_at, find_from, found_reading, allows_of, values_at, no_values, whole_reading, value_reading, tested_reading}
use Rattle.directory.specs.Tag.{values_found, values_reading, required, optional, range_fault, judged_of, first_reading, each_reading}
use Rattle.directory.specs.Facts.Tag.{ValuesIn, Placed, Long, SizeIn, Numeric, PlacedValues, InRange, NumberIn}
use Rattle.directory.specs.declared.Ifd.{Ifd}
use Rattle.directory.specs.declared.Widths.{Widths}
use Rattle.directory.specs.declared.entry.Kind.{Kind}
use Rattle.directory.specs.declared.entry.Entry.{Entry}
use Rattle.directory.specs.declared.tag.Found.{Found}
use Rattle.std.specs.Prelude.{Option, Some, None, Result, Ok, Err}
use Rattle.directory.specs.declared.refusal.Refusal.{Refusal}
use Rattle.directory.specs.declared.tag.Kinds.{Kinds}
use Rattle.directory.specs.declared.tag.Kinds.TheVariants as kinds
use Rattle.directory.specs.declared.tag.Rule.{Rule}
use Rattle.directory.specs.declared.tag.Range.{Range}
use Rattle.directory.specs.declared.tag.Values.{Values}
use Rattle.directory.proofs.Entries.{plain_is}
use Rattle.directory.proofs.Outs.{bind_refused, bind_is, not_refused}
use Rattle.directory.proofs.Shapes.{entry_outside, shape_refused, shape_order, shape_next}

-- ---- finding a tag
module _ (w : Widths) (f : List ℕ) (o : Order) (at tag : ℕ) where
  pub find_none : None ≡ run f (find_from w o 0 at tag)
  unfolding find_from
  find_none = simp running

  module _ (n m : ℕ) (h : n ≡ m + 1) (e : Entry) (head : e ≡ entry_of w o (part f at (head_width w))) where
    pub find_here : e.tag ≡ tag → Some (found_at (at + head_width w) e) ≡ run f (find_from w o n at tag)
    unfolding find_from
    find_here t = rw (h, add-one m, run_ask, ← head, eq-eqb _ _ t, pick_yes, run_answer)

    pub find_later : (e.tag ≡ tag → ⊥) → run f (find_from w o n at tag) ≡ run f (find_from w o m (at + entry_width w) tag)
    unfolding find_from
    find_later t = rw (h, add-one m, run_ask, ← head, ne_eqb _ _ t, pick_no)

-- what is found in a directory whose shape was tested has its value in the file
unfoldable pub PlacedIn : Widths → List ℕ → Order → Option Found → Type 0
PlacedIn w f o None = Unit {0}
PlacedIn w f o (Some x) = Placed w f o x.place x.entry

module _ (w : Widths) (f : List ℕ) (o : Order) where
  entry_placed : (at t : ℕ) → is t ≡ run f (entry_reading w (length f) o at) →
      Placed w f o (at + head_width w) (entry_of w o (part f at (head_width w)))
  unfolding Placed
  entry_placed at t r b = go (leb (p + bytes_of e) (length f)) refl
    where
      e : Entry
      e = entry_of w o (part f at (head_width w))

      p : ℕ
      p = number_of o (part f (at + head_width w) w.word)

      go : (q : Bool) → leb (p + bytes_of e) (length f) ≡ q → p + bytes_of e ≤ length f
      go true h = leb-true _ _ h
      go false h = absurd (not_refused t 3 0 (r ∙ sym (entry_outside w f (length f) o at e refl b p refl (leb-false _ _ h))))

  module _ (tag : ℕ) where
    found_step : (n at low z : ℕ) →
        ((t : ℕ) → is z ≡ run f (shape_from w (length f) o n (at + entry_width w) t) →
        PlacedIn w f o (run f (find_from w o n (at + entry_width w) tag))) →
        is z ≡ run f (shape_from w (length f) o (suc n) at low) →
        (r : Out ℕ) → r ≡ run f (entry_reading w (length f) o at) → (b : Bool) → eqb (entry_of w o (part f at (head_width w))).tag tag ≡ b →
        PlacedIn w f o (run f (find_from w o (suc n) at tag))
    unfolding PlacedIn
    found_step n at low z rec s (refused k d) e b q = absurd
        (not_refused z k d (s ∙ sym (shape_refused w f (length f) o at low (suc n) n (omega arith) k d e)))
    found_step n at low z rec s (is t) e true q =
        subst (PlacedIn w f o) (find_here w f o at tag (suc n) n (omega arith) (entry_of w o (part f at (head_width w))) refl
        (eqb-true _ _ q))
        (entry_placed at t e)
    found_step n at low z rec s (is t) e false q =
        subst (PlacedIn w f o) (sym (find_later w f o at tag (suc n) n (omega arith) (entry_of w o (part f at (head_width w))) refl
        (eqb-false _ _ q)))
        (rec (t + 1) (go (ltb t low) refl))
      where
        go : (c : Bool) → ltb t low ≡ c → is z ≡ run f (shape_from w (length f) o n (at + entry_width w) (t + 1))
        go true l = absurd (not_refused z 3 0 (s ∙ sym (shape_order w f (length f) o at low (suc n) n (omega arith) t e (ltb-true _ _ l))))
        go false l = s ∙ shape_next w f (length f) o at low (suc n) n (omega arith) t e (ltb-false _ _ l)

    pub found_placed : (n at low z : ℕ) → is z ≡ run f (shape_from w (length f) o n at low) → PlacedIn w f o (run f (find_from w o n at tag))
    unfolding PlacedIn
    found_placed zero at low z s = subst (PlacedIn w f o) (find_none w f o at tag) tt
    found_placed (suc n) at low z s =
        found_step n at low z (λ t. found_placed n (at + entry_width w) t z) s (run f (entry_reading w (length f) o at)) refl
        (eqb (entry_of w o (part f at (head_width w))).tag tag) refl

-- ---- type and count

-- a listed number, by cases
one_key : (a t : ℕ) → has_key (a ∷ []) t ≡ true → t ≡ a
one_key a t e = go (eqb a t) refl e
  where
    go : (b : Bool) → eqb a t ≡ b → (b || false) ≡ true → t ≡ a
    go true q h = sym (eqb-true a t q)
    go false q h = absurd (let z : ◌≡◌ {A = ℕ} 0 1 = cc in omega arith)

more_keys : (a : ℕ) (ks : List ℕ) (t : ℕ) → has_key (a ∷ ks) t ≡ true → (t ≡ a) ⊎ (has_key ks t ≡ true)
more_keys a ks t e = go (eqb a t) refl e
  where
    go : (b : Bool) → eqb a t ≡ b → (b || has_key ks t) ≡ true → (t ≡ a) ⊎ (has_key ks t ≡ true)
    go true q h = inl (sym (eqb-true a t q))
    go false q h = inr h

-- and by the code's tests
pub key_here : (a : ℕ) (ks : List ℕ) (t : ℕ) → t ≡ a → true ≡ has_key (a ∷ ks) t
key_here a ks t e = rw (eq-eqb a t (sym e))

pub key_there : (a : ℕ) (ks : List ℕ) (t : ℕ) → (t ≡ a → ⊥) → has_key ks t ≡ has_key (a ∷ ks) t
key_there a ks t e = rw (ne_eqb a t (λ q. e (sym q)))

pub key_one : (a t : ℕ) → eqb t a ≡ has_key (a ∷ []) t
key_one a t = go (eqb t a) refl
  where
    go : (b : Bool) → eqb t a ≡ b → b ≡ has_key (a ∷ []) t
    go true e = key_here a [] t (eqb-true t a e)
    go false e = key_there a [] t (eqb-false t a e)

sized : (k : Kind) (t : ℕ) → code_of k ≡ t → kind_width k ≡ get_or sizes t 0
unfolding kind_width
sized k t e = ap (λ (n : ℕ). get_or sizes n 0) e

-- LONG or LONG8, IFD or IFD8, and any other type
long_code : (k : Kind) → plain_of k ≡ 4 → (code_of k ≡ 4) ⊎ (code_of k ≡ 16)
long_code k e = ⊎_elim inl (λ q. ⊎_elim (λ h. inr h.0) (λ h. absurd (let z = h.1 in omega arith)) q) (plain_is k 4 e)

offset_code : (k : Kind) → plain_of k ≡ 13 → (code_of k ≡ 13) ⊎ (code_of k ≡ 18)
offset_code k e = ⊎_elim inl (λ q. ⊎_elim (λ h. absurd (let z = h.1 in omega arith)) (λ h. inr h.0) q) (plain_is k 13 e)

abbrev other : ℕ → Bool
other a = not (eqb a 4) && not (eqb a 13)

other_code : (k : Kind) (a : ℕ) → T (other a) → plain_of k ≡ a → code_of k ≡ a
other_code k a o e = ⊎_elim (λ h. h) (λ q. ⊎_elim (λ h. clash 4 h.1 tt) (λ h. clash 13 h.1 tt) q) (plain_is k a e)
  where
    clash : (b : ℕ) → a ≡ b → T (not (other b)) → code_of k ≡ a
    clash b h t = absurd (T_not (other b) t (subst (λ (n : ℕ). T (other n)) h o))

-- the bytes of one value
long : (k : Kind) → plain_of k ≡ 4 → Long (kind_width k)
long k e = ⊎_elim (λ h. inl (sized k 4 h)) (λ h. inr (sized k 16 h)) (long_code k e)

offset : (k : Kind) → plain_of k ≡ 13 → Long (kind_width k)
offset k e = ⊎_elim (λ h. inl (sized k 13 h)) (λ h. inr (sized k 18 h)) (offset_code k e)

only : (k : Kind) (a : ℕ) → T (other a) → plain_of k ≡ a → kind_width k ≡ get_or sizes a 0
only k a o e = sized k a (other_code k a o e)

-- SHORT, LONG or RATIONAL by their numbers
pub number_or_fraction : (k : Kind) → allows_of kinds.ShortLongOrRational k ≡ true →
    (code_of k ≡ 3) ⊎ (((code_of k ≡ 4) ⊎ (code_of k ≡ 16)) ⊎ (code_of k ≡ 5))
number_or_fraction k e =
    ⊎_elim (λ h. inl (other_code k 3 tt h))
    (λ h. inr (⊎_elim (λ q. inl (long_code k q)) (λ q. inr (other_code k 5 tt (one_key 5 _ q))) (more_keys 4 (5 ∷ []) (plain_of k) h)))
    (more_keys 3 (4 ∷ 5 ∷ []) (plain_of k) e)

-- SHORT or RATIONAL
pub short_or_fraction : (k : Kind) → allows_of kinds.ShortOrRational k ≡ true → (code_of k ≡ 3) ⊎ (code_of k ≡ 5)
short_or_fraction k e =
    ⊎_elim (λ h. inl (other_code k 3 tt h)) (λ h. inr (other_code k 5 tt (one_key 5 _ h))) (more_keys 3 (5 ∷ []) (plain_of k) e)

-- the bytes of one value of a type that is allowed
pub size_in : (ks : Kinds) (k : Kind) → allows_of ks k ≡ true → SizeIn ks (kind_width k)
size_in kinds.Byte k e = only k 1 tt (one_key 1 _ e)
size_in kinds.Short k e = only k 3 tt (one_key 3 _ e)
size_in kinds.Long k e = long k (one_key 4 _ e)
size_in kinds.ShortOrLong k e =
    ⊎_elim (λ h. inl (only k 3 tt h)) (λ h. inr (long k (one_key 4 _ h))) (more_keys 3 (4 ∷ []) (plain_of k) e)
size_in kinds.LongOrIfd k e = ⊎_elim (λ h. long k h) (λ h. offset k (one_key 13 _ h)) (more_keys 4 (13 ∷ []) (plain_of k) e)
size_in kinds.ShortOrRational k e =
    ⊎_elim (λ h. inl (only k 3 tt h))
    (λ h. inr (only k 5 tt (one_key 5 _ h)))
    (more_keys 3 (5 ∷ []) (plain_of k) e)
size_in kinds.ShortLongOrRational k e =
    ⊎_elim (λ h. inl (only k 3 tt h))
    (λ h. inr (⊎_elim (long k) (λ q. inr (only k 5 tt (one_key 5 _ q))) (more_keys 4 (5 ∷ []) (plain_of k) h)))
    (more_keys 3 (4 ∷ 5 ∷ []) (plain_of k) e)
size_in kinds.SignedRational k e = only k 10 tt (one_key 10 _ e)
size_in kinds.Undefined k e = only k 7 tt (one_key 7 _ e)

run_whole_law : (f : List ℕ) (p : ℕ) (e : Entry) → run f (whole_reading p e) ≡ is (values_at p e)
unfolding whole_reading pick
run_whole_law f p e = go (eqb (code_of e.kind) 7)
  where
    go : (b : Bool) → run f (pick b (answer (is (values_at p e))) (ask p (bytes_of e) (λ _. answer (is (values_at p e))))) ≡ is (values_at p e)
    go true = simp running
    go false = simp running

-- no byte of an opcode list is read for its tag's test
pub list_unread : (f : List ℕ) (p : ℕ) (e : Entry) → code_of e.kind ≡ 7 → trace f (whole_reading p e) ≡ []
unfolding whole_reading pick
list_unread f p e h = rw (eq-eqb _ _ h) (trace_answer f (is (values_at p e)))

-- an entry of a tag
module _ (w : Widths) (f : List ℕ) (o : Order) (r : Rule) (p : ℕ) (e : Entry) where
  pub kind_wrong : allows_of r.kinds e.kind ≡ false → refused 4 r.tag ≡ run f (tested_reading w o r p e)
  unfolding tested_reading
  kind_wrong k = simp (running, k)

  module _ (k : allows_of r.kinds e.kind ≡ true) where
    pub count_low : e.count < r.least → refused 4 r.tag ≡ run f (tested_reading w o r p e)
    unfolding tested_reading
    count_low l = simp (running, k, lt-leb _ _ l)

    module _ (l : r.least ≤ e.count) where
      pub count_high : r.most < e.count → refused 4 r.tag ≡ run f (tested_reading w o r p e)
      unfolding tested_reading
      count_high m = simp (running, k, le-leb _ _ l, lt-leb _ _ m)

      module _ (m : e.count ≤ r.most) where
        pub in_entry : bytes_of e ≤ w.word → is (values_at p e) ≡ run f (tested_reading w o r p e)
        unfolding tested_reading value_reading
        in_entry b = simp (running, run_whole_law, k, le-leb _ _ l, le-leb _ _ m, le-leb _ _ b)

        pub elsewhere : w.word < bytes_of e → (v : ℕ) → v ≡ number_of o (part f p w.word) →
            is (values_at v e) ≡ run f (tested_reading w o r p e)
        unfolding tested_reading value_reading
        elsewhere b v q = simp (running, run_whole_law, k, le-leb _ _ l, le-leb _ _ m, lt-leb _ _ b, ← q)

        values_in : (size v : ℕ) → v + bytes_of e ≤ size → PlacedValues size r (values_at v e)
        values_in size v h =
            let s = size_in r.kinds e.kind k in
            record { inside = h; typed = λ _. (k, refl); sized = λ _. s; enough = λ _. l; within = m; present = λ _. l }

        pub inside_entry : (size : ℕ) → p + w.word ≤ size → bytes_of e ≤ w.word → PlacedValues size r (values_at p e)
        inside_entry size h b = values_in size p (omega arith)

        pub inside_file : w.word < bytes_of e → Placed w f o p e → (v : ℕ) → v ≡ number_of o (part f p w.word) →
            PlacedValues (length f) r (values_at v e)
        unfolding Placed
        inside_file b h v q = values_in (length f) v (rw q (h b))

pub values_found_law : (f : List ℕ) (d : Ifd) (r : Rule) (fd : Option Found) → fd ≡ run f (found_reading d r.tag) →
    run f (values_reading d r) ≡ run f (values_found d.widths d.order r fd)
unfolding values_reading
values_found_law f d r fd e = run_then _ _ _ fd e

-- a tag that was looked up: its values, and what holds of them
pub looked_up : (f : List ℕ) (d : Ifd) (r : Rule) {g : Result Values Refusal} {v : Values} → g ≡ Ok v →
    (out g ≡ run f (values_reading d r)) × ValuesIn (length f) r g → (is v ≡ run f (values_reading d r)) × PlacedValues (length f) r v
looked_up f d r e q = (ap out (sym e) ∙ q.0, subst (ValuesIn (length f) r) e q.1)

pub absent_in : (size : ℕ) (r : Rule) → r.required ≡ false → PlacedValues size r no_values
absent_in size r e =
    record {
      inside = omega arith;
      typed = λ h. absurd (omega arith);
      sized = λ h. absurd (omega arith);
      enough = λ h. absurd (omega arith);
      within = omega arith;
      present = λ h. absurd (let n : ◌≡◌ {A = ℕ} 0 1 = cc in omega arith);
    }

-- so many values, required: that many
pub exactly : {size : ℕ} (tag : ℕ) (ks : Kinds) (n : ℕ) {v : Values} → PlacedValues size (required tag ks n) v → 0 < n →
    (v.place + v.size * n ≤ size) × SizeIn ks v.size
exactly tag ks n {v} q z =
    let l : n ≤ v.count = q.present refl in
    let m : v.count ≤ n = q.within in
    let c : v.count ≡ n = omega arith in
    (rw c at q.inside, q.sized (omega arith))

-- ---- numbers
pub wide : (ks : Kinds) → Numeric ks → (s : ℕ) → SizeIn ks s → Wide s
wide kinds.Byte n s e = absurd n
wide kinds.Short n s e = inl e
wide kinds.Long n s e = inr e
wide kinds.ShortOrLong n s e = e
wide kinds.LongOrIfd n s e = inr e
wide kinds.ShortOrRational n s e = absurd n
wide kinds.ShortLongOrRational n s e = absurd n
wide kinds.SignedRational n s e = absurd n
wide kinds.Undefined n s e = absurd n

pub judged_is : (tag : ℕ) (r : Range) (v : ℕ) → range_fault r v ≡ 0 → is v ≡ judged_of tag r v
unfolding judged_of
judged_is tag r v e = simp (eq-eqb _ _ e, pick_yes)

pub judged_bad : (tag : ℕ) (r : Range) (v : ℕ) → (range_fault r v ≡ 0 → ⊥) → refused (range_fault r v) tag ≡ judged_of tag r v
unfolding judged_of
judged_bad tag r v e = simp (ne_eqb _ _ e, pick_no)

-- a number at a place, judged
pub judged_at : (f : List ℕ) (o : Order) (at size tag : ℕ) (r : Range) (v : ℕ) → v ≡ number_of o (part f at size) →
    judged_of tag r v ≡ run f (and_then (number_at o at size) (λ n. answer (judged_of tag r n)))
judged_at f o at size tag r v q = simp (running, ← q)

-- so many numbers
module _ (f : List ℕ) (o : Order) (size tag : ℕ) (r : Range) (p : ℕ) where
  pub each_none : is 0 ≡ run f (each_reading o size tag r 0 p)
  unfolding each_reading
  each_none = simp running

  module _ (n m v : ℕ) (h : n ≡ m + 1) (q : v ≡ number_of o (part f p size)) where
    pub each_bad : (k d : ℕ) → refused k d ≡ judged_of tag r v → refused k d ≡ run f (each_reading o size tag r n p)
    unfolding each_reading
    each_bad k d e = rw (h, add-one m) (bind_refused f _ _ k d (e ∙ judged_at f o p size tag r v q))

    pub each_next : (t : ℕ) → is t ≡ judged_of tag r v → run f (each_reading o size tag r n p) ≡ run f (each_reading o size tag r m (p + size))
    unfolding each_reading
    each_next t e = rw (h, add-one m) (bind_is f _ _ t (e ∙ judged_at f o p size tag r v q))

-- the first number of a tag
module _ (f : List ℕ) (o : Order) (tag default : ℕ) (r : Range) (v : Values) where
  pub first_default : v.count ≡ 0 → judged_of tag r default ≡ run f (first_reading o tag default r v)
  unfolding first_reading
  first_default e = simp (eq-eqb _ _ e, pick_yes, run_answer)

  pub first_is : (v.count ≡ 0 → ⊥) → (n : ℕ) → n ≡ number_of o (part f v.place v.size) →
      judged_of tag r n ≡ run f (first_reading o tag default r v)
  unfolding first_reading
  first_is c n q = simp (ne_eqb _ _ c, running, ← q)

pub widen : (a b : Range) → ((v : ℕ) → InRange a v → InRange b v) → (n : Result ℕ Refusal) → NumberIn a n → NumberIn b n
widen a b h (Err e) i = tt
widen a b h (Ok v) i = h v i

-- a tag that is there has as many values as its rule says
pub counted : {size : ℕ} (tag : ℕ) (ks : Kinds) (n : ℕ) {v : Values} → PlacedValues size (optional tag ks n) v → (v.count ≡ 0 → ⊥) →
    (v.place + v.size * n ≤ size) × SizeIn ks v.size
counted tag ks n {v} q e =
    let z : 0 < v.count = omega arith in
    let l = q.enough z in
    let m = q.within in
    let c : v.count ≡ n = omega arith in
    (rw c at q.inside, q.sized z)
