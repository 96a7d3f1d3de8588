-- What is read of a directory: the shape test reads its count and entries, and the test of a tag reads tag, type and count of the
-- entries and that tag's value. A next offset is not read, nor another tag's value, not even one that stands in its entry.
-- Assumes nothing.
use mathlib.Core.Path.{◌≡◌, refl, sym, ap, subst, ◌∙◌}
use mathlib.Core.Bool.{Bool, true, false}
use mathlib.Core.List.{List, [], ◌∷◌, ◌++◌, append-nil}
use Prim.Native.Nat.{ℕ, zero, suc, ◌+◌, ◌*◌, ◌≤◌, ◌<◌}
use native.Mathlib.Nat.{mul-suc, mul-zero}
use native.Mathlib.Omega.{arith}
use lib.Dec.{leb, ltb}
use borrow.Author.Tests.{leb-true, leb-false, ltb-true, ltb-false, le-leb}
use Rattle.reading.specs.Bytes.{part}
use Rattle.reading.specs.Number.{number_of}
use Rattle.reading.specs.Reading.{Reading, Reading.answer, Stretch, run, trace, and_then, pick, reads, number_at}
use Rattle.reading.specs.declared.number.Order.{Order}
use Rattle.reading.proofs.Reading.{stretch, tracing, run_number, trace_answer, trace_ask, pick_yes}
use Rattle.reading.proofs.Unread.{Unread, Off, off_below, off_behind, off_none, off_first, off_rest, off_both, off_left}
use Rattle.reading.proofs.Unread.{off_right, off_append, unread_answer, unread_number, unread_then, unread_pick}
use Rattle.directory.specs.Out.{Out, Out.refused, Out.is, onward, bind}
use Rattle.directory.specs.Widths.{head_width, entry_width}
use Rattle.directory.specs.Entry.{bytes_of, entry_of}
use Rattle.directory.specs.Shape.{place_test, entry_reading, order_test, shape_from, ifd, ifd_reading}
use Rattle.directory.specs.declared.Ifd.{Ifd}
use Rattle.directory.specs.declared.Widths.{Widths}
use Rattle.directory.specs.declared.entry.Entry.{Entry}
use Rattle.directory.proofs.Outs.{bind_trace, bind_inverse, not_refused, same_value}
use Rattle.directory.proofs.Shapes.{ifd_outside, ifd_empty, ifd_cut, ifd_refused, ifd_is}

-- one reading, and what follows from its value
pub unread_bind :
    {A B : Type 0} (f : List ℕ) (j : ℕ) (p : Reading (Out A)) (k : A → Reading (Out B)) → Unread f j p →
    ((a : A) → is a ≡ run f p → Unread f j (k a)) → Unread f j (bind p k)
unfolding bind
unread_bind {A} f j p k h g = unread_then f j p (onward k) h (rest (run f p) refl)
  where
    rest : (x : Out A) → x ≡ run f p → Unread f j (onward k x)
    rest (refused n d) e = unread_answer f j (refused n d)
    rest (is a) e = g a e

-- ---- the shape of a directory

module _ (w : Widths) (f : List ℕ) (o : Order) where
  -- tag, type and count of the entry at a place
  abbrev pub head_at : ℕ → Entry
  head_at at = entry_of w o (part f at (head_width w))

  -- what the shape test reads of an entry: tag, type and count; and the offset of a value that does not stand in the entry
  unfoldable pub entry_asked : ℕ → List Stretch
  entry_asked at = stretch at (head_width w) ∷ pick (leb (bytes_of (head_at at)) w.word) [] (stretch (at + head_width w) w.word ∷ [])

  -- of so many entries from a place on
  unfoldable pub entries_asked : ℕ → ℕ → List Stretch
  entries_asked zero at = []
  entries_asked (suc n) at = entry_asked at ++ entries_asked n (at + entry_width w)

  -- how many entries the directory at an offset says that it has
  abbrev pub entries_in : ℕ → ℕ
  entries_in at = number_of o (part f at w.entries)

  -- of the directory at an offset: its count, then its entries
  abbrev pub directory_asked : ℕ → List Stretch
  directory_asked at = stretch at w.entries ∷ entries_asked (entries_in at) (at + w.entries)

module _ (w : Widths) (f : List ℕ) (o : Order) (j : ℕ) where
  entry_below : (at : ℕ) → j < at → reads (entry_asked w f o at) j ≡ false
  unfolding entry_asked pick
  entry_below at h = off_both j _ _ (off_below j at (head_width w) h) (go (leb (bytes_of (head_at w f o at)) w.word))
    where
      go : (b : Bool) → reads (pick b [] (stretch (at + head_width w) w.word ∷ [])) j ≡ false
      go true = off_none j
      go false = off_both j _ [] (off_below j (at + head_width w) w.word (omega arith)) (off_none j)

  entry_behind : (at : ℕ) → at + entry_width w ≤ j → reads (entry_asked w f o at) j ≡ false
  unfolding entry_asked pick
  entry_behind at h = off_both j _ _ (off_behind j at (head_width w) (omega arith)) (go (leb (bytes_of (head_at w f o at)) w.word))
    where
      go : (b : Bool) → reads (pick b [] (stretch (at + head_width w) w.word ∷ [])) j ≡ false
      go true = off_none j
      go false = off_both j _ [] (off_behind j (at + head_width w) w.word (omega arith)) (off_none j)

  -- nothing before the entries, and nothing behind them
  pub entries_below : (n at : ℕ) → j < at → reads (entries_asked w f o n at) j ≡ false
  unfolding entries_asked
  entries_below zero at h = off_none j
  entries_below (suc n) at h =
      off_append j (entry_asked w f o at) (entries_asked w f o n (at + entry_width w)) (entry_below at h)
      (entries_below n (at + entry_width w) (omega arith))

  pub entries_behind : (n at : ℕ) → at + entry_width w * n ≤ j → reads (entries_asked w f o n at) j ≡ false
  unfolding entries_asked
  entries_behind zero at h = off_none j
  entries_behind (suc n) at h =
      let e = mul-suc (entry_width w) n in
      off_append j (entry_asked w f o at) (entries_asked w f o n (at + entry_width w)) (entry_behind at (omega arith))
      (entries_behind n (at + entry_width w) (omega arith))

  -- nor the value of the m-th entry, where it stands in the entry
  pub entries_within :
      (n at m : ℕ) → bytes_of (head_at w f o (at + entry_width w * m)) ≤ w.word → at + entry_width w * m + head_width w ≤ j →
      j < at + entry_width w * m + entry_width w → reads (entries_asked w f o n at) j ≡ false
  unfolding entries_asked entry_asked
  entries_within zero at m b l h = off_none j
  entries_within (suc n) at zero b l h =
      let z : at + entry_width w * 0 ≡ at = omega (arith, mul-zero (entry_width w)) in
      let c : bytes_of (head_at w f o at) ≤ w.word = subst (λ (p : ℕ). bytes_of (head_at w f o p) ≤ w.word) z b in
      let none : reads (pick (leb (bytes_of (head_at w f o at)) w.word) [] (stretch (at + head_width w) w.word ∷ [])) j ≡ false =
      rw (le-leb _ _ c, pick_yes) (off_none j) in
      off_append j _ (entries_asked w f o n (at + entry_width w)) (off_both j _ _ (off_behind j at (head_width w) (omega arith)) none)
      (entries_below n (at + entry_width w) (omega arith))
  entries_within (suc n) at (suc m) b l h =
      let e = mul-suc (entry_width w) m in
      let z : at + entry_width w * suc m ≡ at + entry_width w + entry_width w * m = omega arith in
      off_append j (entry_asked w f o at) (entries_asked w f o n (at + entry_width w)) (entry_behind at (omega arith))
      (entries_within n (at + entry_width w) m (subst (λ (p : ℕ). bytes_of (head_at w f o p) ≤ w.word) z b) (omega arith) (omega arith))

module _ (w : Widths) (f : List ℕ) (size : ℕ) (o : Order) where
  place_asks :
      (at : ℕ) (e : Entry) →
      trace f (place_test w size o at e) ≡ pick (leb (bytes_of e) w.word) [] (stretch (at + head_width w) w.word ∷ [])
  unfolding place_test pick
  place_asks at e = go (leb (bytes_of e) w.word)
    where
      go :
          (b : Bool) →
          trace f (pick b (answer (is e.tag)) (and_then (number_at o (at + head_width w) w.word) (λ (p : ℕ).
          answer (pick (leb (p + bytes_of e) size) (is e.tag) (refused 3 0)))))
          ≡ pick b [] (stretch (at + head_width w) w.word ∷ [])
      go true = trace_answer f (is e.tag)
      go false = simp tracing

  entry_asks : (at : ℕ) → trace f (entry_reading w size o at) ≡ entry_asked w f o at
  unfolding entry_reading entry_asked
  entry_asks at = trace_ask f at (head_width w) _ ∙ ap (λ (l : List Stretch). stretch at (head_width w) ∷ l) (place_asks at (head_at w f o at))

  abbrev ordered : ℕ → ℕ → ℕ → ℕ → Reading (Out ℕ)
  ordered n at low tag = bind (answer (order_test low tag)) (λ (next : ℕ). shape_from w size o n (at + entry_width w) next)

  -- accepted or refused, the shape test of so many entries reads no other byte
  pub shape_unread : (j n at low : ℕ) → reads (entries_asked w f o n at) j ≡ false → Unread f j (shape_from w size o n at low)
  unfolding shape_from entries_asked
  shape_unread j zero at low h = unread_answer f j (is low)
  shape_unread j (suc n) at low h =
      let rest = entries_asked w f o n (at + entry_width w) in
      let here : Unread f j (entry_reading w size o at) = rw (entry_asks at) (off_left j (entry_asked w f o at) rest h) in
      let later : reads rest j ≡ false = off_right j (entry_asked w f o at) rest h in
      unread_bind f j (entry_reading w size o at) (ordered n at low) here (λ tag _.
      unread_bind f j (answer (order_test low tag)) (λ (next : ℕ). shape_from w size o n (at + entry_width w) next)
      (unread_answer f j (order_test low tag)) (λ next _. shape_unread j n (at + entry_width w) next later))

  -- accepted, it reads just these stretches
  pub shape_asks :
      (n at low z : ℕ) → is z ≡ run f (shape_from w size o n at low) → trace f (shape_from w size o n at low) ≡ entries_asked w f o n at
  unfolding shape_from entries_asked
  shape_asks zero at low z e = trace_answer f (is low)
  shape_asks (suc n) at low z e =
      let later : ℕ → Reading (Out ℕ) = λ next. shape_from w size o n (at + entry_width w) next in
      let t = bind_inverse f (entry_reading w size o at) (ordered n at low) z e in
      let u = bind_inverse f (answer (order_test low t.0)) later z t.2 in
      let r : trace f (later u.0) ≡ entries_asked w f o n (at + entry_width w) = shape_asks n (at + entry_width w) u.0 z u.2 in
      let q : trace f (ordered n at low t.0) ≡ entries_asked w f o n (at + entry_width w) =
      bind_trace f (answer (order_test low t.0)) later u.0 u.1
      ∙ ap (λ (l : List Stretch). l ++ trace f (later u.0)) (trace_answer f (order_test low t.0)) ∙ r in
      bind_trace f (entry_reading w size o at) (ordered n at low) t.0 t.1
      ∙ ap (λ (l : List Stretch). l ++ trace f (ordered n at low t.0)) (entry_asks at)
      ∙ ap (λ (l : List Stretch). entry_asked w f o at ++ l) q

  abbrev entries_tested : ℕ → ℕ → Reading (Out Ifd)
  entries_tested at n = bind (shape_from w size o n (at + w.entries) 0) (λ (_ : ℕ). answer (is (ifd w o n (at + w.entries))))

  abbrev counted : ℕ → ℕ → Reading (Out Ifd)
  counted at n =
      pick (ltb 0 n) (pick (leb (at + w.entries + entry_width w * n + w.word) size) (entries_tested at n) (answer (refused 3 0)))
      (answer (refused 3 0))

  counted_unread : (j at n : ℕ) → reads (entries_asked w f o n (at + w.entries)) j ≡ false → Unread f j (counted at n)
  counted_unread j at n h =
      unread_pick f j (ltb 0 n) _ (answer (refused 3 0))
      (λ _. unread_pick f j (leb (at + w.entries + entry_width w * n + w.word) size) (entries_tested at n) (answer (refused 3 0))
      (λ _. unread_bind f j (shape_from w size o n (at + w.entries) 0) _ (shape_unread j n (at + w.entries) 0 h)
      (λ _ _. unread_answer f j (is (ifd w o n (at + w.entries)))))
      (λ _. unread_answer f j (refused 3 0)))
      (λ _. unread_answer f j (refused 3 0))

  -- accepted or refused, a directory's shape test reads no byte but of its count and its entries
  pub ifd_unread : (j at : ℕ) → reads (directory_asked w f o at) j ≡ false → Unread f j (ifd_reading w size o at)
  unfolding ifd_reading
  ifd_unread j at h =
      let n = entries_in w f o at in
      let rest = entries_asked w f o n (at + w.entries) in
      let count : Off j at w.entries = off_first j (stretch at w.entries) rest h in
      let entries : Unread f j (counted at n) = counted_unread j at n (off_rest j (stretch at w.entries) rest h) in
      unread_pick f j (leb (at + w.entries) size) (and_then (number_at o at w.entries) (counted at)) (answer (refused 3 0))
      (λ _. unread_then f j (number_at o at w.entries) (counted at) (unread_number f j o at w.entries count)
      (subst (λ (m : ℕ). Unread f j (counted at m)) (sym (run_number f o at w.entries)) entries))
      (λ _. unread_answer f j (refused 3 0))

  -- so not its next offset, nor what lies behind
  pub next_offset_unread : (j at : ℕ) → at + w.entries + entry_width w * entries_in w f o at ≤ j → Unread f j (ifd_reading w size o at)
  next_offset_unread j at h =
      ifd_unread j at (off_both j _ _ (off_behind j at w.entries (omega arith))
      (entries_behind w f o j (entries_in w f o at) (at + w.entries) h))

  -- nor what lies before it
  pub before_unread : (j at : ℕ) → j < at → Unread f j (ifd_reading w size o at)
  before_unread j at h =
      ifd_unread j at (off_both j _ _ (off_below j at w.entries h)
      (entries_below w f o j (entries_in w f o at) (at + w.entries) (omega arith)))

  -- nor a value that stands in the m-th entry
  pub entry_value_unread :
      (j at m : ℕ) → let p = at + w.entries + entry_width w * m in
      bytes_of (head_at w f o p) ≤ w.word → p + head_width w ≤ j → j < p + entry_width w → Unread f j (ifd_reading w size o at)
  entry_value_unread j at m b l h =
      ifd_unread j at (off_both j _ _ (off_behind j at w.entries (omega arith))
      (entries_within w f o j (entries_in w f o at) (at + w.entries) m b l h))

  -- an accepted directory: what it is, and that just these stretches are read
  ifd_given :
      (at : ℕ) (d : Ifd) → is d ≡ run f (ifd_reading w size o at) →
      (d ≡ ifd w o (entries_in w f o at) (at + w.entries)) × (trace f (ifd_reading w size o at) ≡ directory_asked w f o at)
  unfolding ifd_reading
  ifd_given at d e =
      go (leb (at + w.entries) size) refl (ltb 0 (entries_in w f o at)) refl
      (leb (at + w.entries + entry_width w * entries_in w f o at + w.word) size) refl
      (run f (shape_from w size o (entries_in w f o at) (at + w.entries) 0)) refl
    where
      go :
          (b : Bool) → leb (at + w.entries) size ≡ b → (c : Bool) → ltb 0 (entries_in w f o at) ≡ c →
          (g : Bool) → leb (at + w.entries + entry_width w * entries_in w f o at + w.word) size ≡ g →
          (r : Out ℕ) → r ≡ run f (shape_from w size o (entries_in w f o at) (at + w.entries) 0) →
          (d ≡ ifd w o (entries_in w f o at) (at + w.entries)) × (trace f (ifd_reading w size o at) ≡ directory_asked w f o at)
      go false p c q g s r t = absurd (not_refused d 3 0 (e ∙ sym (ifd_outside w f size o at (leb-false _ _ p))))
      go true p false q g s r t = absurd (not_refused d 3 0 (e ∙ sym (ifd_empty w f size o at (leb-true _ _ p) _ refl (ltb-false _ _ q))))
      go true p true q false s r t = absurd (not_refused d 3 0
          (e ∙ sym (ifd_cut w f size o at (leb-true _ _ p) _ refl (ltb-true _ _ q) (leb-false _ _ s))))
      go true p true q true s (refused k x) t = absurd (not_refused d k x
          (e ∙ sym (ifd_refused w f size o at (leb-true _ _ p) _ refl (ltb-true _ _ q) (leb-true _ _ s) k x t)))
      go true p true q true s (is z) t =
          let n = entries_in w f o at in
          let shaped : trace f (entries_tested at n) ≡ entries_asked w f o n (at + w.entries) =
          bind_trace f (shape_from w size o n (at + w.entries) 0) _ z t
          ∙ ap (λ (l : List Stretch). trace f (shape_from w size o n (at + w.entries) 0) ++ l) (trace_answer f _)
          ∙ append-nil (trace f (shape_from w size o n (at + w.entries) 0)) ∙ shape_asks n (at + w.entries) 0 z t in (
            same_value d _ (e ∙ sym (ifd_is w f size o at (leb-true _ _ p) _ refl (ltb-true _ _ q) (leb-true _ _ s) z t)),
            simp (p, pick_yes, tracing, run_number, q, s) (ap (λ (l : List Stretch). stretch at w.entries ∷ l) shaped),
          )

  -- the count of an accepted directory
  pub ifd_count : (at : ℕ) (d : Ifd) → is d ≡ run f (ifd_reading w size o at) → d ≡ ifd w o (entries_in w f o at) (at + w.entries)
  ifd_count at d e = (ifd_given at d e).0

  -- of an accepted directory, what is read is its count and its entries
  pub ifd_asks : (at : ℕ) (d : Ifd) → is d ≡ run f (ifd_reading w size o at) → trace f (ifd_reading w size o at) ≡ directory_asked w f o at
  ifd_asks at d e = (ifd_given at d e).1
