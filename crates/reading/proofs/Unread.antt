-- Laws of a byte that is not read.
-- Assumes nothing.
use mathlib.Core.Path.{◌≡◌, refl, sym, ◌∙◌}
use mathlib.Core.Bool.{Bool, true, false, ◌||◌, true≢false}
use mathlib.Core.List.{List, [], ◌∷◌, ◌++◌}
use Prim.Native.Nat.{ℕ, ◌+◌, ◌≤◌, ◌<◌}
use native.Mathlib.Omega.{arith}
use lib.Dec.{leb, ltb}
use borrow.Author.Tests.{le-leb, lt-leb, le-ltb, leb-false, ltb-false}
use Rattle.reading.specs.Bytes.{part}
use Rattle.reading.specs.Reading.{Reading, Reading.answer, Reading.ask, Stretch, run, trace, and_then, pick, covers, reads, number_at}
use Rattle.reading.specs.declared.number.Order.{Order}
use Rattle.reading.proofs.Reading.{stretch, trace_answer, trace_ask, trace_and_then, trace_number, reads_append}

neither : (a b : Bool) → (a || b) ≡ false → (a ≡ false) × (b ≡ false)
neither true b e = absurd (true≢false e)
neither false b e = (refl, e)

-- byte j is not read on f
abbrev pub Unread : List ℕ → ℕ → {A : Type 0} → Reading A → Type 0
Unread f j p = reads (trace f p) j ≡ false

-- byte j does not lie in the n bytes from s on
abbrev pub Off : ℕ → ℕ → ℕ → Type 0
Off j s n = covers (stretch s n) j ≡ false

module _ (j : ℕ) where
  pub off_below : (s n : ℕ) → j < s → Off j s n
  off_below s n h = rw (lt-leb s j h)

  pub off_behind : (s n : ℕ) → s + n ≤ j → Off j s n
  off_behind s n h = rw (le-leb s j (omega arith), le-ltb j (s + n) h)

  -- nor does it lie in a part of them
  pub off_inside : (s n a m : ℕ) → Off j s n → s ≤ a → a + m ≤ s + n → Off j a m
  off_inside s n a m h l k = go (leb s j) refl (ltb j (s + n)) refl
    where
      go : (b : Bool) → leb s j ≡ b → (d : Bool) → ltb j (s + n) ≡ d → Off j a m
      go false e d g = let z : j < s = leb-false s j e in off_below a m (omega arith)
      go true e false g = let z : s + n ≤ j = ltb-false j (s + n) g in off_behind a m (omega arith)
      go true e true g = absurd (true≢false (sym (rw (e, g)) ∙ h))

  -- lists of stretches
  pub off_none : reads [] j ≡ false
  unfolding reads
  off_none = refl

  pub off_first : (t : Stretch) (ts : List Stretch) → reads (t ∷ ts) j ≡ false → covers t j ≡ false
  unfolding reads
  off_first t ts e = (neither (covers t j) (reads ts j) e).0

  pub off_rest : (t : Stretch) (ts : List Stretch) → reads (t ∷ ts) j ≡ false → reads ts j ≡ false
  unfolding reads
  off_rest t ts e = (neither (covers t j) (reads ts j) e).1

  pub off_both : (t : Stretch) (ts : List Stretch) → covers t j ≡ false → reads ts j ≡ false → reads (t ∷ ts) j ≡ false
  unfolding reads
  off_both t ts e h = rw (e, h)

  pub off_left : (a b : List Stretch) → reads (a ++ b) j ≡ false → reads a j ≡ false
  off_left a b e = (neither (reads a j) (reads b j) (sym (reads_append a b j) ∙ e)).0

  pub off_right : (a b : List Stretch) → reads (a ++ b) j ≡ false → reads b j ≡ false
  off_right a b e = (neither (reads a j) (reads b j) (sym (reads_append a b j) ∙ e)).1

  pub off_append : (a b : List Stretch) → reads a j ≡ false → reads b j ≡ false → reads (a ++ b) j ≡ false
  off_append a b e h = rw (reads_append a b j, e, h)

-- readings, step by step
module _ (f : List ℕ) (j : ℕ) where
  pub unread_answer : {A : Type 0} (a : A) → Unread f j (answer a)
  unread_answer a = rw (trace_answer f a) (off_none j)

  pub unread_ask : {A : Type 0} (s n : ℕ) (k : List ℕ → Reading A) → Off j s n → Unread f j (k (part f s n)) → Unread f j (ask s n k)
  unread_ask s n k h e = rw (trace_ask f s n k) (off_both j (stretch s n) (trace f (k (part f s n))) h e)

  pub unread_number : (o : Order) (s n : ℕ) → Off j s n → Unread f j (number_at o s n)
  unread_number o s n h = rw (trace_number f o s n) (off_both j (stretch s n) [] h (off_none j))

  pub unread_then : {A B : Type 0} (p : Reading A) (g : A → Reading B) → Unread f j p → Unread f j (g (run f p)) → Unread f j (and_then p g)
  unread_then p g h e = rw (trace_and_then f p g) (off_append j (trace f p) (trace f (g (run f p))) h e)

  pub unread_pick :
      {A : Type 0} (b : Bool) (p q : Reading A) → (b ≡ true → Unread f j p) → (b ≡ false → Unread f j q) → Unread f j (pick b p q)
  unfolding pick
  unread_pick true p q h g = h refl
  unread_pick false p q h g = g refl
