-- A skipped opcode's parameters are not read.
-- Assumes nothing.
use Rattle.std.proofs.Common.{◌≡◌, ℕ, zero, suc, ◌+◌, ◌-◌, ◌<◌, ◌≤◌, Bool, true, false, leb, ◌⊎◌, List, ◌∷◌, refl, inl, inr, arith, le-ltb, le-leb}
use borrow.Author.Tests.{lt-leb}
use Rattle.reading.specs.Bytes.{part}
use Rattle.reading.specs.Reading.{Reading, Reading.answer, Reading.ask, Stretch, run, trace, pick, reads}
use Rattle.reading.proofs.Reading.{stretch, trace_answer, trace_ask, trace_and_then, reads_append}
use Rattle.directory.specs.Out.{Out, Out.refused, Out.is, onward, bind}
use Rattle.opcodes.specs.Opcode.{Opcode, skipped}
use Rattle.opcodes.specs.OpcodeList.{header_of, class_of, opcode_reading, list_from, start_of}
use Rattle.opcodes.specs.declared.grid.Size.{Size}
use Rattle.opcodes.specs.declared.list.Header.{Header}
use Rattle.opcodes.specs.declared.list.Class.{Class}
use Rattle.opcodes.specs.declared.list.Class.TheVariants as class
use Rattle.opcodes.proofs.Listing.{start_above}

module _ (f : List ℕ) (j : ℕ) where
  -- byte j is not read
  abbrev Unread : {A : Type 0} → Reading A → Type 0
  Unread p = reads (trace f p) j ≡ false

  of_answer : {A : Type 0} (a : A) → Unread (answer a)
  unfolding reads
  of_answer a = rw (trace_answer f a) refl

  below : (s n : ℕ) (ts : List Stretch) → j < s → reads ts j ≡ false → reads (stretch s n ∷ ts) j ≡ false
  unfolding reads
  below s n ts h e = rw (lt-leb s j h, e)

  above : (s n : ℕ) (ts : List Stretch) → s + n ≤ j → reads ts j ≡ false → reads (stretch s n ∷ ts) j ≡ false
  unfolding reads
  above s n ts h e = rw (le-leb s j (omega arith), le-ltb j (s + n) h, e)

  of_ask_below : {A : Type 0} (s n : ℕ) (k : List ℕ → Reading A) → j < s → Unread (k (part f s n)) → Unread (ask s n k)
  of_ask_below s n k h e = rw (trace_ask f s n k) (below s n _ h e)

  of_ask_above : {A : Type 0} (s n : ℕ) (k : List ℕ → Reading A) → s + n ≤ j → Unread (k (part f s n)) → Unread (ask s n k)
  of_ask_above s n k h e = rw (trace_ask f s n k) (above s n _ h e)

  of_bind : {A B : Type 0} (p : Reading (Out A)) (k : A → Reading (Out B)) → Unread p → ((a : A) → Unread (k a)) → Unread (bind p k)
  unfolding bind
  of_bind {A} {B} p k h g = rw (trace_and_then f p (onward k), reads_append (trace f p) (trace f (onward k (run f p))) j, h) (rest (run f p))
    where
      rest : (x : Out A) → Unread (onward k x)
      rest (refused n d) = of_answer (refused n d)
      rest (is a) = g a

  of_pick : {A : Type 0} (b : Bool) (p q : Reading A) → Unread p → Unread q → Unread (pick b p q)
  unfolding pick
  of_pick true p q h g = h
  of_pick false p q h g = g

  -- an opcode reads its own parameters at the most
  of_opcode_below : (c : Class) (z : Size) (i at : ℕ) (h : Header) → j < at + 16 → Unread (opcode_reading c z i at h)
  of_opcode_below class.Carried z i at h l = of_ask_below _ _ _ l (of_answer _)
  of_opcode_below class.Optional z i at h l = of_answer _
  of_opcode_below class.Compulsory z i at h l = of_answer _

  of_opcode_above : (c : Class) (z : Size) (i at : ℕ) (h : Header) → at + (16 + h.length) ≤ j → Unread (opcode_reading c z i at h)
  of_opcode_above class.Carried z i at h l = of_ask_above _ _ _ (omega arith) (of_answer _)
  of_opcode_above class.Optional z i at h l = of_answer _
  of_opcode_above class.Compulsory z i at h l = of_answer _

  abbrev head : ℕ → Header
  head at = header_of (part f at 16)

  -- a list's first opcode, and the others
  of_more :
      (z : Size) (k i at n : ℕ) → (j < at) ⊎ (at + 16 ≤ j) → Unread (opcode_reading (class_of (head at)) z i at (head at)) →
      Unread (list_from z k (i + 1) (at + (16 + (head at).length)) (n - (16 + (head at).length))) → Unread (list_from z (suc k) i at n)
  unfolding list_from
  of_more z k i at n s a b =
      of_pick (leb 16 n) _ (answer (refused 10 i)) (asked s) (of_answer (refused 10 i))
    where
      whole : Unread (pick (leb (16 + (head at).length) n)
          (bind (opcode_reading (class_of (head at)) z i at (head at)) (λ (o : Opcode).
          bind (list_from z k (i + 1) (at + (16 + (head at).length)) (n - (16 + (head at).length)))
          (λ (os : List Opcode). answer (is (o ∷ os)))))
          (answer (refused 10 i)))
      whole =
          of_pick (leb (16 + (head at).length) n) _ (answer (refused 10 i))
          (of_bind (opcode_reading (class_of (head at)) z i at (head at)) _ a (λ o.
          of_bind (list_from z k (i + 1) (at + (16 + (head at).length)) (n - (16 + (head at).length))) _ b (λ os. of_answer (is (o ∷ os)))))
          (of_answer (refused 10 i))

      asked : (j < at) ⊎ (at + 16 ≤ j) → Unread (ask at 16 (λ (bs : List ℕ).
          pick (leb (16 + (header_of bs).length) n)
          (bind (opcode_reading (class_of (header_of bs)) z i at (header_of bs)) (λ (o : Opcode).
          bind (list_from z k (i + 1) (at + (16 + (header_of bs).length)) (n - (16 + (header_of bs).length)))
          (λ (os : List Opcode). answer (is (o ∷ os)))))
          (answer (refused 10 i))))
      asked (inl h) = of_ask_below at 16 _ h whole
      asked (inr h) = of_ask_above at 16 _ h whole

  -- a list reads nothing before its first opcode
  pub list_below : (z : Size) (k i at n : ℕ) → j < at → Unread (list_from z k i at n)
  list_below z zero i at n h = unfold list_from in of_answer _
  list_below z (suc k) i at n h =
      let g : j < at + (16 + (head at).length) = omega arith in
      of_more z k i at n (inl h) (of_opcode_below (class_of (head at)) z i at (head at) (omega arith))
      (list_below z k (i + 1) (at + (16 + (head at).length)) (n - (16 + (head at).length)) g)

  -- the m-th opcode, where it is skipped
  pub skipped_unread :
      (z : Size) (k i at n m : ℕ) → class_of (head (start_of f at m)) ≡ class.Optional → start_of f at m + 16 ≤ j →
      j < start_of f at m + (16 + (head (start_of f at m)).length) → reads (trace f (list_from z k i at n)) j ≡ false
  skipped_unread z zero i at n m c l h = unfold list_from in of_answer _
  skipped_unread z (suc k) i at n zero c l h =
      of_more z k i at n (inr l) (rw c (of_answer (is skipped)))
      (list_below z k (i + 1) (at + (16 + (head at).length)) (n - (16 + (head at).length)) h)
  skipped_unread z (suc k) i at n (suc m) c l h =
      let a = start_above f (at + (16 + (head at).length)) m in
      of_more z k i at n (inr (omega arith)) (of_opcode_above (class_of (head at)) z i at (head at) (omega arith))
      (skipped_unread z k (i + 1) (at + (16 + (head at).length)) (n - (16 + (head at).length)) m c l h)
