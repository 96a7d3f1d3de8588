-- The list by the code's tests, opcode by opcode.
-- Assumes nothing.
use Rattle.std.proofs.Common.{◌≡◌, ℕ, zero, suc, ◌+◌, ◌-◌, ◌<◌, ◌≤◌, Bool, true, false, eqb, leb, List, [], ◌∷◌, length, sym, refl, ap, ◌∙◌, add-zero}
use Rattle.std.proofs.Common.{arith, le-ltb, lt-ltb, eq-eqb, ne_eqb, eqb-true, le-leb, leb-false, leb-true}
use borrow.Author.Tests.{lt-leb}
use Rattle.reading.specs.Bytes.{part}
use Rattle.reading.specs.Number.{number_of}
use Rattle.reading.specs.Reading.{Reading, Reading.answer, run, pick}
use Rattle.reading.specs.declared.number.Order.TheVariants.{Big}
use Rattle.reading.proofs.Reading.{running, run_answer, run_ask, pick_yes, pick_no}
use Rattle.directory.specs.Out.{Out, Out.refused, Out.is, bind}
use Rattle.directory.proofs.Outs.{bind_refused, bind_is, bind_inverse, not_refused, same_value}
use Rattle.opcodes.specs.Opcode.{Opcode, skipped, kept}
use Rattle.opcodes.specs.Grid.{grid_of}
use Rattle.opcodes.specs.OpcodeList.{header_of, class_of, opcode_fault, opcode_kind, parameters_of, opcode_reading, list_from, list_reading, start_of}
use Rattle.opcodes.specs.Facts.OpcodeList.{counted_on, counted_one, tested}
use Rattle.opcodes.specs.declared.grid.Size.{Size}
use Rattle.opcodes.specs.declared.list.Header.{Header}
use Rattle.opcodes.specs.declared.list.Class.TheVariants as class
use Rattle.opcodes.specs.declared.list.Counts.{Counts}

-- ---- one opcode
module _ (z : Size) (i id : ℕ) (ps : List ℕ) (c : Counts) where
  pub parameters_kept : ◌≡◌ {A = Out ℕ} (is 0) (tested (opcode_fault z id ps) i) →
      is (record { kept = c.kept + 1; skipped = c.skipped }) ≡ counted_one c (parameters_of z i id ps)
  unfolding parameters_of pick
  parameters_kept e = go (eqb (opcode_fault z id ps) 0) e
    where
      go : (b : Bool) → ◌≡◌ {A = Out ℕ} (is 0) (pick b (is 0) (refused (opcode_fault z id ps) i)) →
          is (record { kept = c.kept + 1; skipped = c.skipped })
          ≡ counted_one c (pick b (is (kept (grid_of ps) (opcode_kind z id ps))) (refused (opcode_fault z id ps) i))
      go true e = refl
      go false e = absurd (not_refused 0 _ _ e)

  pub parameters_refused : {n d : ℕ} → ◌≡◌ {A = Out ℕ} (refused n d) (tested (opcode_fault z id ps) i) → refused n d ≡ counted_one c (parameters_of z i id ps)
  unfolding parameters_of pick
  parameters_refused {n} {d} e = go (eqb (opcode_fault z id ps) 0) e
    where
      go : (b : Bool) → ◌≡◌ {A = Out ℕ} (refused n d) (pick b (is 0) (refused (opcode_fault z id ps) i)) →
          refused n d ≡ counted_one c (pick b (is (kept (grid_of ps) (opcode_kind z id ps))) (refused (opcode_fault z id ps) i))
      go true e = absurd (not_refused 0 n d (sym e))
      go false e = cc

pub carried_run : (f : List ℕ) (z : Size) (i at : ℕ) (h : Header) →
    run f (opcode_reading class.Carried z i at h) ≡ parameters_of z i h.id (part f (at + 16) h.length)
carried_run f z i at h = simp running

pub optional_run : (f : List ℕ) (z : Size) (i at : ℕ) (h : Header) → run f (opcode_reading class.Optional z i at h) ≡ is skipped
optional_run f z i at h = simp running

pub compulsory_run : (f : List ℕ) (z : Size) (i at : ℕ) (h : Header) → run f (opcode_reading class.Compulsory z i at h) ≡ refused 11 i
compulsory_run f z i at h = run_answer f (refused 11 i)

-- ---- the counts
counts : {a b a' b' : ℕ} → a ≡ a' → b ≡ b' →
    ◌≡◌ {A = Out Counts} (is (record { kept = a; skipped = b })) (is (record { kept = a'; skipped = b' }))
counts e h = cc

added : (c c' : Counts) (o : Opcode) (os : List Opcode) → is c' ≡ counted_one c (is o) → counted_on c (is (o ∷ os)) ≡ counted_on c' (is os)
added c c' skipped os h =
    let e = same_value c' _ h in
    let a : c'.kept ≡ c.kept = ap (λ (x : Counts). x.kept) e in
    let b : c'.skipped ≡ c.skipped + 1 = ap (λ (x : Counts). x.skipped) e in
    counts (omega arith) (omega arith)
added c c' (kept g k) os h =
    let e = same_value c' _ h in
    let a : c'.kept ≡ c.kept + 1 = ap (λ (x : Counts). x.kept) e in
    let b : c'.skipped ≡ c.skipped = ap (λ (x : Counts). x.skipped) e in
    counts (omega arith) (omega arith)

-- one opcode more
pub counted_bound : (c c' : Counts) (x : Out Opcode) → is c' ≡ counted_one c x → (c'.kept ≤ c.kept + 1) × (c'.skipped ≤ c.skipped + 1)
counted_bound c c' (refused n d) h = absurd (not_refused c' n d h)
counted_bound c c' (is skipped) h =
    let e = same_value c' _ h in
    let a : c'.kept ≡ c.kept = ap (λ (x : Counts). x.kept) e in
    let b : c'.skipped ≡ c.skipped + 1 = ap (λ (x : Counts). x.skipped) e in
    (omega arith, omega arith)
counted_bound c c' (is (kept g k)) h =
    let e = same_value c' _ h in
    let a : c'.kept ≡ c.kept + 1 = ap (λ (x : Counts). x.kept) e in
    let b : c'.skipped ≡ c.skipped = ap (λ (x : Counts). x.skipped) e in
    (omega arith, omega arith)

-- ---- the list
-- the header at a place, and how many bytes its opcode has, header with parameters
abbrev pub head_at : List ℕ → ℕ → Header
head_at f at = header_of (part f at 16)

abbrev pub whole_at : List ℕ → ℕ → ℕ
whole_at f at = 16 + (head_at f at).length

-- where the opcodes stand
module _ (f : List ℕ) where
  pub start_above : (at m : ℕ) → at ≤ start_of f at m
  start_above at zero = omega arith
  start_above at (suc m) = omega (arith, start_above (at + whole_at f at) m)

  pub start_next : (at m : ℕ) → start_of f at (suc m) ≡ start_of f at m + whole_at f (start_of f at m)
  start_next at zero = refl
  start_next at (suc m) = start_next (at + whole_at f at) m

module _ (f : List ℕ) (z : Size) where
  abbrev onwards : ℕ → ℕ → ℕ → ℕ → Header → Reading (Out (List Opcode))
  onwards k i at n h = list_from z k (i + 1) (at + (16 + h.length)) (n - (16 + h.length))

  abbrev step : ℕ → ℕ → ℕ → ℕ → Header → Reading (Out (List Opcode))
  step k i at n h = bind (opcode_reading (class_of h) z i at h)
      (λ (o : Opcode). bind (onwards k i at n h) (λ (os : List Opcode). answer (is (o ∷ os))))

  opened : (k i at n : ℕ) → 16 ≤ n → 16 + (header_of (part f at 16)).length ≤ n →
      run f (list_from z (suc k) i at n) ≡ run f (step k i at n (header_of (part f at 16)))
  unfolding list_from
  opened k i at n h l = simp (le-leb 16 n h, pick_yes, run_ask) (simp (le-leb _ n l, pick_yes))

  short : (k i at n : ℕ) → n < 16 → refused 10 i ≡ run f (list_from z (suc k) i at n)
  unfolding list_from
  short k i at n h = simp (lt-leb 16 n h, pick_no, run_answer)

  over : (k i at n : ℕ) → 16 ≤ n → n < whole_at f at → refused 10 i ≡ run f (list_from z (suc k) i at n)
  unfolding list_from
  over k i at n h l = simp (le-leb 16 n h, pick_yes, run_ask) (simp (lt-leb _ n l, pick_no, run_answer))

  -- ---- an accepted list: its first opcode, and the others
  pub record Accepted (k i at n : ℕ) (os : List Opcode) : Type 0 where
    pub header_fits : 16 ≤ n
    pub fits : whole_at f at ≤ n
    pub first : Opcode
    pub others : List Opcode
    pub first_is : is first ≡ run f (opcode_reading (class_of (head_at f at)) z i at (head_at f at))
    pub others_are : is others ≡ run f (list_from z k (i + 1) (at + whole_at f at) (n - whole_at f at))
    pub all : os ≡ first ∷ others

  pub list_inverse : (k i at n : ℕ) (os : List Opcode) → is os ≡ run f (list_from z (suc k) i at n) → Accepted k i at n os
  list_inverse k i at n os e = go (leb 16 n) (leb (whole_at f at) n) refl refl
    where
      go : (a b : Bool) → leb 16 n ≡ a → leb (whole_at f at) n ≡ b → Accepted k i at n os
      go false b p q = absurd (not_refused os 10 i (e ∙ sym (short k i at n (leb-false 16 n p))))
      go true false p q = absurd (not_refused os 10 i (e ∙ sym (over k i at n (leb-true 16 n p) (leb-false _ n q))))
      go true true p q =
          let a = bind_inverse f (opcode_reading (class_of (head_at f at)) z i at (head_at f at)) _ os
          (e ∙ opened k i at n (leb-true 16 n p) (leb-true _ n q)) in
          let b = bind_inverse f (onwards k i at n (head_at f at)) _ os a.2 in
          record {
            header_fits = leb-true 16 n p;
            fits = leb-true _ n q;
            first = a.0;
            others = b.0;
            first_is = a.1;
            others_are = b.1;
            all = same_value os (a.0 ∷ b.0) (b.2 ∙ run_answer f (is (a.0 ∷ b.0)));
          }

  -- and back
  pub list_of :
      (k i at n : ℕ) (o : Opcode) (os : List Opcode) → whole_at f at ≤ n →
      is o ≡ run f (opcode_reading (class_of (head_at f at)) z i at (head_at f at)) →
      is os ≡ run f (list_from z k (i + 1) (at + whole_at f at) (n - whole_at f at)) →
      is (o ∷ os) ≡ run f (list_from z (suc k) i at n)
  list_of k i at n o os l a b =
      sym (opened k i at n (omega arith) l ∙ bind_is f (opcode_reading (class_of (head_at f at)) z i at (head_at f at)) _ o a
      ∙ bind_is f (onwards k i at n (head_at f at)) _ os b ∙ run_answer f (is (o ∷ os)))

  pub none_inverse : (i at n : ℕ) (os : List Opcode) → is os ≡ run f (list_from z 0 i at n) → (n ≡ 0) × (os ≡ [])
  unfolding list_from
  none_inverse i at n os e = go (eqb n 0) refl (e ∙ run_answer f _)
    where
      go : (a : Bool) → eqb n 0 ≡ a → is os ≡ pick a (is []) (refused 10 i) → (n ≡ 0) × (os ≡ [])
      go true p q = (eqb-true n 0 p, same_value os [] (q ∙ pick_yes _ _))
      go false p q = absurd (not_refused os 10 i (q ∙ pick_no _ _))

  -- as many opcodes as the count says
  pub list_length : (k i at n : ℕ) (os : List Opcode) → is os ≡ run f (list_from z k i at n) → length os ≡ k
  list_length zero i at n os e = ap length (none_inverse i at n os e).1
  list_length (suc k) i at n os e =
      let a = list_inverse k i at n os e in
      ap length a.all ∙ ap suc (list_length k (i + 1) (at + whole_at f at) (n - whole_at f at) a.others a.others_are)

  -- and where they end
  pub start_inside : (m k i at n : ℕ) (os : List Opcode) → is os ≡ run f (list_from z k i at n) → m ≤ k → start_of f at m ≤ at + n
  start_inside zero k i at n os e h = omega arith
  start_inside (suc m) zero i at n os e h = absurd (omega arith)
  start_inside (suc m) (suc k) i at n os e h =
      let a = list_inverse k i at n os e in
      omega (arith, a.fits, start_inside m k (i + 1) (at + whole_at f at) (n - whole_at f at) a.others a.others_are (omega arith))

  module _ (k i at n : ℕ) (c : Counts) where
    pub list_end : k ≡ 0 → n ≡ 0 → is c ≡ counted_on c (run f (list_from z k i at n))
    unfolding list_from
    list_end e h = rw (e, h) (simp (run_answer, pick_yes) (counts (sym (add-zero _)) (sym (add-zero _))))

    pub list_left : k ≡ 0 → (n ≡ 0 → ⊥) → refused 10 i ≡ counted_on c (run f (list_from z k i at n))
    unfolding list_from
    list_left e h = rw e (simp (run_answer, ne_eqb n 0 h, pick_no))

  pub list_short : (k i at n : ℕ) (c : Counts) → 0 < k → n < 16 → refused 10 i ≡ counted_on c (run f (list_from z k i at n))
  list_short zero i at n c s h = absurd (omega arith)
  list_short (suc k) i at n c s h = ap (counted_on c) (short k i at n h)

  pub list_over : (k i at n : ℕ) (c : Counts) → 0 < k → 16 ≤ n → n < 16 + (header_of (part f at 16)).length →
      refused 10 i ≡ counted_on c (run f (list_from z k i at n))
  list_over zero i at n c s h l = absurd (omega arith)
  list_over (suc k) i at n c s h l = ap (counted_on c) (over k i at n h l)

  module _ (i at n : ℕ) (c : Counts) (h : 16 ≤ n) (l : 16 + (header_of (part f at 16)).length ≤ n) where
    abbrev header : Header
    header = header_of (part f at 16)

    pub list_refused : (k : ℕ) → 0 < k → (m d : ℕ) → refused m d ≡ counted_one c (run f (opcode_reading (class_of header) z i at header)) →
        refused m d ≡ counted_on c (run f (list_from z k i at n))
    list_refused zero s m d e = absurd (omega arith)
    list_refused (suc k) s m d e = ap (counted_on c) (bind_refused f (opcode_reading (class_of header) z i at header) _ m d (out _ e))
        ∙ ap (counted_on c) (sym (opened k i at n h l))
      where
        out : (x : Out Opcode) → refused m d ≡ counted_one c x → refused m d ≡ x
        out (refused a b) e = cc
        out (is skipped) e = absurd (not_refused _ m d (sym e))
        out (is (kept g o)) e = absurd (not_refused _ m d (sym e))

    pub list_next :
        (k : ℕ) → 0 < k → (c' : Counts) → is c' ≡ counted_one c (run f (opcode_reading (class_of header) z i at header)) →
        counted_on c (run f (list_from z k i at n)) ≡ counted_on c' (run f (onwards (k - 1) i at n header))
    list_next zero s c' e = absurd (omega arith)
    list_next (suc k) s c' e =
        let q : k ≡ suc k - 1 = omega arith in
        ap (counted_on c) (opened k i at n h l) ∙ go (run f (opcode_reading (class_of header) z i at header)) refl e
        ∙ ap (λ (j : ℕ). counted_on c' (run f (onwards j i at n header))) q
      where
        after : (o : Opcode) → is c' ≡ counted_one c (is o) → (y : Out (List Opcode)) → y ≡ run f (onwards k i at n header) →
            counted_on c (run f (bind (onwards k i at n header) (λ (os : List Opcode). answer (is (o ∷ os))))) ≡ counted_on c'
            (run f (onwards k i at n header))
        after o g (refused m d) w = ap (counted_on c) (sym (bind_refused f (onwards k i at n header) _ m d w)) ∙ ap (counted_on c') w
        after o g (is os) w = ap (counted_on c) (bind_is f (onwards k i at n header) _ os w ∙ run_answer f (is (o ∷ os))) ∙ added c c' o os g
            ∙ ap (counted_on c') w

        go : (x : Out Opcode) → x ≡ run f (opcode_reading (class_of header) z i at header) → is c' ≡ counted_one c x →
            counted_on c (run f (step k i at n header)) ≡ counted_on c' (run f (onwards k i at n header))
        go (refused m d) w g = absurd (not_refused c' m d g)
        go (is o) w g = ap (counted_on c) (bind_is f (opcode_reading (class_of header) z i at header) _ o w)
            ∙ after o g (run f (onwards k i at n header)) refl

  -- ---- the value of OpcodeList2
  module _ (at n : ℕ) (s : n ≡ 0 → ⊥) (m : ℕ) (e : m ≡ number_of Big (part f at 4)) where
    value_many : 32 < m → refused 11 32 ≡ run f (list_reading z at n)
    unfolding list_reading
    value_many h = simp (ne_eqb n 0 s, pick_no, run_ask) (rw (← e) (simp (lt-ltb 32 m h, pick_yes, run_answer)))

    pub value_some : m ≤ 32 → run f (list_from z m 0 (at + 4) (n - 4)) ≡ run f (list_reading z at n)
    unfolding list_reading
    value_some h = simp (ne_eqb n 0 s, pick_no, run_ask) (rw (← e) (simp (le-ltb 32 m h, pick_no)))

    -- an accepted one: the count, and the list
    pub value_inverse : (os : List Opcode) → is os ≡ run f (list_reading z at n) → (m ≤ 32)
        × (is os ≡ run f (list_from z m 0 (at + 4) (n - 4)))
    value_inverse os q = go (leb m 32) refl
      where
        go : (b : Bool) → leb m 32 ≡ b → (m ≤ 32) × (is os ≡ run f (list_from z m 0 (at + 4) (n - 4)))
        go true p = (leb-true m 32 p, q ∙ sym (value_some (leb-true m 32 p)))
        go false p = absurd (not_refused os 11 32 (q ∙ sym (value_many (leb-false m 32 p))))

  -- of an absent tag, none
  pub value_none : (at n : ℕ) (os : List Opcode) → n ≡ 0 → is os ≡ run f (list_reading z at n) → os ≡ []
  unfolding list_reading
  value_none at n os e q =
      let r : run f (list_reading z at n) ≡ is [] = simp (eq-eqb n 0 e, pick_yes, run_answer) in
      same_value os [] (q ∙ r)

  module _ (at n : ℕ) (c : Counts) where
    pub list_absent : n ≡ 0 → is c ≡ counted_on c (run f (list_reading z at n))
    unfolding list_reading
    list_absent e = simp (eq-eqb n 0 e, pick_yes, run_answer) (counts (sym (add-zero _)) (sym (add-zero _)))

    module _ (s : n ≡ 0 → ⊥) (m : ℕ) (e : m ≡ number_of Big (part f at 4)) where
      pub list_many : 32 < m → refused 11 32 ≡ counted_on c (run f (list_reading z at n))
      list_many h = ap (counted_on c) (value_many at n s m e h)

      pub list_some : m ≤ 32 → counted_on c (run f (list_from z m 0 (at + 4) (n - 4))) ≡ counted_on c (run f (list_reading z at n))
      list_some h = ap (counted_on c) (value_some at n s m e h)
