-- Laws of what is found in tables: four samples at a time, groups of columns, and a whole row.
-- Assumes nothing.
use mathlib.Core.Path.{◌≡◌, refl, sym, ap, ◌∙◌, subst}
use mathlib.Core.Logic.{⊎_elim}
use mathlib.Core.List.{List, []}
use Prim.Native.Nat.{ℕ, ◌+◌, ◌-◌, ◌*◌, ◌/◌, ◌%◌, ◌≤◌, ◌<◌, min}
use native.Mathlib.Nat.{zero-add, add-zero, mul_assoc, mul_comm, zero-mod, mod-eq_of_lt, mod-add-mod, mod-lt, mod-one}
use native.Mathlib.Nat.{add-mod-mod, add-mul-mod_self_right, div-one, div-add-mod'}
use native.Mathlib.Omega.{arith}
use lib.IntN.{ℤ, pos, ◌+ℤ◌, +ℤ_idr}
use lib.Ieee.{Float, nan}
use lib.ListN.{length, get_or, set, take, drop, length-set}
use Rattle.reading.specs.Bytes.{part}
use Rattle.reading.specs.Number.{number_of}
use Rattle.reading.specs.declared.number.Order.{Order}
use Rattle.reading.specs.declared.number.Order.TheVariants as order
use Rattle.reading.proofs.Halves.{halves, one_byte}
use Rattle.reading.proofs.Wholes.{le_or_lt}
use Rattle.levels.specs.Level.{difference_of, level_of, scaled_of}
use Rattle.levels.specs.Levels.{cell_for, black_for, span_of}
use Rattle.levels.specs.Table.{table_of, through_of}
use Rattle.levels.specs.declared.black.BlackKind.TheVariants as kind
use Rattle.levels.proofs.Residues.{cell_same}
use Rattle.levels.proofs.SignedOrder.{sum_same}
use Rattle.rawtags.specs.Raw.{active_rows}
use Rattle.rawtags.specs.declared.Tags.{Tags}
use Rattle.raw.specs.Facts.Front.{RawWithin}
use Rattle.raw.specs.declared.front.Raw.{Raw}
use Rattle.raw.proofs.StoredLaws.{black_none, repeat_columns_are}
use Rattle.raw.proofs.TagFacts.{table_is, black_for_law}
use Rattle.samples.specs.Facts.Line.{Filled, number_at, LineOf, WideIn, scaled_from, scaled_part}
use Rattle.samples.specs.declared.line.Line.{Line}
use Rattle.samples.proofs.Eaches.{is_each}
use Rattle.samples.proofs.Lines.{filled_more, part_at, value_is}
use Rattle.samples.proofs.Planes.{row_inside, value_scaled}
use Rattle.tables.specs.Facts.RowTables.{found, found_along, FourFound, WordIs, RowTables}
use Rattle.tables.proofs.TableLaws.{Tabled, levels}

-- ---- a word of four bytes
pub word_is : (s : List ℕ) (i : ℕ) → ((k : ℕ) → get_or s k 0 < 256) → i + 4 ≤ length s → WordIs (number_of order.Little (part s i 4)) s i
word_is s i small h =
    let o = order.Little in
    let b : (k : ℕ) → k < 4 → number_of o (part s (i + k) 1) ≡ get_or s (i + k) 0 = λ k l. sym (one_byte o (i + k) s (omega arith)) in
    let z : i + 0 ≡ i = add-zero i in
    let three : i + 2 + 1 ≡ i + 3 = omega arith in
    let low : number_of o (part s i 2) ≡ get_or s i 0 + 256 * get_or s (i + 1) 0 =
    halves o 1 i s (omega arith) ∙ (λ j. (subst (λ (n : ℕ). number_of o (part s n 1) ≡ get_or s n 0) z (b 0 (omega arith))) j + 256 * b 1 (omega arith) j) in
    let high : number_of o (part s (i + 2) 2) ≡ get_or s (i + 2) 0 + 256 * get_or s (i + 3) 0 =
    halves o 1 (i + 2) s (omega arith)
    ∙ (λ j. b 2 (omega arith) j + 256 * (subst (λ (n : ℕ). number_of o (part s n 1) ≡ get_or s (i + 3) 0) (sym three) (b 3 (omega arith))) j) in
    let whole : number_of o (part s i 4) ≡ number_of o (part s i 2) + 65536 * number_of o (part s (i + 2) 2) = halves o 2 i s h in
    let s₀ = small i in
    let s₁ = small (i + 1) in
    let s₂ = small (i + 2) in
    let s₃ = small (i + 3) in
    record { one = omega arith; two = omega arith; three = omega arith; four = omega arith }

-- four samples more
pub four_more : (x : ℕ → Float) (t u v w : List Float) (bytes : List ℕ) (i : ℕ) (xs : List Float) (a b c d : Float) → i + 4 ≤ length xs
    → a ≡ found t bytes i → b ≡ found u bytes (i + 1) → c ≡ found v bytes (i + 2) → d ≡ found w bytes (i + 3)
    → FourFound x t u v w bytes i → Filled nan x i xs → Filled nan x (i + 4) (set (set (set (set xs i a) (i + 1) b) (i + 2) c) (i + 3) d)
four_more x t u v w bytes i xs a b c d h ea eb ec ed f s =
    let n = length-set xs i a in
    let m = length-set (set xs i a) (i + 1) b in
    let k = length-set (set (set xs i a) (i + 1) b) (i + 2) c in
    let e₁ : i + 1 + 1 ≡ i + 2 = omega arith in
    let e₂ : i + 2 + 1 ≡ i + 3 = omega arith in
    let e₃ : i + 3 + 1 ≡ i + 4 = omega arith in
    let s₁ = filled_more nan x i xs a (omega arith) s (ea ∙ f.one) in
    let s₂ = filled_more nan x (i + 1) (set xs i a) b (omega arith) s₁ (eb ∙ f.two) in
    let s₃ = filled_more nan x (i + 2) (set (set xs i a) (i + 1) b) c (omega arith)
    (subst (λ (z : ℕ). Filled nan x z (set (set xs i a) (i + 1) b)) e₁ s₂) (ec ∙ f.three) in
    let s₄ = filled_more nan x (i + 3) (set (set (set xs i a) (i + 1) b) (i + 2) c) d (omega arith)
    (subst (λ (z : ℕ). Filled nan x z (set (set (set xs i a) (i + 1) b) (i + 2) c)) e₂ s₃) (ed ∙ f.four) in
    subst (λ (z : ℕ). Filled nan x z (set (set (set (set xs i a) (i + 1) b) (i + 2) c) (i + 3) d)) e₃ s₄

-- ---- columns that come again after n
module _ (n at : ℕ) (whole : at % n ≡ 0) where
  -- the c-th place behind is of the c-th column
  pub column_of : (c : ℕ) → c < n → c ≡ (at + c) % n
  column_of c h = sym (sym (mod-add-mod at n c) ∙ ap (λ (z : ℕ). (z + c) % n) whole ∙ ap (λ (z : ℕ). z % n) (zero-add c) ∙ mod-eq_of_lt h)

-- ---- four columns at a time, where the columns come again after four
module _ (n : ℕ) (fours : 4 % n ≡ 0) where
  column_again : (j m : ℕ) → (4 * j + m) % n ≡ m % n
  column_again j m =
      let e : 4 / n * n ≡ 4 = omega (arith, div-add-mod' 4 n) in
      let d : 4 * j + m ≡ m + j * (4 / n) * n = omega (arith, mul_assoc j (4 / n) n, ap (λ (z : ℕ). j * z) e) in
      ap (λ (z : ℕ). z % n) d ∙ add-mul-mod_self_right m (j * (4 / n)) n

  -- so many fours are whole
  pub fours_whole : (j : ℕ) → j * 4 % n ≡ 0
  fours_whole j = let e : j * 4 ≡ 4 * j + 0 = omega arith in ap (λ (z : ℕ). z % n) e ∙ column_again j 0 ∙ zero-mod n

  pub four_found : (tables : List (List Float)) (first : ℕ) (bytes : List ℕ) (j : ℕ)
      → FourFound (found_along tables first n bytes) (get_or tables first []) (get_or tables (first + 1 % n) []) (get_or tables (first + 2 % n) [])
      (get_or tables (first + 3 % n) []) bytes (4 * j)
  four_found tables first bytes j =
      let at : ℕ → ℕ → Float = λ c k. found (get_or tables (first + c) []) bytes k in
      let z : first ≡ first + 4 * j % n = sym (ap (λ (c : ℕ). first + c % n) (mul_comm 4 j) ∙ ap (λ (c : ℕ). first + c) (fours_whole j)
      ∙ add-zero first) in
      record {
        one = ap (λ (i : ℕ). found (get_or tables i []) bytes (4 * j)) z;
        two = ap (λ (c : ℕ). at c (4 * j + 1)) (sym (column_again j 1));
        three = ap (λ (c : ℕ). at c (4 * j + 2)) (sym (column_again j 2));
        four = ap (λ (c : ℕ). at c (4 * j + 3)) (sym (column_again j 3));
      }

-- the k-th of w columns from l on, counted again after the repeat's or after all of them, has the same place in the repeat
pub column_met : (repeat w n l k : ℕ) → n ≡ min repeat w → k < w → (l + k % n) % repeat ≡ (l + k) % repeat
column_met repeat w n l k e h =
    ⊎_elim
    (λ g. let d : n ≡ repeat = omega arith in ap (λ (z : ℕ). (l + k % z) % repeat) d ∙ add-mod-mod l k repeat)
    (λ g. let b : k < n = omega arith in ap (λ (z : ℕ). (l + z) % repeat) (mod-eq_of_lt b))
    (le_or_lt repeat w)

-- ---- what is found is the row's scaled values
module _ (f : List ℕ) (o : Order) (raw : Raw) (h : RawWithin f o raw) (has : Tabled raw.tags) where
  abbrev t : Tags
  t = raw.tags

  -- without deltas B is the cell
  plain_black : (r c p : ℕ) → cell_for (levels f o raw h) r c p ≡ black_for (levels f o raw h) r c p
  plain_black r c p =
      let v = levels f o raw h in
      let q = h.tags.levels in
      let a = black_none f o kind.SignedRational t.levels.column_deltas q.column_deltas.sized has.columns c in
      let d = black_none f o kind.SignedRational t.levels.row_deltas q.row_deltas.sized has.rows r in
      sym (black_for_law f o t r c p ∙ sum_same {a = cell_for v r c p} refl a d ∙ +ℤ_idr (cell_for v r c p +ℤ pos 0) ∙ +ℤ_idr (cell_for v r c p))

  module _ (r l : ℕ) (row : r < active_rows t.area) (x : Line) (is : LineOf f o t r l x) where
    -- so many bytes from the row's first on lie in the file
    pub bytes_inside : (len : ℕ) → 1 ≤ len → WideIn t l len → x.place + len ≤ length f
    bytes_inside len some wide =
        let z = (row_inside t h.tags.frame.some_samples f o h.tags r l row x is len wide).inside (len - 1) (omega arith) in
        let y : x.place + 1 * (len - 1) + 1 ≤ length f = rw (is.bytes, has.bytes) at z in
        omega arith

    -- the byte of the k-th sample, through the linearization table
    number_found : ((i : ℕ) → get_or f i 0 < 256) → (n k s : ℕ) → k < n → x.place + k + 1 ≤ length f
        → s ≡ get_or (take n (drop x.place f)) k 0
        → (s < 256) × (through_of (levels f o raw h).table s ≡ number_at f x k)
    number_found small n k s b inside e =
        let p : x.place + x.bytes * k ≡ x.place + k = rw (is.bytes, has.bytes) (omega arith) in
        let g : s ≡ get_or f (x.place + k) 0 = e ∙ part_at 0 x.place n k f b in
        let m : s ≡ number_of x.order (part f (x.place + x.bytes * k) x.bytes) =
        g ∙ one_byte x.order (x.place + k) f inside
        ∙ ap (λ (w : ℕ). number_of x.order (part f (x.place + k) w)) (sym (is.bytes ∙ has.bytes))
        ∙ ap (λ (w : ℕ). number_of x.order (part f w x.bytes)) (sym p) in
        let table : (levels f o raw h).table ≡ table_of x.order f x.table x.count = rw (is.order, is.table, is.count)
        (table_is f o t h.tags) in (
          rw g (small (x.place + k)),
          ap (λ (ts : List ℕ). through_of ts s) table ∙ ap (through_of (table_of x.order f x.table x.count)) m,
        )

    -- the k-th of len samples
    sample_found : ((i : ℕ) → get_or f i 0 < 256) → (tables : List (List Float)) (first len n k : ℕ) (bytes : List ℕ)
        → RowTables (levels f o raw h) r l len tables first
        → WideIn t l len → n ≡ min t.levels.repeat.columns len → (m : ℕ) → bytes ≡ take m (drop x.place f) → len ≤ m → k < len
        → found_along tables first n bytes k ≡ scaled_from f o t r (l + k / t.frame.samples) (k % t.frame.samples)
    sample_found small tables first len n k bytes w wide e m eb fits b =
        let v = levels f o raw h in
        let samples = t.frame.samples in
        let some = h.tags.frame.some_samples in
        let c : v.repeat_columns ≡ t.levels.repeat.columns = repeat_columns_are f o t in
        let e' : n ≡ min v.repeat_columns len = rw c e in
        let z : 0 < n = omega (arith, h.tags.levels.repeat.some_columns) in
        let s = get_or bytes k 0 in
        let inside : x.place + 1 * k + 1 ≤ length f = rw (is.bytes, has.bytes) at
        ((row_inside t some f o h.tags r l row x is len wide).inside k b) in
        let found_number = number_found small m k s (omega arith) (omega arith) (ap (λ (bs : List ℕ). get_or bs k 0) eb) in
        let same : cell_for v r (l + k % n) 0 ≡ cell_for v r (l + k) 0 = cell_same v r (l + k % n) r (l + k) 0 refl
        (column_met v.repeat_columns len n l k e' b) in
        let column : l + k ≡ l + k / samples = rw has.samples (ap (λ (j : ℕ). l + j) (sym (div-one k))) in
        let plane : 0 ≡ k % samples = rw has.samples (sym (mod-one k)) in
        let black : ℕ → ℤ = λ j. cell_for v r (l + j) 0 in
        value_is f x black (λ j. span_of v 0) k _ (through_of v.table s) found_number.1
        (w.holds (k % n) (omega (arith, mod-lt k z)) s found_number.0
        ∙ ap (λ (d : ℤ). scaled_of (level_of (difference_of (through_of v.table s) d) (span_of v 0))) same)
        ∙ value_scaled t some f o h.tags r l row x is k (wide k b) black (λ j. span_of v 0)
        ((λ i. cell_for v r (column i) (plane i)) ∙ plain_black r (l + k / samples) (k % samples)) (ap (span_of v) plane)

    -- all samples
    pub row_found : ((i : ℕ) → get_or f i 0 < 256) → (tables : List (List Float)) (first n m : ℕ) (old new : List Float)
        → RowTables (levels f o raw h) r l (length old) tables first
        → WideIn t l (length old) → n ≡ min t.levels.repeat.columns (length old) → length old ≤ m → length new ≡ length old
        → Filled nan (found_along tables first n (take m (drop x.place f))) (length old) new → new ≡ scaled_part f o t r l old
    unfolding scaled_part
    row_found small tables first n m old new w wide e fits same filled =
        is_each _ nan old new same
        (λ k b. filled k b ∙ sample_found small tables first (length old) n k (take m (drop x.place f)) w wide e m refl fits b)
