-- The values of a line are the file's scaled values.
-- Assumes nothing.
use mathlib.Core.Path.{◌≡◌, refl, sym, ap, ◌∙◌, subst}
use mathlib.Core.List.{List}
use Prim.Native.Nat.{ℕ, ◌+◌, ◌-◌, ◌*◌, ◌/◌, ◌%◌, ◌≤◌, ◌<◌}
use native.Mathlib.Nat.{add_assoc, add-mul, mul_comm, mod-lt, mod-mod, div-add-mod'}
use native.Mathlib.Omega.{arith}
use lib.IntN.{ℤ, pos, ◌+ℤ◌}
use lib.Ieee.{Float, nan}
use lib.ListN.{length, get_or, take, drop}
use Rattle.reading.specs.Bytes.{part}
use Rattle.reading.specs.Number.{number_of}
use Rattle.reading.specs.Reading.{run}
use Rattle.reading.specs.declared.number.Order.{Order}
use Rattle.levels.specs.Levels.{Levels, cell_for, black_for, span_of}
use Rattle.levels.specs.Facts.Reciprocal.{SpanIn}
use Rattle.levels.proofs.SignedOrder.{sum_same}
use Rattle.levels.proofs.Residues.{cell_same}
use Rattle.raw.specs.Facts.Front.{RawWithin}
use Rattle.rawtags.specs.Raw.{active_rows, active_columns}
use Rattle.rawtags.specs.Facts.Raw.{TagsWithin}
use Rattle.raw.specs.Sample.{place_of}
use Rattle.raw.specs.Stored.{numbers_reading, levels_reading, stored_reading}
use Rattle.rawtags.specs.declared.Tags.{Tags}
use Rattle.raw.specs.declared.front.Raw.{Raw}
use Rattle.raw.proofs.StoredLaws.{repeat_rows_are}
use Rattle.raw.proofs.TagFacts.{scaled_is, stored_is, stored_run, place_inside, table_inside, span_in}
use Rattle.samples.specs.Facts.Along.{cell_along, span_along, AlongIn, DeltasIn}
use Rattle.samples.specs.Facts.Line.{Filled, line_value, LineIn, Celled, Repeating, LineOf, WideIn, scaled_from, scaled_part}
use Rattle.samples.specs.declared.line.Line.{Line}
use Rattle.samples.proofs.Eaches.{is_each}
use Rattle.samples.proofs.Alongs.{cell_small, celled, repeating}

-- ---- the numbers of a row stand one behind the other
module _ (t : Tags) (some : 1 ≤ t.frame.samples) where
  abbrev n : ℕ
  n = t.frame.samples

  place_along : (offsets : List ℕ) (r c k : ℕ) → place_of t offsets r (c + k / n) (k % n) ≡ place_of t offsets r c 0 + t.layout.bytes * k
  place_along offsets r c k =
      let b = t.layout.bytes in
      let x = (r % t.layout.rows) * t.frame.width in
      let e : (x + (c + k / n)) * n + k % n ≡ (x + c) * n + 0 + k =
      omega (arith, ap (λ (m : ℕ). m * n) (sym (add_assoc x c (k / n))), add-mul (x + c) (k / n) n, div-add-mod' k n) in
      let g : ((x + (c + k / n)) * n + k % n) * b ≡ ((x + c) * n + 0) * b + k * b = ap (λ (m : ℕ). m * b) e
      ∙ add-mul ((x + c) * n + 0) k b in
      omega (arith, mul_comm k b)

  module _ (f : List ℕ) (o : Order) (h : TagsWithin f o t) (r l : ℕ) (row : r < active_rows t.area) (x : Line) (is : LineOf f o t r l x)
    where
      abbrev offsets : List ℕ
      offsets = run f (numbers_reading o t.strips)

      abbrev levels : Levels
      levels = run f (levels_reading o t)

      module _ (k : ℕ) (column : l + k / n < active_columns t.area) where
        at : x.place + x.bytes * k ≡ place_of t offsets (t.area.top + r) (t.area.left + l + k / n) (k % n)
        at = rw (is.place, is.bytes) (sym (place_along offsets (t.area.top + r) (t.area.left + l) k))

        -- the sample lies in the file
        sample_inside : x.place + x.bytes * k + x.bytes ≤ length f
        sample_inside =
            let c : t.area.left + l + k / n < t.frame.width = omega (arith, h.area.right) in
            let b : t.area.top + r < t.frame.length = omega (arith, h.area.bottom) in
            let q = place_inside f o t h.layout.some_rows h.strips (t.area.top + r) (t.area.left + l + k / n) (k % n) b c
            (mod-lt k some) in
            let s : place_of t (run f (stored_reading o t)).offsets (t.area.top + r) (t.area.left + l + k / n) (k % n) ≡ x.place + x.bytes * k =
            ap (λ z. place_of t z.offsets (t.area.top + r) (t.area.left + l + k / n) (k % n)) (stored_run f o t r l (k % n)) ∙ sym at in
            omega (arith, q, s, is.bytes)

        -- its value is its scaled value
        pub value_scaled : (black span : ℕ → ℤ) → black k ≡ black_for levels r (l + k / n) (k % n) → span k ≡ span_of levels (k % n)
            → line_value f x black span k ≡ scaled_from f o t r (l + k / n) (k % n)
        unfolding line_value
        value_scaled black span b s =
            let b' : ℕ = t.layout.bytes in
            let place : x.place + b' * k ≡ place_of t offsets (t.area.top + r) (t.area.left + (l + k / n)) (k % n) =
            ap (λ (m : ℕ). x.place + m * k) (sym is.bytes) ∙ at
            ∙ ap (λ (c : ℕ). place_of t offsets (t.area.top + r) c (k % n)) (omega arith) in
            rw (is.order, is.table, is.count, is.bytes)
            (scaled_is f o t r (l + k / n) (k % n) h (number_of o (part f (x.place + b' * k) b')) _ (black k) (span k)
            (stored_is f o t r (l + k / n) (k % n) offsets (x.place + b' * k) (t.area.top + r) (t.area.left + (l + k / n)) place refl
            refl)
            refl b s)

      -- n samples and the table lie in the file
      pub row_inside : (len : ℕ) → WideIn t l len → LineIn f x len
      row_inside len w =
          record {
            inside = λ k h. sample_inside k (w k h);
            some = rw is.bytes h.layout.some_bytes;
            few = rw is.bytes h.layout.bytes;
            table = rw (is.table, is.count) (table_inside f o t h);
          }

-- ---- a line with what lies along it has the row's scaled values
pub row_scaled :
    (raw : Raw) (f : List ℕ) (o : Order) → RawWithin f o raw → (r l : ℕ) → r < active_rows raw.tags.area → (x : Line) →
    LineOf f o raw.tags r l x
    → (along : List Float) (deltas : List ℤ) (old new : List Float) → WideIn raw.tags l (length old)
    → (let v = run f (levels_reading o raw.tags) in
    let n = raw.tags.frame.samples in
    let rows = raw.tags.levels.repeat.rows in
    let q = length along / (rows + 1) in
    let a = r % rows * q in
    let z = rows * q in
    AlongIn v n l (length old) along → DeltasIn v n l (length old) deltas → length new ≡ length old
    → ((cell span : ℕ → ℤ) (down : ℤ) → Celled cell span down (take (a + q - a) (drop a along)) (take (z + q - z) (drop z along)) x.down
    (length (take (a + q - a) (drop a along)))
    → Repeating cell span (length (take (a + q - a) (drop a along))) (length old)
    → Filled nan (line_value f x (λ k. cell k +ℤ get_or deltas k (pos 0) +ℤ down) span) (length old) new)
    → new ≡ scaled_part f o raw.tags r l old)
unfolding scaled_part black_for
row_scaled raw f o h r l row x is along deltas old new wide w d same g =
    let t = raw.tags in
    let v = run f (levels_reading o t) in
    let n = t.frame.samples in
    let some = h.tags.frame.some_samples in
    let e : v.repeat_rows ≡ t.levels.repeat.rows = repeat_rows_are f o t in
    let i = r % v.repeat_rows in
    let b : i < v.repeat_rows = mod-lt r (rw e h.tags.levels.repeat.some_rows) in
    let down : ℤ = get_or v.row_deltas r (pos 0) in
    let s : (p : ℕ) → p < n → SpanIn (span_of v p) = λ p m. rw (← (span_in f o raw h p m)) (h.spans p m) in
    let f' = g (cell_along v n i l) (span_along v n) down
    (subst (λ (m : ℕ). let q = length along / (m + 1) in let a = r % m * q in let z = m * q in
    Celled (cell_along v n i l) (span_along v n) down (take (a + q - a) (drop a along)) (take (z + q - z) (drop z along)) x.down
    (length (take (a + q - a) (drop a along))))
    e (celled v n l (length old) some along w i b down x.down (cell_small f o t h.tags i) s is.down))
    (subst (λ (m : ℕ). let q = length along / (m + 1) in let a = r % m * q in
    Repeating (cell_along v n i l) (span_along v n) (length (take (a + q - a) (drop a along))) (length old))
    e (repeating v n l (length old) some along w i b)) in
    is_each _ nan old new same (λ k m.
    let cell : cell_along v n i l k ≡ cell_for v r (l + k / n) (k % n) = cell_same v i (l + k / n) r (l + k / n) (k % n)
    (mod-mod r v.repeat_rows) refl in
    f' k m ∙ value_scaled t some f o h.tags r l row x is k (wide k m) _ (span_along v n) (sum_same cell (d.same k m) refl) refl)
