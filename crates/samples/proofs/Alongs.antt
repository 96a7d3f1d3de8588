-- What lies along a row comes again after a repeat, and is what a line asks.
-- Assumes nothing.
use mathlib.Core.Path.{◌≡◌, refl, sym, ap, ◌∙◌}
use mathlib.Core.Logic.{⊎_elim}
use mathlib.Core.List.{List}
use Prim.Native.Nat.{ℕ, ◌+◌, ◌-◌, ◌*◌, ◌/◌, ◌%◌, ◌≤◌, ◌<◌}
use native.Mathlib.Nat.{add_assoc, mul_assoc, mul_comm, mul-div_cancel, mod-lt, div-add-mod', add-mul, mul-le-mul_right, add-mul-div_right}
use native.Mathlib.Nat.{add-mul-mod_self_right}
use native.Mathlib.Omega.{arith}
use lib.IntN.{ℤ, pos, nat_abs}
use lib.Ieee.{Float, nan}
use lib.ListN.{length, get_or, take, drop, length-take, length-drop, get_or-eq_default}
use Rattle.std.specs.Prelude.{Result, Ok, Err}
use Rattle.reading.specs.Bytes.{part}
use Rattle.reading.specs.Reading.{run}
use Rattle.reading.specs.declared.fraction.Fraction.{Fraction}
use Rattle.reading.specs.declared.number.Order.{Order}
use Rattle.reading.proofs.Wholes.{le_or_lt}
use Rattle.directory.specs.declared.tag.Values.{Values}
use Rattle.levels.specs.Black.{black_of, black_at, value_of, width_of, parts_of}
use Rattle.levels.specs.Levels.{Levels, cell_for, span_of}
use Rattle.levels.specs.Facts.Reciprocal.{of_parts, inverse_of, SpanIn}
use Rattle.levels.specs.Run.{run_of}
use Rattle.levels.specs.declared.black.BlackFault.{BlackFault}
use Rattle.levels.specs.declared.black.BlackKind.{BlackKind}
use Rattle.levels.proofs.Carried.{black_carried}
use Rattle.levels.proofs.Residues.{cell_same}
use Rattle.levels.proofs.Runs.{length_run}
use Rattle.rawtags.specs.Black.{kind_for}
use Rattle.rawtags.specs.Facts.Raw.{TagsWithin}
use Rattle.raw.specs.Stored.{blacks_reading, levels_reading}
use Rattle.rawtags.specs.declared.Tags.{Tags}
use Rattle.rawtags.proofs.BlackLaws.{width_for}
use Rattle.raw.proofs.StoredLaws.{blacks_run, black_in}
use Rattle.raw.proofs.TagFacts.{cell_index, cell_for_law}
use Rattle.samples.specs.Facts.Along.{cell_along, span_along, piece_of, AlongIn}
use Rattle.samples.specs.Facts.Line.{PartIs, Celled, Repeating}
use Rattle.samples.proofs.Lines.{part_at}
use Rattle.levels.specs.Facts.Black.{most_black}

module _ (v : Levels) (n : ℕ) (some : 1 ≤ n) where
  abbrev period : ℕ
  period = v.repeat_columns * n

  -- after m repeats
  module _ (m k : ℕ) where
    shifted : m * period + k ≡ k + m * v.repeat_columns * n
    shifted = omega (arith, mul_assoc m v.repeat_columns n)

    pub cell_repeats : (r l : ℕ) → cell_along v n r l (m * period + k) ≡ cell_along v n r l k
    cell_repeats r l =
        let c = v.repeat_columns in
        let column : l + (m * period + k) / n ≡ l + k / n + m * c =
        ap (λ (x : ℕ). l + x / n) shifted ∙ ap (λ (x : ℕ). l + x) (add-mul-div_right k (m * c) some) ∙ sym (add_assoc l (k / n) (m * c)) in
        let plane : (m * period + k) % n ≡ k % n = ap (λ (x : ℕ). x % n) shifted ∙ add-mul-mod_self_right k (m * c) n in
        ap (λ (p : ℕ). cell_for v r (l + (m * period + k) / n) p) plane
        ∙ cell_same v r (l + (m * period + k) / n) r (l + k / n) (k % n) refl
        (ap (λ (x : ℕ). x % c) column ∙ add-mul-mod_self_right (l + k / n) m c)

    pub span_repeats : span_along v n (m * period + k) ≡ span_along v n k
    span_repeats = ap (span_of v) (ap (λ (x : ℕ). x % n) shifted ∙ add-mul-mod_self_right k (m * v.repeat_columns) n)

  -- after a whole number of them
  module _ (q k : ℕ) (whole : q % period ≡ 0) where
    times : q + k ≡ q / period * period + k
    times = omega (arith, div-add-mod' q period)

    pub cell_again : (r l : ℕ) → cell_along v n r l (q + k) ≡ cell_along v n r l k
    cell_again r l = ap (cell_along v n r l) times ∙ cell_repeats (q / period) k r l

    pub span_again : span_along v n (q + k) ≡ span_along v n k
    span_again = ap (span_along v n) times ∙ span_repeats (q / period) k

  -- after one
  pub cell_next : (r l k : ℕ) → cell_along v n r l (k + period) ≡ cell_along v n r l k
  cell_next r l k = let e : k + period ≡ 1 * period + k = omega arith in ap (cell_along v n r l) e ∙ cell_repeats 1 k r l

  -- S after each column
  pub span_next : (k : ℕ) → span_along v n (k + n) ≡ span_along v n k
  span_next k = let e : k + n ≡ k + 1 * n = omega arith in ap (span_of v) (ap (λ (x : ℕ). x % n) e ∙ add-mul-mod_self_right k 1 n)

-- ---- 256ths of a tag, each of a black that is carried
parts_small : (x : Fraction) → nat_abs (parts_of (black_of x)) ≤ most_black
parts_small x = go (black_of x) refl
  where
    go : (y : Result ℤ BlackFault) → black_of x ≡ y → nat_abs (parts_of y) ≤ most_black
    go (Ok b) e = (black_carried x b e).small
    go (Err f) e = omega arith

at_small : (k : BlackKind) (o : Order) (f : List ℕ) (p : ℕ) → nat_abs (parts_of (black_at k o f p)) ≤ most_black
unfolding black_at
at_small k o f p = parts_small (value_of k o (part f p (width_of k)))

module _ (f : List ℕ) (o : Order) (k : BlackKind) (v : Values) (sized : 0 < v.count → v.size ≡ width_of k) where
  blacks_small : (i : ℕ) → nat_abs (get_or (run f (blacks_reading o k v)) i (pos 0)) ≤ most_black
  blacks_small i =
      let bs = run_of (λ (p : ℕ). parts_of (black_at k o f p)) v.size v.place v.count in
      let n = length_run (λ (p : ℕ). parts_of (black_at k o f p)) v.size v.place v.count in
      ⊎_elim (λ h. rw (blacks_run f o k v sized, get_or-eq_default bs (pos 0) {n = i} (omega arith)) (omega arith))
      (λ h. rw (black_in f o k v sized i h) (at_small k o f (v.place + v.size * i))) (le_or_lt v.count i)

pub cell_small : (f : List ℕ) (o : Order) (t : Tags) → TagsWithin f o t → (r c p : ℕ) →
    nat_abs (cell_for (run f (levels_reading o t)) r c p) ≤ most_black
cell_small f o t h r c p =
    let b = t.levels.black in
    let q = h.levels.black in
    rw (cell_for_law f o t r c p) (blacks_small f o (kind_for b.kind) b (λ s. (q.typed s).1 ∙ width_for _ (q.typed s).0)
    (cell_index t r c p))

-- ---- what lies along a part of a row
module _ (v : Levels) (n l len : ℕ) (some : 1 ≤ n) (along : List Float) (w : AlongIn v n l len along) where
  abbrev q : ℕ
  q = piece_of v along

  pub cells_end : (r : ℕ) → r < v.repeat_rows → r * q + q + q ≤ length along
  cells_end r h =
      let m : (r + 1) * q ≤ v.repeat_rows * q = mul-le-mul_right q (omega arith) in
      omega (arith, w.size, add-mul r 1 q, add-mul v.repeat_rows 1 q)

  pub inverses_end : v.repeat_rows * q + q ≡ length along
  inverses_end = omega (arith, w.size, add-mul v.repeat_rows 1 q)

  module _ (r : ℕ) (h : r < v.repeat_rows) where
    abbrev cells : List Float
    cells = take (r * q + q - r * q) (drop (r * q) along)

    abbrev inverses : List Float
    inverses = take (v.repeat_rows * q + q - v.repeat_rows * q) (drop (v.repeat_rows * q) along)

    pub cells_length : length cells ≡ q
    cells_length = omega (arith, length-take (r * q + q - r * q) (drop (r * q) along), length-drop (r * q) along, cells_end r h)

    pub inverses_length : length inverses ≡ q
    inverses_length =
        omega (
          arith,
          length-take (v.repeat_rows * q + q - v.repeat_rows * q) (drop (v.repeat_rows * q) along),
          length-drop (v.repeat_rows * q) along,
          inverses_end,
        )

    pub repeating : Repeating (cell_along v n r l) (span_along v n) (length cells) len
    repeating =
        rw cells_length
        (record { cell_again = λ g k. cell_again v n some q k (w.again g) r l; span_again = λ g k. span_again v n some q k (w.again g) })

    pub celled : (down : ℤ) (d : Float) → ((c p : ℕ) → nat_abs (cell_for v r c p) ≤ most_black) → ((p : ℕ) → p < n → SpanIn (span_of v p)) →
        PartIs down d
        → Celled (cell_along v n r l) (span_along v n) down cells inverses d (length cells)
    celled down d small spans y =
        record {
          cell_is = λ k b.
              let b' : k < q = omega (arith, cells_length) in
              record {
                small = small (l + k / n) (k % n);
                number = part_at nan (r * q) (r * q + q - r * q) k along (omega arith)
                    ∙ w.cells r k h b';
              };
          inverse_is = λ k b.
              let b' : k < q = omega (arith, cells_length) in
              let a = v.repeat_rows * q in
              record {
                inside = spans (k % n) (mod-lt k some);
                number = part_at nan a (a + q - a) k along (omega arith)
                    ∙ w.inverses k b';
              };
          down_is = y;
        }

-- ---- rows of q numbers are what lies along
pub along_filled :
    (v : Levels) (n l len q R C : ℕ) (new : List Float) → v.repeat_rows ≡ R → v.repeat_columns ≡ C → length new ≡ (R + 1) * q → 1 ≤ q →
    q ≤ 512
    → ((r k : ℕ) → r < R → k < q → get_or new (r * q + k) nan ≡ of_parts (cell_along v n r l k))
    → ((k : ℕ) → k < q → get_or new (R * q + k) nan ≡ inverse_of (span_along v n k))
    → (q < len → q % (C * n) ≡ 0) → AlongIn v n l len new
along_filled v n l len q R C new er ec size some few cells inverses again =
    let p : piece_of v new ≡ q = ap (λ (m : ℕ). length new / (m + 1)) er ∙ ap (λ (m : ℕ). m / (R + 1)) (size ∙ mul_comm (R + 1) q)
    ∙ mul-div_cancel q (omega arith) in
    record {
      size = rw (p, er) size;
      some = rw p some;
      few = rw p few;
      cells = λ r k h c. ap (λ (m : ℕ). get_or new (r * m + k) nan) p ∙ cells r k (omega arith) (omega arith);
      inverses = λ k c. (λ i. get_or new (er i * p i + k) nan) ∙ inverses k (omega arith);
      again = rw (p, ec) again;
    }
