-- Laws of tables: which files have them, and what a table holds when it is filled.
-- Assumes nothing.
use mathlib.Core.Path.{◌≡◌, sym, ap, ◌∙◌, subst}
use mathlib.Core.Bool.{true}
use mathlib.Core.Logic.{⊎_elim}
use mathlib.Core.List.{List, []}
use Prim.Native.Nat.{ℕ, ◌+◌, ◌≤◌, ◌<◌}
use native.Mathlib.Nat.{ne_of_lt}
use native.Mathlib.Omega.{arith}
use borrow.Author.Tests.{eqb-true}
use lib.Dec.{eqb}
use lib.IntN.{ℤ, nat_abs}
use lib.Ieee.{Float, nan}
use lib.ListN.{length, get_or, set}
use lib.Seq.{get_or-set_same, get_or-set_other}
use Rattle.reading.specs.Reading.{run}
use Rattle.reading.specs.declared.number.Order.{Order}
use Rattle.reading.proofs.Wholes.{le_or_lt}
use Rattle.levels.specs.Level.{difference_of, level_of, scaled_of}
use Rattle.levels.specs.Levels.{Levels, cell_for, span_of}
use Rattle.levels.specs.Table.{table_of, through_of}
use Rattle.levels.specs.Facts.Black.{most_black}
use Rattle.levels.specs.Facts.Reciprocal.{of_parts, inverse_of, SpanIn, BlackIs, InverseIs}
use Rattle.opcodes.proofs.OpcodeLists.{and-true}
use Rattle.rawtags.specs.declared.Tags.{Tags}
use Rattle.raw.specs.Facts.Front.{RawWithin}
use Rattle.raw.specs.Stored.{levels_reading}
use Rattle.raw.specs.declared.front.Raw.{Raw}
use Rattle.raw.proofs.TagFacts.{table_is, span_in}
use Rattle.samples.proofs.Alongs.{cell_small}
use Rattle.tables.specs.Tables.{tabled, CellTable}

-- ---- which files have tables
pub record Tabled (t : Tags) : Type 0 where
  pub bytes : t.layout.bytes ≡ 1
  pub samples : t.frame.samples ≡ 1
  pub columns : t.levels.column_deltas.count ≡ 0
  pub rows : t.levels.row_deltas.count ≡ 0

pub tabled_has : (t : Tags) → tabled t ≡ true → Tabled t
tabled_has t h =
    let a = and-true (eqb t.layout.bytes 1) _ h in
    let b = and-true (eqb t.frame.samples 1) _ a.1 in
    let c = and-true (eqb t.levels.column_deltas.count 0) _ b.1 in
    record { bytes = eqb-true _ _ a.0; samples = eqb-true _ _ b.0; columns = eqb-true _ _ c.0; rows = eqb-true _ _ c.1 }

-- ---- a table filled from a cell's black and the plane's S
module _ (f : List ℕ) (o : Order) (raw : Raw) (h : RawWithin f o raw) where
  abbrev pub levels : Levels
  levels = run f (levels_reading o raw.tags)

  pub table_holds : (r c : ℕ) (xs : List Float) (black inverse : Float) → black ≡ of_parts (cell_for levels r c 0) →
      inverse ≡ inverse_of (span_of levels 0)
      → (let e = raw.tags.levels.table in
      (b span : ℤ) → BlackIs b black → InverseIs span inverse → (s : ℕ) → s < 256
      → get_or xs s nan ≡ scaled_of (level_of (difference_of (through_of (table_of o f e.place e.count) s) b) span))
      → CellTable levels r c xs
  table_holds r c xs black inverse eb ei g s k =
      let some = h.tags.frame.some_samples in
      let small : nat_abs (cell_for levels r c 0) ≤ most_black = cell_small f o raw.tags h.tags r c 0 in
      let inside : SpanIn (span_of levels 0) = rw (← (span_in f o raw h 0 some)) (h.spans 0 some) in
      g (cell_for levels r c 0) (span_of levels 0) (record { small = omega arith; number = eb }) (record { inside = inside; number = ei }) s k
      ∙ ap (λ (t : List ℕ). scaled_of (level_of (difference_of (through_of t s) (cell_for levels r c 0)) (span_of levels 0)))
      (sym (table_is f o raw.tags h.tags))

-- one table more
pub tables_more : (P : ℕ → List Float → Type 0) (i : ℕ) (xs : List (List Float)) (table : List Float) → i < length xs
    → ((k : ℕ) → k < i → P k (get_or xs k [])) → P i table → (k : ℕ) → k < i + 1 → P k (get_or (set xs i table) k [])
tables_more P i xs table h before this k b =
    ⊎_elim
    (λ l. let e : k ≡ i = omega arith in
    subst (λ (z : ℕ). P z (get_or (set xs i table) z [])) (sym e) (subst (P i) (sym (get_or-set_same xs i table [] h)) this))
    (λ l. subst (P k) (sym (get_or-set_other xs i k table [] (ne_of_lt l))) (before k l))
    (le_or_lt i k)
