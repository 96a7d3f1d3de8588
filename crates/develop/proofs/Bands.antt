-- Rows of a window that are filled in bands: those whose cells' tables are at hand.
-- Assumes nothing.
use mathlib.Core.Path.{◌≡◌, refl, sym, ap, ◌∙◌, subst}
use mathlib.Core.Bool.{true}
use mathlib.Core.Logic.{◌⊎◌, inl, inr, ⊎_elim}
use mathlib.Core.List.{List, [], ◌++◌}
use Prim.Native.Nat.{ℕ, ◌+◌, ◌-◌, ◌*◌, ◌/◌, ◌%◌, ◌≤◌, ◌<◌, min}
use native.Mathlib.Nat.{zero-add, mul-one, add-mul, mul-le-mul_right, mod-lt, mod-eq_of_lt, div-eq_of_lt, add-mul-div_right, add-mul-mod_self_right}
use native.Mathlib.Omega.{arith}
use lib.Ieee.{Float, nan}
use lib.ListN.{length, get_or, take, drop}
use Rattle.reading.proofs.Wholes.{le_or_lt}
use Rattle.levels.specs.Levels.{Levels, cell_for}
use Rattle.levels.proofs.Residues.{cell_same}
use Rattle.rawtags.specs.Facts.Repeat.{RepeatWithin}
use Rattle.raw.proofs.StoredLaws.{repeat_rows_are, repeat_columns_are}
use Rattle.samples.specs.Facts.Line.{Filled}
use Rattle.samples.proofs.Lines.{put_before, put_inside, part_at}
use Rattle.tables.specs.Tables.{tabled, CellTable, scaled_under}
use Rattle.tables.specs.Facts.RowTables.{RowTables}
use Rattle.tables.proofs.FoundLaws.{column_met}
use Rattle.tables.proofs.TableLaws.{tabled_has}
use Rattle.develop.specs.Calls.{values_of}
use Rattle.develop.specs.Facts.Fill.{FillIn, number_of}
use Rattle.develop.specs.Facts.Tabled.{levels_of, rows_met, columns_met, TabledIn, BandTables, RowsUpto}
use Rattle.develop.specs.declared.View.{View}
use Rattle.develop.specs.declared.fill.Rectangle.{Rectangle}
use Rattle.develop.proofs.Windows.{put_behind, samples_is, upto_values}

-- a cell's table is that of every row with the same cell
table_same : (v : Levels) (r i c : ℕ) (table : List Float) → cell_for v r c 0 ≡ cell_for v i c 0 → CellTable v r c table → CellTable v i c table
table_same v r i c table e h s b = h s b ∙ ap (λ z. scaled_under v z s) e

module _ (f : List ℕ) (v : View) (w : Rectangle) (h : TabledIn f v w) where
  abbrev repeat_in : RepeatWithin v.picture.raw.tags.levels.repeat
  repeat_in = h.file.picture_in.raw.tags.levels.repeat

  pub one_sample : v.size.samples ≡ 1
  one_sample = samples_is f v h.file ∙ (tabled_has v.picture.raw.tags h.has).samples

  pub some_met : (1 ≤ rows_met v w) × (rows_met v w ≤ 8) × (1 ≤ columns_met v w) × (columns_met v w ≤ 8)
  some_met = (
    omega (arith, repeat_in.some_rows, h.some_rows),
    omega (arith, repeat_in.rows),
    omega (arith, repeat_in.some_columns, h.some_columns),
    omega (arith, repeat_in.columns),
  )

  -- the tables of a row whose band is at hand
  pub row_tables : (from count i down len : ℕ) (tables : List (List Float)) → BandTables f v w from count tables → i < w.height →
      down ≡ i % rows_met v w → from ≤ down → down - from < count → len ≡ w.width →
      RowTables (levels_of f v) (w.top + i) w.left len tables ((down - from) * columns_met v w)
  row_tables from count i down len tables b inside e low high l =
      let t = v.picture.raw.tags in
      let o = v.picture.order in
      let j = down - from in
      let n = columns_met v w in
      let c : min (levels_of f v).repeat_columns len ≡ n = ap (λ (z : ℕ). min z len) (repeat_columns_are f o t)
      ∙ ap (λ (z : ℕ). min t.levels.repeat.columns z) l in
      let r : w.top + from + j ≡ w.top + i % rows_met v w = omega arith in
      let d : rows_met v w ≡ min (levels_of f v).repeat_rows w.height = ap (λ (z : ℕ). min z w.height) (sym (repeat_rows_are f o t)) in
      let met = column_met (levels_of f v).repeat_rows w.height (rows_met v w) w.top i d inside in
      let room : (j + 1) * n ≤ count * n = mul-le-mul_right n (omega arith) in
      record {
        inside = omega (arith, c, b.inside, add-mul j 1 n);
        holds = λ k g.
            table_same (levels_of f v) (w.top + from + j) (w.top + i) (w.left + k) (get_or tables (j * n + k) [])
            (ap (λ (z : ℕ). cell_for (levels_of f v) z (w.left + k) 0) r
            ∙ cell_same (levels_of f v) (w.top + i % rows_met v w) (w.left + k) (w.top + i) (w.left + k) 0 met refl)
            (b.holds j k high (omega (arith, c)));
      }

  -- tables that stand row by row
  pub band_tables : (from count n : ℕ) (tables : List (List Float)) → n ≡ columns_met v w → count * n ≤ length tables
      → ((i : ℕ) → i < count * n → CellTable (levels_of f v) (w.top + from + i / n) (w.left + i % n) (get_or tables i []))
      → BandTables f v w from count tables
  band_tables from count n tables e room holds =
      let some : 0 < n = omega (arith, some_met.2) in
      record {
        inside = omega (arith, ap (λ (z : ℕ). count * z) e);
        holds = λ j c hj hc.
            let i = j * n + c in
            let below : c < n = omega arith in
            let room : (j + 1) * n ≤ count * n = mul-le-mul_right n (omega arith) in
            let s : i ≡ c + j * n = omega arith in
            let down : i / n ≡ j = ap (λ (z : ℕ). z / n) s ∙ add-mul-div_right c j some ∙ ap (λ (z : ℕ). z + j) (div-eq_of_lt below)
            ∙ zero-add j in
            let across : i % n ≡ c = ap (λ (z : ℕ). z % n) s ∙ add-mul-mod_self_right c j n ∙ mod-eq_of_lt below in
            let table : get_or tables i [] ≡ get_or tables (j * columns_met v w + c) [] = ap (λ (z : ℕ). get_or tables (j * z + c) []) e in
            subst (λ (xs : List Float). CellTable (levels_of f v) (w.top + from + j) (w.left + c) xs) table
            (subst (λ (z : ℕ). CellTable (levels_of f v) (w.top + from + j) (w.left + z) (get_or tables i [])) across
            (subst (λ (z : ℕ). CellTable (levels_of f v) (w.top + from + z) (w.left + i % n) (get_or tables i [])) down
            (holds i (omega (arith, add-mul j 1 n)))));
      }

-- ---- h rows of m numbers, of which those with a place below u in every `met` are filled, and of the n places behind it the first i rows
module _ (x : ℕ → ℕ → Float) (met h m u n : ℕ) where
  abbrev pub Banded : ℕ → List Float → Type 0
  Banded i xs = (r k : ℕ) → r < h → k < m → r % met < u + n → (r % met < u) ⊎ (r < i) → get_or xs (r * m + k) nan ≡ x r k

  pub banded_start : (xs : List Float) → RowsUpto x met h m u xs → Banded 0 xs
  banded_start xs w r k b c d (inl e) = w r k b c e
  banded_start xs w r k b c d (inr e) = absurd (omega arith)

  pub banded_end : (i : ℕ) (xs : List Float) → h ≤ i → Banded i xs → RowsUpto x met h m (u + n) xs
  banded_end i xs e w r k b c d = w r k b c d (inr (omega arith))

  module _ (i a : ℕ) (xs ys : List Float) (row : i < h) (at : a ≡ i * m) (len : length xs ≡ h * m) (part : length ys ≡ m)
      (state : Banded i xs) (fresh : u ≤ i % met → i % met < u + n → Filled nan (x i) m ys)
      (stale : i % met < u → ys ≡ take (a + m - a) (drop a xs)) where
    abbrev after : List Float
    after = take a xs ++ (ys ++ drop (a + m - a) (drop a xs))

    inside : a + m ≤ length xs
    inside = let w : (i + 1) * m ≤ h * m = mul-le-mul_right m (omega arith) in omega (arith, add-mul i 1 m)

    -- in this row
    this : (k : ℕ) → k < m → i % met < u + n → get_or ys k nan ≡ x i k
    this k b c =
        ⊎_elim (λ g. fresh g c k b)
        (λ g. let e : i * m + k ≡ a + k = omega arith in
        ap (λ (zs : List Float). get_or zs k nan) (stale g) ∙ part_at nan a (a + m - a) k xs (omega arith)
        ∙ ap (λ (z : ℕ). get_or xs z nan) (sym e) ∙ state i k row b c (inl g))
        (le_or_lt u (i % met))

    pub banded_next : Banded (i + 1) after
    banded_next r k b c d e =
        ⊎_elim
        (λ l. ⊎_elim
        (λ g. let q : r ≡ i = omega arith in
        let j : r * m + k ≡ a + k = ap (λ (z : ℕ). z * m + k) q ∙ omega arith in
        ap (λ (z : ℕ). get_or after z nan) j ∙ put_inside nan a (a + m - a) xs ys k (omega (arith, inside)) (omega arith)
        ∙ this k c (subst (λ (z : ℕ). z % met < u + n) q d) ∙ ap (λ (z : ℕ). x z k) (sym q))
        -- in a row behind it
        (λ g. let w : (i + 1) * m ≤ r * m = mul-le-mul_right m (omega arith) in
        put_behind a m xs ys (r * m + k) (omega (arith, inside)) part (omega (arith, add-mul i 1 m))
        ∙ state r k b c d (⊎_elim inl (λ z. absurd (omega arith)) e))
        (le_or_lt r i))
        -- in a row before it
        (λ l. let w : (r + 1) * m ≤ i * m = mul-le-mul_right m (omega arith) in
        put_before nan a (a + m - a) xs ys (r * m + k) (omega (arith, inside)) (omega (arith, add-mul r 1 m)) ∙ state r k b c d (inr l))
        (le_or_lt i r)

-- all rows are the window's values
pub rows_values : (x : ℕ → ℕ → ℕ → Float) (w : Rectangle) (met n : ℕ) (xs : List Float) → n ≡ 1 → 1 ≤ met → length xs ≡ w.height * w.width
    → RowsUpto (number_of x w n) met w.height w.width met xs → xs ≡ values_of x w.top w.left w.height w.width n
rows_values x w met n xs one some len up =
    let e : w.width * n ≡ w.width = ap (λ (z : ℕ). w.width * z) one ∙ mul-one w.width in
    upto_values x w n xs (omega arith) (len ∙ ap (λ (z : ℕ). w.height * z) (sym e)) (λ r k b c.
    ap (λ (z : ℕ). get_or xs (r * z + k) nan) e ∙ up r k b (omega arith) (mod-lt r some))

-- ---- a window of a file that has tables
module _ (f : List ℕ) (v : View) (w : Rectangle) (old : List Float) (h : FillIn f v w old) (has : tabled v.picture.raw.tags ≡ true) where
  abbrev pub tabled_window : TabledIn f v w
  tabled_window =
      record { file = h.file; has = has; some_rows = h.some_rows; some_columns = h.some_columns; rows = h.rows; columns = h.columns }

  pub tabled_length : length old ≡ w.height * w.width
  tabled_length =
      h.length_is ∙ ap (λ (z : ℕ). w.height * (w.width * z)) (one_sample f v w tabled_window)
      ∙ ap (λ (z : ℕ). w.height * z) (mul-one w.width)
