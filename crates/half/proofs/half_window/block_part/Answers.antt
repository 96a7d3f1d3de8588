use mathlib.Core.Path.{◌≡◌, sym, ap, ◌∙◌, subst}
use mathlib.Core.List.{List, ◌++◌}
use Prim.Native.Nat.{ℕ, ◌+◌, ◌-◌, ◌*◌, ◌≤◌}
use native.Mathlib.Nat.{zero-mul, one-mul, mul-one}
use native.Mathlib.Omega.{arith}
use lib.Ieee.{Float}
use lib.ListN.{length, take, drop, length-append}
use Rattle.develop.specs.Calls.{values_of, alone_in}
use Rattle.develop.specs.Facts.Fill.{FillIn, number_of, Upto}
use Rattle.develop.specs.declared.fill.Rectangle.{Rectangle}
use Rattle.reading.specs.Reading.{run}
use Rattle.raw.specs.Stored.{levels_reading}
use Rattle.samples.specs.Facts.Along.{AlongIn, DeltasIn}
use Rattle.develop.specs.Facts.View.{Viewed}
use Rattle.develop.proofs.Windows.{part_length, window_length, upto_values, viewed_sized}
use Rattle.develop.specs.declared.View.{View}
use Rattle.half.specs.Facts.Half.{BlocksIn}
use Rattle.half.proofs.BlockLaws.{pair_blocks}
use borrow.Author.Rules.{rules}
use Rattle.half.proofs.half_window.block_part.Goals as goal
use Rattle.half.proofs.half_window.block_part.Goals.{After-fill_columns}

module _ {f : List ℕ} {v : View} {b : Rectangle} {old : List Float} (h : BlocksIn f v b old) where
  -- the blocks' rows and columns lie in the active area, of which no side is over 16,384
  rows_in : b.height ≡ 1 → (2 * b.top + 2 ≤ v.size.rows) × (v.size.rows ≤ 16384)
  rows_in one = (omega (arith, h.rows, one), (viewed_sized f v h.file).rows)

  columns_in : (2 * b.left + 2 * b.width ≤ v.size.columns) × (v.size.columns ≤ 16384)
  columns_in = (omega (arith, h.columns), (viewed_sized f v h.file).columns)

-- two rows of samples, from row t on
abbrev rows : ℕ → Rectangle → Rectangle
rows t b = record { top = t; left = 2 * b.left; height = 2; width = 2 * b.width }

-- what is left of a pair of rows behind them
abbrev rest : List Float → ℕ → List Float
rest xs w = drop (2 * (2 * w) - 0) (drop 0 xs)

module _ {f : List ℕ} {v : View} {b : Rectangle} {old : List Float} (h : BlocksIn f v b old) where
  module _ (xs : List Float) (t : ℕ) (some : 1 ≤ b.width) (few : b.width ≤ 512) (long : 2048 ≤ length xs) (low : t + 2 ≤ v.size.rows) where
    fill_in : Viewed f v → FillIn f v (rows t b) (take (2 * (2 * b.width) - 0) (drop 0 xs))
    fill_in q =
        let n = 2 * (2 * b.width) in
        let d : n - 0 ≡ n = omega arith in
        let r : 0 + n ≤ length xs = omega (arith, few, long) in
        let s : 2 * b.width ≡ 2 * b.width * v.size.samples =
        sym (ap (λ (m : ℕ). 2 * b.width * m) h.mosaic ∙ mul-one (2 * b.width)) in
        record {
          file = q;
          some_rows = omega arith;
          some_columns = omega (arith, some);
          rows = low;
          columns = (columns_in h).0;
          length_is = ap (λ (m : ℕ). length (take m (drop 0 xs))) d ∙ part_length 0 n xs r ∙ ap (λ (m : ℕ). 2 * m) s;
        }

-- the block's two rows hold its samples
both_rows : (g : After-fill_columns) → let a = g.args in
    (q : Viewed a.file.now a.view) → length g.fill_columns.new.out ≡ 2 * (2 * a.part.width) →
    g.fill_columns.new.out ≡ values_of (alone_in a.file.now q.file) (2 * a.part.top) (2 * a.part.left) 2
    (2 * a.part.width) 1
unfolding fill_in
both_rows g q e =
    let a = g.args in
    let b = g.requires.blocks_in.0 in
    let l = g.requires.le_width in
    let n = a.view.size.samples in
    let i = fill_in b a.pair.now (2 * a.part.top) l.0 l.1 l.2 (rows_in b g.requires.blocks_in.2).0 q in
    let w = rows (2 * a.part.top) a.part in
    let u = g.fill_columns.ensures i (λ r k h b. absurd (omega (arith, zero-mul n))) in
    let z : 0 * n + 2 * a.part.width * n ≡ 2 * a.part.width * n = omega (arith, zero-mul n) in
    upto_values (alone_in a.file.now q.file) w n _ (viewed_sized a.file.now a.view q).some
    (e ∙ ap (λ (m : ℕ). 2 * m) (sym (ap (λ (m : ℕ). 2 * a.part.width * m) b.mosaic ∙ mul-one (2 * a.part.width))))
    (subst (λ (m : ℕ). Upto (number_of (alone_in a.file.now q.file) w n) 2 (2 * a.part.width * n) m
    g.fill_columns.new.out) z u)
    ∙ ap (values_of (alone_in a.file.now q.file) _ _ 2 _) b.mosaic

-- it was given back with as many numbers
lent : (k : After-fill_columns) → let a = k.args in
    length k.fill_columns.new.out ≡ 2 * (2 * a.part.width)
lent k = search rules

pub overflow_mul-rows : goal.overflow_mul-rows
overflow_mul-rows c =
    let r = rows_in c.requires.blocks_in.0 c.requires.blocks_in.2 in omega (arith, r.0, r.1)

pub overflow_mul-rows-2 : goal.overflow_mul-rows-2
overflow_mul-rows-2 c =
    let r = columns_in c.requires.blocks_in.0 in omega (arith, r.0, r.1)

pub fill_columns-requires : goal.fill_columns-requires
fill_columns-requires c =
    let a = c.args in
    let b = c.requires.blocks_in.0 in
    let s = c.requires.le_width in
    let w = c.requires.along_in in
    let e : 2 * a.part.width ≡ 2 * a.part.width * a.view.size.samples =
    sym (ap (λ (m : ℕ). 2 * a.part.width * m) b.mosaic ∙ mul-one (2 * a.part.width)) in
    let l : 2 * a.part.left ≡ 2 * a.part.left + 0 = omega arith in
    let v = run a.file.now (levels_reading a.view.picture.order a.view.picture.raw.tags) in
    let n = a.view.picture.raw.tags.frame.samples in record {
      fill_in = (
        fill_in b a.pair.now _ s.0 s.1 s.2 (rows_in b c.requires.blocks_in.2).0 b.file,
        omega (arith, s.0),
        omega arith,
      );
      along_in = (
        subst (λ (m : ℕ). AlongIn v n m (2 * a.part.width * a.view.size.samples) a.along.now) l
            (subst (λ (m : ℕ). AlongIn v n (2 * a.part.left) m a.along.now) e w.0),
        subst (λ (m : ℕ). DeltasIn v n m (2 * a.part.width * a.view.size.samples) a.deltas.now) l
            (subst (λ (m : ℕ). DeltasIn v n (2 * a.part.left) m a.deltas.now) e w.1),
      );
    }

pub blocks_of-requires : goal.blocks_of-requires
blocks_of-requires c =
    let g = (goal.at.blocks_of-requires c).After-fill_columns in
    let a = c.args in
    let b = c.requires.blocks_in.0 in
    let x = alone_in a.file.now b.file.file in
    let n = ap length (both_rows g b.file (lent g)) ∙ window_length x _ _ 2 (2 * a.part.width) 1 in
    let w = a.part.width * 3 in
    let o = b.length_is ∙ ap (λ (h : ℕ). h * w) c.requires.blocks_in.2 ∙ one-mul w in
    (c.requires.blocks_in.1, omega (arith, length-append g.fill_columns.new.out (rest a.pair.now a.part.width), n), o)

pub returns : goal.returns
returns c =
    let g = (goal.at.returns c).After-fill_columns in
    let a = c.args in record {
      pair_len_unchanged = search rules;
      out_after = λ q. c.blocks_of.ensures
          ∙ pair_blocks a.half c.requires.blocks_in.1 (alone_in a.file.now q.file) a.part.top a.part.left a.part.width _
          (rest a.pair.now a.part.width)
          (ap (λ (ys : List Float). ys ++ rest a.pair.now a.part.width) (both_rows g q (lent g)));
    }
