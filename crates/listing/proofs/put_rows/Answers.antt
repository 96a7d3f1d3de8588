use mathlib.Core.Path.{◌≡◌, sym, ap, ◌∙◌, subst}
use mathlib.Core.List.{List, ◌++◌}
use Prim.Native.Nat.{ℕ, ◌+◌, ◌*◌}
use native.Mathlib.Omega.{arith}
use lib.Ieee.{Float}
use lib.ListN.{length, take, drop}
use lib.Seq.{length-take-le, take_at}
use Rattle.rows.specs.Facts.Part.{AllInUnit}
use Rattle.opcodes.specs.declared.grid.Size.{Size}
use Rattle.rawtags.specs.declared.crop.Crop.{Crop}
use Rattle.develop.specs.declared.View.{View}
use Rattle.std.specs.Prelude.{Result}
use Rattle.directory.specs.declared.refusal.Refusal.{Refusal}
use Rattle.develop.specs.Calls.{window_with, window_call}
use Rattle.listing.specs.Facts.Body.{lines_text, LinesIn, Ready, BlockIn, rows_from}
use Rattle.listing.specs.Text.{crop_size}
use Rattle.listing.proofs.Bodies.{width_some, width_most, crop_inside_law, crop_sized, block_listed}
use Rattle.listing.proofs.put_rows.Goals as goal

-- ---- the crop's size, and how many values a row and the block have
abbrev size : View → Size
size v = crop_size v.picture

abbrev crop : View → Crop
crop v = v.picture.raw.tags.crop

abbrev width : View → ℕ
width v = (size v).columns * (size v).samples

-- `xs` came back from the window, as many as were lent, in their place
module _ (f : List ℕ) (v : View) (text : List ℕ) (values : List Float) (top height : ℕ)
    (r : Ready f v text values) (b : BlockIn (crop_size v.picture) top height) (xs : List Float)
    (k : length xs ≡ length (take (height * width v) values)) where
  lent : length (take (height * width v) values) ≡ height * width v
  lent = length-take-le (height * width v) values (omega (arith, b.2, r.1))

  in_place : take (height * width v) (xs ++ drop (height * width v) values) ≡ xs
  in_place = take_at xs (drop (height * width v) values) (height * width v) (k ∙ lent)

  module _ (a : Result (Unit {0}) Refusal)
      (e : window_with a xs ≡ window_call f ((crop v).top + top) (crop v).left height (crop v).columns (take (height * width v) values)) where
    -- what the window's promise says of them
    blocked : AllInUnit xs × (lines_text (width v) height xs ++ rows_from f (top + height) ≡ rows_from f top)
    blocked = block_listed f v r.2 top height _ xs _ b.0 b.1 lent e

    lines_in : LinesIn (width v) height (take (height * width v) (xs ++ drop (height * width v) values)) text
    lines_in =
        let j : length (take (height * width v) (xs ++ drop (height * width v) values)) ≡ height * width v = ap length in_place ∙ k ∙ lent in (
          width_some (size v) (crop_sized _ _ r.2.viewed) (crop_inside_law _ _ r.2.viewed).some_columns,
          j,
          omega (arith, j, b.2, r.0),
          subst AllInUnit (sym in_place) blocked.0,
        )

    lined : (line : List ℕ) → line ≡ lines_text (width v) height (take (height * width v) (xs ++ drop (height * width v) values)) →
        line ++ rows_from f (top + height) ≡ rows_from f top
    lined line l =
        ap (λ (ys : List ℕ). ys ++ rows_from f (top + height)) (l ∙ ap (λ (ys : List Float). lines_text (width v) height ys) in_place) ∙ blocked.1

pub overflow_mul-width : goal.overflow_mul-width
overflow_mul-width c = omega (arith, width_most (size c.args.view) (crop_sized _ _ c.requires.ready.2.viewed))

pub put_lines-requires : goal.put_lines-requires
put_lines-requires c =
    lines_in c.args.file.now c.args.view c.args.text.now c.args.values.now c.args.top c.args.height c.requires.ready c.requires.block_in
    c.opened_window.new.out c.opened_window.auto.out c.opened_window.result c.opened_window.ensures

pub returns : goal.returns
returns c =
    record {
      upper_bound = c.put_lines.ensures.0;
      height_after =
          lined c.args.file.now c.args.view c.args.text.now c.args.values.now c.args.top c.args.height c.requires.ready c.requires.block_in
          c.opened_window.new.out c.opened_window.auto.out c.opened_window.result c.opened_window.ensures _ c.put_lines.ensures.1;
    }
