use mathlib.Core.Path.{◌≡◌, refl, sym, ◌∙◌, subst}
use mathlib.Core.Bool.{true, false}
use mathlib.Core.List.{List, ◌++◌}
use Prim.Native.Nat.{ℕ, ◌+◌}
use native.Mathlib.Omega.{arith}
use lib.ListN.{length, take}
use Rattle.listing.specs.Facts.Body.{rows_from}
use Rattle.listing.specs.Pieces.{Remains}
use Rattle.listing.proofs.Bodies.{crop_inside_law, crop_sized, rows_none, short_listed}
use Rattle.listing.proofs.Pieces.{piece_stands, written_rest, ends_early, ends_failed, ends_whole}
use Rattle.listing.proofs.Known.{Given, given_none, given_next, given_all}
use Rattle.listing.proofs.print_rows.Goals as goal

-- the block's text comes next, and the rows behind it
to_come : (f : List ℕ) (at top height : ℕ) (piece : List ℕ) → piece ++ rows_from f (top + height) ≡ rows_from f top
    → Remains f at (rows_from f top) → Remains f at (piece ++ rows_from f (top + height))
to_come f at top height piece e r = subst (Remains f at) (sym e) r

pub loop-top-init : goal.loop-top-init
loop-top-init g c = (refl, refl, c.requires.remains, given_none _ _)

pub block-height-requires : goal.block-height-requires
block-height-requires g c =
    let q = c.requires.ready.2.viewed in
    (crop_sized _ _ q, (crop_inside_law _ _ q).some_columns, c.loop-top-test.true)

pub put_rows-n-requires : goal.put_rows-n-requires
put_rows-n-requires g c =
    let v = c.loop-top.invariant in
    let p = c.requires.ready in
    record { ready = (omega (arith, v.0, p.0), omega (arith, v.1, p.1), p.2); block_in = c.block-height.ensures }

pub write_piece-requires : goal.write_piece-requires
write_piece-requires g c =
    let f = c.args.file.now in
    let l = c.loop-top in
    let r = to_come f l.written l.top _ _ c.put_rows-n.ensures.height_after l.invariant.2 in
    record { stands = piece_stands f l.written _ _ r; file_len_bound = short_listed f _ c.requires.ready.2 }

pub returns-in_err-write_piece-clause-ends : goal.returns-in_err-write_piece-clause-ends
returns-in_err-write_piece-clause-ends g c =
    let f = c.args.file.now in
    let l = c.loop-top in
    let r = to_come f l.written l.top _ _ c.put_rows-n.ensures.height_after l.invariant.2 in
    let piece = take c.put_rows-n.result c.put_rows-n.new.text in
    ends_failed f c.from_residual.result _ c.from_residual.ensures.0
    (ends_early f l.written piece (rows_from f (l.top + c.block-height.result)) r false _ c.in_err-write_piece.ensures.counted refl)

pub overflow_add-top : goal.overflow_add-top
overflow_add-top g c = omega (arith, c.block-height.ensures.1, (crop_sized _ _ c.requires.ready.2.viewed).rows)

pub loop-top-preserved : goal.loop-top-preserved
loop-top-preserved g c =
    let f = c.args.file.now in
    let l = c.loop-top in
    let v = l.invariant in
    let e = c.put_rows-n.ensures.height_after in
    let w = c.in_ok-write_piece.ensures in (
      c.put_rows-n.auto.text ∙ v.0,
      c.put_rows-n.auto.values ∙ v.1,
      written_rest f l.written _ _ (to_come f l.written l.top _ _ e v.2) true _ w.counted refl,
      given_next _ _ _ _ _ _ (subst (Given (g.W.Write.contents c.args.out.now) (g.W.Write.contents l.out) (rows_from f 0)) (sym e) v.3) w.given,
    )

pub returns-clause-ends : goal.returns-clause-ends
returns-clause-ends g c =
    let v = c.loop-top in
    let f = c.args.file.now in
    let none = rows_none f _ c.requires.ready.2 v.top c.loop-top-test.false in
    ends_whole f _ (subst (Remains f v.written) none v.invariant.2)

pub returns-clause-given : goal.returns-clause-given
returns-clause-given g c =
    let v = c.loop-top in
    let f = c.args.file.now in
    let none = rows_none f _ c.requires.ready.2 v.top c.loop-top-test.false in
    given_all _ _ _ (subst (Given (g.W.Write.contents c.args.out.now) (g.W.Write.contents v.out) (rows_from f 0)) none v.invariant.3)
