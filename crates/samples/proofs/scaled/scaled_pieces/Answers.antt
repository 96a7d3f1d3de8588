use mathlib.Core.List.{◌++◌}
use mathlib.Core.Path.{refl, sym, ap, ◌∙◌}
use Prim.Native.Nat.{ℕ, ◌+◌, ◌-◌, ◌<◌}
use native.Mathlib.Omega.{arith}
use borrow.Author.Rules.{rules}
use lib.IntN.{ℤ, pos, ◌+ℤ◌}
use lib.Ieee.{nan}
use lib.ListN.{length, get_or, drop, take, length-take, length-drop}
use Rattle.samples.specs.Facts.Line.{Filled, line_value, Celled, Repeating}
use Rattle.samples.proofs.Lines.{filled_part, line_from, value_from, same_start, same_next}
use Rattle.samples.proofs.scaled.scaled_pieces.Goals as goal
use Rattle.samples.proofs.scaled.scaled_pieces.Goals.{After-scaled_piece}

pub scaled_piece-requires-clause-line_in : goal.scaled_piece-requires-clause-line_in
scaled_piece-requires-clause-line_in c =
    let i = c.loop-i.i in
    let h : i < length c.args.out.now = c.loop-i-test.true in
    let e = c.min-e.ensures in
    let t = length-take (c.min-e.result - i) (drop i c.loop-i.out) in
    let d = length-drop i c.loop-i.out in (
      line_from c.args.file.now c.args.line i _ (length c.args.out.now) (omega (arith, t, d, e)) c.requires.line_in.0,
      omega (arith, t, e),
      c.requires.line_in.2,
      c.requires.line_in.3,
    )

pub loop-i-init : goal.loop-i-init
loop-i-init c cell span d w r =
    (same_start cell span _ _ r, λ k h. absurd (omega arith))

-- a piece more
piece_more : (c : After-scaled_piece) → (cell span : ℕ → ℤ) (d : ℤ) → let a = c.args in
    Celled cell span d a.cells.now a.inverses.now a.line.down (length a.cells.now) →
    Repeating cell span (length a.cells.now) (length a.out.now) →
    Filled nan (line_value a.file.now a.line (λ k. cell k +ℤ get_or a.deltas.now k (pos 0) +ℤ d) span) c.min-e.result
    (take c.loop-i.i c.loop-i.out ++ (c.scaled_piece.new.out ++ drop (c.min-e.result - c.loop-i.i) (drop c.loop-i.i c.loop-i.out)))
piece_more c cell span d w r =
    let f = c.args.file.now in
    let x = c.args.line in
    let deltas = c.args.deltas.now in
    let l = c.loop-i in
    let i = l.i in
    let h : i < length c.args.out.now = c.loop-i-test.true in
    let e = c.min-e.ensures in
    let p = c.scaled_piece in
    let v = l.invariant cell span d w r in
    filled_part nan (line_value f x (λ k. cell k +ℤ get_or deltas k (pos 0) +ℤ d) span) i c.min-e.result l.out p.new.out
    (omega arith) (omega (arith, e)) (search rules) v.1
    (λ k b. p.ensures.by_index cell span d w k (search rules)
    ∙ value_from f x (λ k. cell k +ℤ get_or deltas k (pos 0) +ℤ d) (λ k. cell k +ℤ get_or deltas (i + k) (pos 0) +ℤ d) span span i k
    (ap (λ (t : ℤ). t +ℤ get_or deltas (i + k) (pos 0) +ℤ d) (sym (v.0.cells h k))) (sym (v.0.spans h k)))

pub loop-i-preserved : goal.loop-i-preserved
loop-i-preserved c cell span d w r =
    let i = c.loop-i.i in
    let q = length c.args.cells.now in (
      same_next cell span q (length c.args.out.now) r i (i + q) (λ z. refl) (c.loop-i.invariant cell span d w r).0,
      λ k b. piece_more (goal.at.loop-i-preserved c).After-scaled_piece cell span d w r k (omega (arith, c.min-e.ensures, b)),
    )

pub returns : goal.returns
returns c cell span d w r k h =
    (c.loop-i.invariant cell span d w r).1 k (omega (arith, h))

pub returns-2 : goal.returns-2
returns-2 c cell span d w r k h =
    piece_more (goal.at.returns-2 c).After-scaled_piece cell span d w r k (omega (arith, c.min-e.ensures, h))
