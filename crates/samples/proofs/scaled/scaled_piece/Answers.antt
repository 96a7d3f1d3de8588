use mathlib.Core.Path.{◌≡◌, ◌∙◌}
use Prim.Native.Nat.{ℕ, ◌+◌, ◌-◌, ◌<◌}
use native.Mathlib.Omega.{arith}
use borrow.Author.Rules.{rules}
use lib.IntN.{ℤ, pos}
use lib.Ieee.{nan}
use mathlib.Core.List.{List}
use lib.ListN.{length, get_or, length-take, get_or-append, get_or-eq_default}
use Rattle.samples.proofs.Lines.{fits, levelled_plain, levelled_sums}
use Rattle.samples.proofs.scaled.scaled_piece.Goals as goal
use Rattle.samples.proofs.scaled.scaled_piece.Goals.{Start}

-- there are deltas
some : (n : ℕ) → (n ≡ 0 → ⊥) → 0 < n
some n h = omega arith

-- or none
none : (xs : List ℤ) (k : ℕ) → length xs ≡ 0 → get_or xs k (pos 0) ≡ pos 0
none xs k h = get_or-eq_default xs (pos 0) (omega arith)

pub scaled_line-requires : goal.scaled_line-requires
scaled_line-requires c =
    record {
      line_in = (c.requires.line_in.0, omega (arith, c.requires.line_in.1, c.requires.line_in.2));
      out_in_bounds = (c.requires.line_in.1, omega (arith, c.requires.line_in.1, c.requires.line_in.3));
    }

pub slice_bounds-add_deltas-end : goal.slice_bounds-add_deltas-end
slice_bounds-add_deltas-end c =
    omega (arith, c.requires.line_in.1, c.requires.small.2 (some _ c.if-deltas-eq0.false))

pub add_deltas-requires : goal.add_deltas-requires
add_deltas-requires c =
    let n = length-take (length c.args.out.now - 0) c.args.sums.now in
    (omega (arith, n, c.requires.line_in.1), omega (arith, n, c.requires.small.1 (some _ c.if-deltas-eq0.false)), c.requires.small.0)

pub scaled_line-requires-else-deltas-eq0 : goal.scaled_line-requires-else-deltas-eq0
scaled_line-requires-else-deltas-eq0 c =
    let if1 = c.if-deltas-eq0 in
    let l = c.requires.small.2 (some _ if1.false) in
    record {
      line_in = (c.requires.line_in.0, omega (arith, c.requires.line_in.1, c.requires.line_in.2));
      out_in_bounds = (
        fits _ (length c.args.sums.now) _ (search rules) (omega (arith, c.requires.line_in.1)),
        omega (arith, c.requires.line_in.1, c.requires.line_in.3),
      );
    }

pub returns-then-deltas-eq0 : goal.returns-then-deltas-eq0
returns-then-deltas-eq0 c =
    let if1 = c.if-deltas-eq0 in record {
      sums_len_unchanged = search rules;
      by_index = λ cell span down w. c.scaled_line.ensures _ span
          (levelled_plain cell span down c.args.cells.now c.args.inverses.now c.args.line.down _ w
          (length c.args.out.now) (λ k. get_or c.args.deltas.now (c.args.at + k) (pos 0)) c.requires.line_in.1
          (λ k. none c.args.deltas.now (c.args.at + k) if1.true));
    }

pub returns-else-deltas-eq0 : goal.returns-else-deltas-eq0
returns-else-deltas-eq0 c =
    let add-deltas = c.add_deltas in record {
      sums_len_unchanged = search rules;
      by_index = λ cell span down w.
          let ys = add-deltas.new.out in
          c.scaled_line-else-deltas-eq0.ensures _ span
          (levelled_sums cell span down c.args.cells.now c.args.inverses.now c.args.line.down _ w (length c.args.out.now)
          (λ k. get_or c.args.deltas.now (c.args.at + k) (pos 0)) _ c.requires.line_in.1 (λ k. c.requires.small.0 (c.args.at + k))
          (λ k h. get_or-append ys _ nan k (search rules) ∙ add-deltas.ensures k (search rules)));
    }
