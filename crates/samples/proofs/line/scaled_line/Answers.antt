use mathlib.Core.Path.{◌≡◌}
use mathlib.Core.List.{List}
use Prim.Native.Nat.{ℕ, ◌≤◌}
use native.Mathlib.Omega.{arith}
use Rattle.samples.specs.Facts.Line.{LineIn}
use Rattle.samples.specs.declared.line.Line.{Line}
use Rattle.samples.proofs.line.scaled_line.Goals as goal
use Rattle.samples.proofs.line.scaled_line.Goals.{Start}

two : (l : Line) (f : List ℕ) (n : ℕ) → LineIn f l n → (l.bytes ≡ 1 → ⊥) → l.bytes ≡ 2
two l f n h k = go l.bytes h.some h.few k
  where
    go : (b : ℕ) → 1 ≤ b → b ≤ 2 → (b ≡ 1 → ⊥) → b ≡ 2
    go b s m k = omega arith

pub returns-then-line-ne0 : goal.returns-then-line-ne0
returns-then-line-ne0 c =
    c.scaled_by_numbers.ensures

pub scaled_shorts-requires : goal.scaled_shorts-requires
scaled_shorts-requires c =
    let if1 = c.if-line-ne0 in
    record {
      line_in = (c.requires.line_in.0, two c.args.line c.args.file.now _ c.requires.line_in.0 c.if-line-eq1.false, if1.false);
      out_in_bounds = c.requires.out_in_bounds;
    }

pub returns-then-line-eq1 : goal.returns-then-line-eq1
returns-then-line-eq1 c =
    c.scaled_by_numbers-then-line-eq1.ensures

pub returns-else-line-eq1 : goal.returns-else-line-eq1
returns-else-line-eq1 c =
    c.scaled_shorts.ensures
