use mathlib.Core.Path.{◌≡◌, ◌∙◌}
use Prim.Native.Nat.{ℕ, ◌+◌, ◌-◌, ◌*◌, ◌≤◌, ◌<◌}
use native.Mathlib.Nat.{add-mul, mul-le-mul_right}
use native.Mathlib.Omega.{arith}
use lib.Ieee.{nan}
use lib.ListN.{length, get_or-append}
use Rattle.reading.specs.Reading.{run}
use Rattle.raw.specs.Stored.{levels_reading}
use Rattle.raw.proofs.StoredLaws.{repeat_rows_are, repeat_columns_are}
use Rattle.samples.proofs.Lines.{put_before, put_inside}
use Rattle.samples.proofs.Alongs.{along_filled}
use borrow.Author.Rules.{rules}
use Rattle.samples.proofs.along.fill_along.Goals as goal

pub returns : goal.returns
returns c len again =
    let t = c.args.source.raw.tags in
    let n = t.frame.samples in
    let v = run c.args.source.file.now (levels_reading c.args.source.order t) in
    let q = c.args.q in
    let a = t.levels.repeat.rows * q in
    let rows : v.repeat_rows ≡ t.levels.repeat.rows = repeat_rows_are c.args.source.file.now c.args.source.order t in
    let columns : v.repeat_columns ≡ t.levels.repeat.columns = repeat_columns_are c.args.source.file.now c.args.source.order t in
    let xs = c.fill_cells.new.out in
    let ys = c.inverses_row.new.out in
    let m : length xs ≡ a = search rules in
    along_filled v n c.args.column.0 len q t.levels.repeat.rows t.levels.repeat.columns _ rows columns (search rules)
    c.requires.1 c.requires.2
    (λ r k h b.
    let i : r * q + k < a = before r k h b in
    put_before nan a (a + q - a) _ ys (r * q + k) (search rules) i ∙ get_or-append xs _ nan (r * q + k) (omega arith)
    ∙ c.fill_cells.ensures r k h b)
    (λ k b. put_inside nan a (a + q - a) _ ys k (search rules) (search rules) ∙ c.inverses_row.ensures k (search rules))
    again
  where
    before : {q R : ℕ} (r k : ℕ) → r < R → k < q → r * q + k < R * q
    before {q} {R} r k h b = let g : (r + 1) * q ≤ R * q = mul-le-mul_right q (omega arith) in omega (arith, add-mul r 1 q)
