use mathlib.Core.Path.{◌≡◌, sym, subst, ◌∙◌}
use Prim.Native.Nat.{ℕ, ◌+◌, ◌/◌, ◌<◌}
use native.Mathlib.Omega.{arith}
use Rattle.rawtags.specs.Strips.{strip_count}
use Rattle.levels.proofs.Runs.{within}
use Rattle.raw.proofs.StoredLaws.{number_in}
use Rattle.raw.proofs.TagFacts.{strips_at, strip_below, sample_inside}
use Rattle.raw.proofs.sample.place_of.Goals as goal

sum : {a b x y : ℕ} → a ≡ x → b ≡ y → a + b ≡ x + y
sum {a} {b} {x} {y} e h = rw (e, h)

pub nonzero_div-strip : goal.nonzero_div-strip
nonzero_div-strip c =
    omega (arith, c.args.source.within.layout.some_rows)

pub overflow_mul-size : goal.overflow_mul-size
overflow_mul-size c =
    let a = c.args in
    let pre = c.requires in
    let t = a.source.tags in
    let q = strips_at a.source.file.now a.source.order t a.source.within.strips in
    let i = strip_below a.row.0 t.layout.rows t.frame.length pre.0 a.source.within.layout.some_rows in
    let w = within t.strips.size (strip_count t.frame t.layout) (a.row.0 / t.layout.rows) i in
    omega (arith, q.inside)

pub overflow_add-place : goal.overflow_add-place
overflow_add-place c =
    let a = c.args in
    let pre = c.requires in
    let t = a.source.tags in
    let q = strips_at a.source.file.now a.source.order t a.source.within.strips in
    let i = strip_below a.row.0 t.layout.rows t.frame.length pre.0 a.source.within.layout.some_rows in
    let w = within t.strips.size (strip_count t.frame t.layout) (a.row.0 / t.layout.rows) i in
    omega (arith, q.inside)

pub value-offset-requires : goal.value-offset-requires
value-offset-requires c =
    let a = c.args in
    let pre = c.requires in
    let t = a.source.tags in
    let q = strips_at a.source.file.now a.source.order t a.source.within.strips in
    let i = strip_below a.row.0 t.layout.rows t.frame.length pre.0 a.source.within.layout.some_rows in
    let w = within t.strips.size (strip_count t.frame t.layout) (a.row.0 / t.layout.rows) i in
    (omega (arith, q.inside), q.wide)

pub within_strip-requires : goal.within_strip-requires
within_strip-requires c =
    let pre = c.requires in
    let f = c.args.source.within.frame in
    let l = c.args.source.within.layout in
    record {
      width_bound = (f.columns, f.samples, l.bytes, l.some_rows);
      row_bound = (omega (arith, pre.0, f.rows), pre.1, pre.2);
    }

pub overflow_add-result : goal.overflow_add-result
overflow_add-result c =
    let g = c.args in
    let p = c.requires in
    let h = c.args.source.within in
    let s = sample_inside g.source.file.now g.source.order g.source.tags h.layout.some_rows h.strips
    g.row.0 g.column.0 g.plane p.0 p.1 p.2 in
    omega (arith, s, c.value-offset.ensures, c.within_strip.ensures)

pub returns : goal.returns
returns c =
    let t = c.args.source.tags in
    let q = strips_at c.args.source.file.now c.args.source.order t c.args.source.within.strips in
    let i = strip_below c.args.row.0 t.layout.rows t.frame.length c.requires.0 c.args.source.within.layout.some_rows in
    let z = c.args.row.0 / t.layout.rows in
    let g = c.args in
    let p = c.requires in
    let h = c.args.source.within in
    let s = sample_inside g.source.file.now g.source.order t h.layout.some_rows h.strips
    g.row.0 g.column.0 g.plane p.0 p.1 p.2 in
    let n = number_in c.args.source.file.now c.args.source.order t.strips z (subst (λ (m : ℕ). z < m) (sym q.count) i) in (
      sum (c.value-offset.ensures ∙ sym n) c.within_strip.ensures,
      omega (arith, s, c.value-offset.ensures, c.within_strip.ensures),
    )
