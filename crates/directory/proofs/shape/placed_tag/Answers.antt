use mathlib.Core.Path.{◌≡◌, ap}
use Prim.Native.Nat.{ℕ, ◌+◌, ◌*◌}
use native.Mathlib.Omega.{arith}
use Rattle.reading.specs.Bytes.{part}
use Rattle.directory.specs.Widths.{head_width}
use Rattle.directory.specs.Entry.{kind_of, entry_of}
use Rattle.directory.specs.declared.entry.Entry.{Entry}
use Rattle.directory.proofs.Entries.{wide_most, fit, unfit, header_at}
use Rattle.directory.proofs.Shapes.{entry_within, entry_inside, entry_outside}
use Rattle.directory.proofs.shape.placed_tag.Goals as goal
use Rattle.directory.proofs.shape.placed_tag.Goals.{After-value-count, After-value-place}

-- the entry whose fields were read
abbrev entry : After-value-count → Entry
entry c =
    record {
      tag = c.short-tag.result;
      kind = kind_of c.args.widths.types c.short.result;
      count = c.value-count.result;
    }

head : (c : After-value-count) → let a = c.args in
    entry c ≡ entry_of a.widths a.order (part a.file.now a.at (head_width a.widths))
head c =
    let a = c.args in
    let k = ap (kind_of a.widths.types) c.short.ensures in
    header_at a.widths a.file.now a.order a.at _ _ _ c.short-tag.ensures k c.value-count.ensures

pub returns-then-fits : goal.returns-then-fits
returns-then-fits c =
    let h = (goal.at.returns-then-fits c).After-value-count in
    let a = h.args in
    let b = fit (λ (m : ℕ). m * h.value-count.result) (entry h).kind _ _ _ h.size_of-size.ensures.0 c.fits.ensures
    c.if-fits.true in
    record { result_value = entry_within a.widths a.file.now _ _ _ (entry h) (head h) b; tag_in = omega arith }

pub returns-then-many_inside : goal.returns-then-many_inside
returns-then-many_inside c =
    let h = (goal.at.returns-then-many_inside c).After-value-count in
    let a = h.args in
    let s = h.size_of-size.ensures.0 in
    let b = unfit (λ (m : ℕ). m * h.value-count.result) (entry h).kind _ _ _ s c.fits.ensures c.if-fits.false in
    let r = fit (λ (m : ℕ). c.value-place.result + m * h.value-count.result) (entry h).kind _ _ _ s c.many_inside.ensures
    c.if-many_inside.true in
    record { result_value = entry_inside a.widths a.file.now _ _ _ (entry h) (head h) b _ c.value-place.ensures r; tag_in = omega arith }

pub returns-else-many_inside : goal.returns-else-many_inside
returns-else-many_inside c =
    let h = (goal.at.returns-else-many_inside c).After-value-count in
    let a = h.args in
    let s = h.size_of-size.ensures.0 in
    let b = unfit (λ (m : ℕ). m * h.value-count.result) (entry h).kind _ _ _ s c.fits.ensures c.if-fits.false in
    let r = unfit (λ (m : ℕ). c.value-place.result + m * h.value-count.result) (entry h).kind _ _ _ s c.many_inside.ensures
    c.if-many_inside.false in
    record { result_value = entry_outside a.widths a.file.now _ _ _ (entry h) (head h) b _ c.value-place.ensures r; tag_in = tt }
