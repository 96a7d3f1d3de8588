use mathlib.Core.Path.{◌≡◌, sym, ap, ◌∙◌}
use Prim.Native.Nat.{ℕ, ◌*◌}
use native.Mathlib.Omega.{arith}
use mathlib.Core.Bool.{true}
use Rattle.directory.specs.Out.{Out.is}
use Rattle.directory.specs.Tag.{allows_of}
use Rattle.directory.specs.declared.entry.Kind.{Kind}
use Rattle.directory.specs.declared.tag.Values.{Values}
use Rattle.directory.proofs.Entries.{fit, unfit}
use Rattle.directory.proofs.Tags.{kind_wrong, count_low, count_high, in_entry, elsewhere, inside_entry, inside_file}
use Rattle.directory.proofs.tag.tested.Goals as goal
use Rattle.directory.proofs.tag.tested.Goals.{Else-not-allows}

allowed : (c : Else-not-allows) → allows_of c.args.rule.kinds c.args.found.entry.kind ≡ true
allowed c = sym c.allows.ensures ∙ c.if-not-allows.false

abbrev values : ℕ → Kind → ℕ → ℕ → Values
values place kind size count = record { place = place; kind = kind; size = size; count = count }

pub returns-then-not-allows : goal.returns-then-not-allows
returns-then-not-allows c = (kind_wrong _ _ _ _ _ _ (sym c.allows.ensures ∙ c.if-not-allows.true), tt)

pub returns-then-entry-rule : goal.returns-then-entry-rule
returns-then-entry-rule c =
    (count_low _ _ _ _ _ _ (allowed (goal.at.returns-then-entry-rule c).Else-not-allows) c.if-entry-rule.true, tt)

pub returns-then-rule-entry : goal.returns-then-rule-entry
returns-then-rule-entry c =
    (count_high _ _ _ _ _ _ (allowed (goal.at.returns-then-rule-entry c).Else-not-allows) c.if-entry-rule.false c.if-rule-entry.true, tt)

pub returns-then-fits : goal.returns-then-fits
returns-then-fits c =
    let x = c.args.found in
    let a = allowed (goal.at.returns-then-fits c).Else-not-allows in
    let l = c.if-entry-rule.false in
    let m = c.if-rule-entry.false in
    let s = c.size-size.ensures.0 in
    let b = fit (λ (n : ℕ). n * x.entry.count) x.entry.kind _ _ _ s c.fits.ensures c.if-fits.true in (
      ap (λ (n : ℕ). is (values x.place x.entry.kind n x.entry.count)) s ∙ in_entry _ _ _ _ _ _ a l m b,
      rw s (inside_entry c.args.dir.ifd.widths c.args.dir.file.now c.args.dir.ifd.order _ _ x.entry a l m _ c.requires.word_in_bounds b),
    )

pub returns-else-fits : goal.returns-else-fits
returns-else-fits c =
    let x = c.args.found in
    let a = allowed (goal.at.returns-else-fits c).Else-not-allows in
    let l = c.if-entry-rule.false in
    let m = c.if-rule-entry.false in
    let s = c.size-size.ensures.0 in
    let b = unfit (λ (n : ℕ). n * x.entry.count) x.entry.kind _ _ _ s c.fits.ensures c.if-fits.false in (
      ap (λ (n : ℕ). is (values c.value-place.result x.entry.kind n x.entry.count)) s ∙ elsewhere _ _ _ _ _ _ a l m b _ c.value-place.ensures,
      rw s (inside_file _ _ _ _ _ _ a l m b c.requires.placed _ c.value-place.ensures),
    )
