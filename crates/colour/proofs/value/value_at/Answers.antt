use mathlib.Core.Path.{sym, subst, ap, ◌∙◌}
use Rattle.directory.specs.Out.{Out.is}
use Rattle.colour.specs.Facts.Value.{QuotientWithin}
use Rattle.colour.proofs.Legality.{value_legal, value_illegal, quotient_in}
use Rattle.colour.proofs.value.value_at.Goals as goal

pub returns-then-legal : goal.returns-then-legal
returns-then-legal c =
    let a = c.args in
    let x = c.fraction_at-x in
    let l = sym c.legal.ensures ∙ c.if-legal.true in
    let q = c.quotient.ensures in (
      ap is q ∙ value_legal a.file.now a.order a.kind a.tag a.nonzero a.at x.result x.ensures.value l,
      subst (QuotientWithin a.nonzero) (sym q) (quotient_in x.result x.ensures.numerator_bound.0 x.ensures.numerator_bound.1 a.nonzero l),
    )

pub returns-else-legal : goal.returns-else-legal
returns-else-legal c =
    let a = c.args in
    let x = c.fraction_at-x in (
      value_illegal a.file.now a.order a.kind a.tag a.nonzero a.at x.result x.ensures.value
          (sym c.legal.ensures ∙ c.if-legal.false),
      tt,
    )
