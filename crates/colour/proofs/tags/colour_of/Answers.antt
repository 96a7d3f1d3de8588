use mathlib.Core.Path.{sym, ◌∙◌}
use Rattle.reading.proofs.Reading.{run_answer}
use Rattle.directory.proofs.Outs.{bind_refused, bind_is}
use Rattle.std.proofs.lemmas.Result.{err_from_is_err_and}
use mathlib.Core.Path.{ap, subst}
use Rattle.directory.specs.Out.{Out.is}
use Rattle.colour.specs.Facts.Tags.{ColourWithin}
use Rattle.colour.specs.Tags.{colour_reading}
use Rattle.colour.proofs.TagFacts.{colour_in}
use Rattle.colour.proofs.tags.colour_of.Goals as goal

pub returns-in_err-not_carried : goal.returns-in_err-not_carried
unfolding colour_reading
returns-in_err-not_carried c =
    let p = err_from_is_err_and c.from_residual.result c.from_residual.ensures.1 in
    rw (p.1, p.2) (bind_refused _ _ _ _ _ c.in_err-not_carried.ensures, tt)

pub returns-in_err-not_carried-2 : goal.returns-in_err-not_carried-2
unfolding colour_reading
returns-in_err-not_carried-2 c =
    let p = err_from_is_err_and c.from_residual-in_err-not_carried-2.result c.from_residual-in_err-not_carried-2.ensures.1 in
    rw (p.1, p.2) (bind_refused _ _ _ _ _ c.in_err-not_carried-2.ensures ∙ sym (bind_is _ _ _ _ c.in_ok-not_carried.ensures), tt)

pub returns-in_err-not_carried-3 : goal.returns-in_err-not_carried-3
unfolding colour_reading
returns-in_err-not_carried-3 c =
    let p = err_from_is_err_and c.from_residual-in_err-not_carried-3.result c.from_residual-in_err-not_carried-3.ensures.1 in
    rw (p.1, p.2) (
      bind_refused _ _ _ _ _ c.in_err-not_carried-3.ensures ∙ sym (bind_is _ _ _ _ c.in_ok-not_carried.ensures
          ∙ bind_is _ _ _ _ c.in_ok-not_carried-2.ensures),
      tt,
    )

pub returns-in_err-matrix : goal.returns-in_err-matrix
unfolding colour_reading
returns-in_err-matrix c =
    let p = err_from_is_err_and c.from_residual-in_err-matrix.result c.from_residual-in_err-matrix.ensures.1 in
    rw (p.1, p.2) (
      bind_refused _ _ _ _ _ c.in_err-matrix.ensures.0 ∙ sym (bind_is _ _ _ _ c.in_ok-not_carried.ensures
          ∙ bind_is _ _ _ _ c.in_ok-not_carried-2.ensures ∙ bind_is _ _ _ _ c.in_ok-not_carried-3.ensures),
      tt,
    )

pub returns-in_err-neutral : goal.returns-in_err-neutral
unfolding colour_reading
returns-in_err-neutral c =
    let p = err_from_is_err_and c.from_residual-in_err-neutral.result c.from_residual-in_err-neutral.ensures.1 in
    rw (p.1, p.2) (
      bind_refused _ _ _ _ _ c.in_err-neutral.ensures.0 ∙ sym (bind_is _ _ _ _ c.in_ok-not_carried.ensures
          ∙ bind_is _ _ _ _ c.in_ok-not_carried-2.ensures ∙ bind_is _ _ _ _ c.in_ok-not_carried-3.ensures
          ∙ bind_is _ _ _ _ c.in_ok-matrix.ensures.0),
      tt,
    )

pub returns : goal.returns
unfolding colour_reading
returns c =
    let j = c.colour_from.ensures in (
      ap is j ∙ sym (bind_is _ _ _ _ c.in_ok-not_carried.ensures ∙ bind_is _ _ _ _ c.in_ok-not_carried-2.ensures
          ∙ bind_is _ _ _ _ c.in_ok-not_carried-3.ensures ∙ bind_is _ _ _ _ c.in_ok-matrix.ensures.0
          ∙ bind_is _ _ _ _ c.in_ok-neutral.ensures.0 ∙ run_answer _ _),
      subst ColourWithin (sym j) (colour_in _ _ c.in_ok-matrix.ensures.1 c.in_ok-neutral.ensures.1),
    )
