use mathlib.Core.Path.{sym, ap, ◌∙◌}
use Rattle.opcodes.specs.Frame.{alone}
use Rattle.rows.proofs.Through.{scaled_in_unit}
use Rattle.develop.proofs.Windows.{viewed_sized, viewed_read, viewed_list}
use Rattle.develop.proofs.Called.{spot_viewed, spot_outside}
use Rattle.develop.proofs.spot.spot_in.Goals as goal

pub returns-then-not-within : goal.returns-then-not-within
returns-then-not-within c =
    let a = c.args in
    spot_outside a.file.now a.view c.requires a.row a.column a.plane (sym c.if-not-within.ensures)

pub list_at-value-requires-clause-list_read : goal.list_at-value-requires-clause-list_read
list_at-value-requires-clause-list_read c =
    (viewed_list c.args.file.now c.args.view c.requires, viewed_sized c.args.file.now c.args.view c.requires)

pub list_at-value-requires-clause-x_value : goal.list_at-value-requires-clause-x_value
list_at-value-requires-clause-x_value c =
    let a = c.args in
    rw c.scaled_at-x.ensures (scaled_in_unit a.file.now a.view.picture.order a.view.picture.raw.tags a.row a.column a.plane)

pub returns : goal.returns
returns c =
    let a = c.args in
    let os = c.requires.file.opcodes in
    let e = c.list_at-value.ensures os (viewed_read a.file.now a.view c.requires) ∙ ap (alone os a.row a.column a.plane) c.scaled_at-x.ensures in
    spot_viewed a.file.now a.view c.requires a.row a.column a.plane (sym c.if-not-within.ensures) _ e
