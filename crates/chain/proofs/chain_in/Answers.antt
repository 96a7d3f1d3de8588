use mathlib.Core.Path.{sym, ◌∙◌}
use Rattle.chain.specs.Chain.{slices}
use Rattle.chain.proofs.ChainLaws.{chain_outside, chain_short, chain_shown}
use Rattle.chain.proofs.chain_in.Goals as goal

pub returns-then-not-within : goal.returns-then-not-within
returns-then-not-within c =
    let a = c.args in
    let old = slices a.places.now a.ids.now a.«before».now a.after.now a.skipped.now in
    chain_outside a.file.now a.view c.requires a.spot.row.0 a.spot.column.0 a.spot.plane old (sym c.if-not-within.ensures)

pub returns-then-not-room : goal.returns-then-not-room
returns-then-not-room c =
    let a = c.args in
    let old = slices a.places.now a.ids.now a.«before».now a.after.now a.skipped.now in
    chain_short a.file.now a.view c.requires a.spot.row.0 a.spot.column.0 a.spot.plane old (sym c.if-not-within.ensures)
    (sym c.if-not-room.ensures)

pub returns : goal.returns
returns c =
    let a = c.args in
    let old = slices a.places.now a.ids.now a.«before».now a.after.now a.skipped.now in
    c.chain_at.ensures c.requires
    ∙ chain_shown a.file.now a.view c.requires a.spot.row.0 a.spot.column.0 a.spot.plane old (sym c.if-not-within.ensures)
    (sym c.if-not-room.ensures)
