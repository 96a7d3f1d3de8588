use mathlib.Core.Path.{◌≡◌}
use Rattle.chain.specs.Facts.Links.{reached_with}
use Rattle.chain.proofs.LinkLaws.{Gone}
use Rattle.chain.proofs.links.cover.Given as goal

abbrev pub invariant-loop : goal.invariant-loop
invariant-loop l =
    Gone l.spot.row.0 l.spot.column.0 l.spot.plane l.file l.opcodes l.x l.initial.places l.initial.ids l.initial.before l.initial.after
    (reached_with l.reached l.places l.ids l.before l.after) l.reached.at
    × (l.reached.index ≡ l.counter)
