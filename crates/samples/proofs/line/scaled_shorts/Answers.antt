use mathlib.Core.Path.{◌∙◌}
use borrow.Author.Rules.{rules}
use Rattle.samples.proofs.Lines.{plain_number, plain_value_law}
use Rattle.samples.proofs.line.scaled_shorts.Goals as goal

pub returns : goal.returns
returns c black span w k h =
    let f = c.args.file.now in
    let l = c.args.line in
    c.scaled_with.ensures (plain_number f l.order 2 l.place) (λ j v b p. search rules) black span w k h
    ∙ plain_value_law f l 2 black span k c.requires.line_in.1 c.requires.line_in.2
