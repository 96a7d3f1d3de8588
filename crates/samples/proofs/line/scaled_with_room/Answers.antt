use mathlib.Core.Path.{◌≡◌, refl, ◌∙◌}
use borrow.Author.Rules.{rules}
use Prim.Native.Nat.{◌-◌}
use mathlib.Core.List.{◌++◌}
use lib.ListN.{length, drop, get_or, get_or-append}
use Rattle.samples.specs.Facts.Line.{number_at}
use Rattle.samples.proofs.Lines.{value_is}
use Rattle.samples.proofs.line.scaled_with_room.Goals as goal

pub returns : goal.returns
returns c black span w k h =
    let n = c.fill_numbers in
    let ys = n.new.out in
    let f = c.args.file.now in
    let l = c.args.line in
    let left = drop (length c.args.out.now - 0) c.args.room.now in
    value_is f l black span k _ _ refl
    (c.scaled_with.ensures (number_at f l)
    (λ j v b p. let e : v ≡ get_or (ys ++ left) j 0 = search rules in e ∙ get_or-append ys left 0 j (search rules) ∙ n.ensures j (search rules))
    black span w k h)
