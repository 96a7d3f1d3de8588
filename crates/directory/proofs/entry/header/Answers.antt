use mathlib.Core.Path.{ap, ◌∙◌}
use native.Mathlib.Omega.{arith}
use borrow.Author.Rules.{rules}
use Rattle.directory.specs.Entry.{kind_of}
use Rattle.directory.proofs.Entries.{header_at}
use Rattle.directory.proofs.entry.header.Goals as goal

pub value-count-requires : goal.value-count-requires
value-count-requires c =
    let pre = c.requires in
    (omega arith, pre.1.word)

pub returns : goal.returns
returns c =
    let short = c.short-tag in
    let a = c.args in
    let k = c.kind_of-kind.ensures ∙ ap (kind_of a.widths.types) c.short.ensures in
    (header_at a.widths a.file.now a.order a.at _ _ _ short.ensures k c.value-count.ensures, search rules)
