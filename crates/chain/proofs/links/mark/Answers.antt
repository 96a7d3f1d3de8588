use mathlib.Core.Path.{sym, ap, ◌∙◌}
use Rattle.opcodes.specs.OpcodeList.{class_of}
use Rattle.chain.specs.Facts.Links.{skips_of, marked}
use Rattle.chain.proofs.LinkLaws.{class_skips, class_keeps}
use borrow.Author.Rules.{rules}
use Rattle.chain.proofs.links.mark.Goals as goal

pub returns-in-Carried : goal.returns-in-Carried
returns-in-Carried c =
    let a = c.args in
    let e = sym c.in-Carried.is ∙ c.classify.ensures in
    class_keeps (class_of a.header) (marked a.index a.n a.skipped.now) (sym (ap skips_of e))

pub returns-in-Optional : goal.returns-in-Optional
returns-in-Optional c =
    let a = c.args in
    let e = sym c.in-Optional.is ∙ c.classify.ensures in
    class_skips (class_of a.header) (marked a.index a.n a.skipped.now) (sym e)

pub returns-in-Compulsory : goal.returns-in-Compulsory
returns-in-Compulsory c =
    let a = c.args in
    let e = sym c.in-Compulsory.is ∙ c.classify.ensures in
    class_keeps (class_of a.header) (marked a.index a.n a.skipped.now) (sym (ap skips_of e))
