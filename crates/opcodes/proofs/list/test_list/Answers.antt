use Rattle.std.proofs.Common.{◌∙◌}
use Rattle.opcodes.specs.Facts.OpcodeList.{none}
use Rattle.opcodes.proofs.Listing.{list_absent, list_many, list_some}
use Rattle.opcodes.proofs.list.test_list.Goals as goal

pub returns-then-bytes-eq0 : goal.returns-then-bytes-eq0
returns-then-bytes-eq0 c =
    let a = c.args in
    list_absent a.file.now a.size a.at a.bytes none c.if-bytes-eq0.true

pub returns-then-count-gt32 : goal.returns-then-count-gt32
returns-then-count-gt32 c =
    let a = c.args in
    list_many a.file.now a.size a.at a.bytes none c.if-bytes-eq0.false c.field-count.result c.field-count.ensures.0 c.if-count-gt32.true

pub returns : goal.returns
returns c =
    let a = c.args in
    let n = c.field-count in
    c.test_opcodes.ensures ∙ list_some a.file.now a.size a.at a.bytes none c.if-bytes-eq0.false n.result n.ensures.0 c.if-count-gt32.false
