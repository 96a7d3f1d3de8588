use mathlib.Core.Path.{◌≡◌, ap, ◌∙◌}
use native.Mathlib.Omega.{arith}
use lib.Ieee.{Float}
use Rattle.opcodes.specs.Opcode.{Opcode, opcode_at}
use Rattle.opcodes.specs.declared.list.Header.{Header}
use Rattle.opcodes.proofs.Frames.{at_unit}
use Rattle.opcodes.proofs.Listing.{head_at}
use Rattle.rows.proofs.Walks.{walk_start, walk_next, step_read, step_reads, step_onward, walk_end, alone_folded}
use Rattle.rows.proofs.list.opcodes_at.Goals as goal

pub loop-init : goal.loop-init
loop-init c =
    (walk_start _ _ _ _ _ _ _ c.requires.opcodes_read.0, c.requires.x_value)

pub header_at-h-requires : goal.header_at-h-requires
header_at-h-requires c =
    let a = c.args in
    let pre = c.requires in
    let loop = c.loop in
    let s = (walk_next (λ (o : Opcode). opcode_at o a.row.0 a.column.0 a.plane) a.file.now a.size a.count a.at a.bytes
    a.x loop.counter loop.p loop.y c.loop-test.true loop.invariant.0) in
    omega (arith, s.header, pre.opcodes_read.0.inside)

pub listed_at-y-requires : goal.listed_at-y-requires
listed_at-y-requires c =
    let a = c.args in
    let pre = c.requires in
    let loop = c.loop in
    let act : Opcode → Float → Float = λ o. opcode_at o a.row.0 a.column.0 a.plane in record {
      opcode_read = (
        step_read act a.file.now a.size a.count a.at a.bytes a.x loop.counter loop.p loop.y _
            c.header_at-h.ensures.value (walk_next act a.file.now a.size a.count a.at a.bytes a.x loop.counter loop.p
            loop.y c.loop-test.true loop.invariant.0) pre.opcodes_read.0.inside,
        pre.opcodes_read.1,
      );
      x_value = loop.invariant.1;
    }

pub overflow_add-p : goal.overflow_add-p
overflow_add-p c =
    let a = c.args in
    let loop = c.loop in
    let loop-test = c.loop-test in
    let s = (walk_next (λ (o : Opcode). opcode_at o a.row.0 a.column.0 a.plane) a.file.now a.size a.count a.at a.bytes
    a.x loop.counter loop.p loop.y loop-test.true loop.invariant.0) in
    omega (arith, c.header_at-h.ensures.length_bound)

pub overflow_add-p-in-loop : goal.overflow_add-p-in-loop
overflow_add-p-in-loop c =
    let a = c.args in
    let good = c.well_formed in
    let pre = c.requires in
    let loop = c.loop in
    let loop-test = c.loop-test in
    let header_at = c.header_at-h in
    let s = (walk_next (λ (o : Opcode). opcode_at o a.row.0 a.column.0 a.plane) a.file.now a.size a.count a.at a.bytes
    a.x loop.counter loop.p loop.y loop-test.true loop.invariant.0) in
    let e : header_at.result.length ≡ (head_at a.file.now loop.p).length = ap (λ (k : Header). k.length) header_at.ensures.value in
    omega (arith, s.whole, pre.opcodes_read.0.inside, good.0.1)

pub loop-preserved : goal.loop-preserved
loop-preserved c =
    let a = c.args in
    let loop = c.loop in
    let loop-test = c.loop-test in
    let header_at = c.header_at-h in
    let act : Opcode → Float → Float = λ o. opcode_at o a.row.0 a.column.0 a.plane in
    let s = (walk_next act a.file.now a.size a.count a.at a.bytes a.x loop.counter loop.p loop.y loop-test.true
    loop.invariant.0) in
    let q = c.listed_at-y.ensures loop.counter s.first
    (step_reads act a.file.now a.size a.count a.at a.bytes a.x loop.counter loop.p loop.y _
    header_at.ensures.value s) in (
      step_onward act a.file.now a.size a.count a.at a.bytes a.x loop.counter loop.p loop.y _ header_at.ensures.value
          s _ q,
      rw q (at_unit s.first a.row.0 a.column.0 a.plane loop.y loop.invariant.1),
    )

pub returns : goal.returns
returns c =
    let a = c.args in
    let loop = c.loop in
    λ os e. walk_end (λ (o : Opcode). opcode_at o a.row.0 a.column.0 a.plane) a.file.now a.size a.count a.at a.bytes
    a.x loop.counter loop.p loop.y c.loop-test.false loop.invariant.0 os e
    ∙ alone_folded os a.row.0 a.column.0 a.plane a.x
