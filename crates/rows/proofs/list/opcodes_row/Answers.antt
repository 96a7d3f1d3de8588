use mathlib.Core.Path.{◌≡◌, refl, sym, ap, ◌∙◌, subst}
use mathlib.Core.List.{List}
use native.Mathlib.Omega.{arith}
use lib.Ieee.{Float}
use Rattle.opcodes.specs.Opcode.{Opcode}
use Rattle.opcodes.specs.declared.list.Header.{Header}
use Rattle.opcodes.proofs.Listing.{head_at}
use Rattle.rows.specs.Facts.Sweep.{over_part}
use Rattle.rows.specs.Facts.Part.{AllInUnit}
use Rattle.rows.proofs.Overs.{over_units}
use Rattle.rows.proofs.Walks.{walk_start, walk_next, step_read, step_reads, step_onward, walk_end, part_folded}
use Rattle.rows.proofs.list.opcodes_row.Goals as goal

pub loop-init : goal.loop-init
loop-init c =
    let pre = c.requires in
    (walk_start _ _ _ _ _ _ _ pre.opcodes_read.0, pre.all_in_unit)

pub header_at-h-requires : goal.header_at-h-requires
header_at-h-requires c =
    let a = c.args in
    let pre = c.requires in
    let loop = c.loop in
    let s = (walk_next (λ (o : Opcode). over_part o a.row.0 a.column.0 a.size.samples) a.file.now a.size a.count a.at
    a.bytes a.out.now loop.counter loop.p loop.out c.loop-test.true loop.invariant.0) in
    omega (arith, s.header, pre.opcodes_read.0.inside)

pub listed_row-requires : goal.listed_row-requires
listed_row-requires c =
    let a = c.args in
    let pre = c.requires in
    let loop = c.loop in
    let act : Opcode → List Float → List Float = λ o. over_part o a.row.0 a.column.0 a.size.samples in record {
      opcode_read = (
        step_read act a.file.now a.size a.count a.at a.bytes a.out.now loop.counter loop.p loop.out _
            c.header_at-h.ensures.value
            (walk_next act a.file.now a.size a.count a.at a.bytes a.out.now loop.counter loop.p loop.out
            c.loop-test.true loop.invariant.0) pre.opcodes_read.0.inside,
        pre.opcodes_read.1,
        pre.opcodes_read.2,
      );
      all_in_unit = loop.invariant.1;
    }

pub overflow_add-p : goal.overflow_add-p
overflow_add-p c =
    let a = c.args in
    let loop = c.loop in
    let loop-test = c.loop-test in
    let header_at = c.header_at-h in
    let s = (walk_next (λ (o : Opcode). over_part o a.row.0 a.column.0 a.size.samples) a.file.now a.size a.count a.at
    a.bytes a.out.now loop.counter loop.p loop.out loop-test.true loop.invariant.0) in
    omega (arith, header_at.ensures.length_bound)

pub overflow_add-p-in-loop : goal.overflow_add-p-in-loop
overflow_add-p-in-loop c =
    let a = c.args in
    let good = c.well_formed in
    let pre = c.requires in
    let loop = c.loop in
    let loop-test = c.loop-test in
    let header_at = c.header_at-h in
    let s = (walk_next (λ (o : Opcode). over_part o a.row.0 a.column.0 a.size.samples) a.file.now a.size a.count a.at
    a.bytes a.out.now loop.counter loop.p loop.out loop-test.true loop.invariant.0) in
    let e : header_at.result.length ≡ (head_at a.file.now loop.p).length = ap (λ (k : Header). k.length) header_at.ensures.value in
    omega (arith, s.whole, pre.opcodes_read.0.inside, good.0.1)

pub loop-preserved : goal.loop-preserved
loop-preserved c =
    let a = c.args in
    let loop = c.loop in
    let loop-test = c.loop-test in
    let header_at = c.header_at-h in
    let listed-row = c.listed_row in
    let act : Opcode → List Float → List Float = λ o. over_part o a.row.0 a.column.0 a.size.samples in
    let s = (walk_next act a.file.now a.size a.count a.at a.bytes a.out.now loop.counter loop.p loop.out
    loop-test.true loop.invariant.0) in
    let q = listed-row.ensures loop.counter s.first
    (step_reads act a.file.now a.size a.count a.at a.bytes a.out.now loop.counter loop.p loop.out _
    header_at.ensures.value s) in (
      step_onward act a.file.now a.size a.count a.at a.bytes a.out.now loop.counter loop.p loop.out _
          header_at.ensures.value s _ q,
      subst AllInUnit (sym q) (over_units s.first a.row.0 a.column.0 a.size.samples loop.out loop.invariant.1),
    )

pub returns : goal.returns
returns c =
    let a = c.args in
    let loop = c.loop in
    λ os e. walk_end (λ (o : Opcode). over_part o a.row.0 a.column.0 a.size.samples) a.file.now a.size a.count a.at a.bytes
    a.out.now loop.counter loop.p loop.out c.loop-test.false loop.invariant.0 os e
    ∙ part_folded os a.row.0 a.column.0 a.size.samples a.out.now
