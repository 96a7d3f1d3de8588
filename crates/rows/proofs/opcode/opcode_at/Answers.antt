use mathlib.Core.Path.{sym, ap, ◌∙◌}
use mathlib.Core.List.{List}
use Prim.Native.Nat.{ℕ}
use native.Mathlib.Omega.{arith}
use lib.Ieee.{Float}
use Rattle.reading.proofs.Bytes.{cut}
use Rattle.opcodes.specs.Opcode.{Opcode, opcode_at}
use Rattle.opcodes.specs.OpcodeList.{gain_map_fault}
use Rattle.opcodes.specs.Step.{applied_of}
use Rattle.opcodes.specs.declared.step.Step.{Step}
use Rattle.opcodes.proofs.StepLaws.{on_in}
use Rattle.rows.specs.Facts.Part.{gained_of}
use Rattle.rows.proofs.Parts.{enough, step_held}
use Rattle.rows.proofs.Overs.{read_fits, on_part, on_step, at_on, at_off}
use Rattle.rows.proofs.Gains.{kept_plain, kept_gained, gained_kept}
use Rattle.rows.proofs.opcode.opcode_at.Goals as goal
use Rattle.rows.proofs.opcode.opcode_at.Goals.{Start}

pub gain_at-requires : goal.gain_at-requires
gain_at-requires c =
    let a = c.args in
    let f = a.file.now in
    let e = kept_gained f a.size a.at a.header c.requires.kept_in.0 c.if-id-eq9.true in
    (ap (gain_map_fault a.size) (cut f a.at a.header.length) ∙ e, c.requires.kept_in.1)

pub returns-then-id-eq9 : goal.returns-then-id-eq9
returns-then-id-eq9 c =
    let a = c.args in
    let f = a.file.now in
    let at : Opcode → Float = λ o. opcode_at o a.row.0 a.column.0 a.plane a.x in
    c.gain_at.ensures ∙ ap (λ (bs : List ℕ). at (gained_of a.size bs)) (cut f a.at a.header.length)
    ∙ ap at (gained_kept f a.size a.at a.header c.requires.kept_in.0 c.if-id-eq9.true)

pub grid_at-g-requires : goal.grid_at-g-requires
grid_at-g-requires c =
    let a = c.args in
    let f = a.file.now in
    let k = kept_plain f a.size a.at a.header c.requires.kept_in.0 c.if-id-eq9.false in
    omega (arith, enough f a.size a.at a.header k, c.requires.kept_in.0.inside)

pub on-requires : goal.on-requires
on-requires c =
    let a = c.args in
    let f = a.file.now in
    let k = kept_plain f a.size a.at a.header c.requires.kept_in.0 c.if-id-eq9.false in
    let g = c.grid_at-g in
    let q = read_fits f a.size a.at a.header k g.result g.ensures.by_index in
    (q.row_pitch, q.column_pitch, g.ensures.plane_bound.0, g.ensures.plane_bound.1)

pub overflow_sub-i : goal.overflow_sub-i
overflow_sub-i c =
    let a = c.args in
    (on_in _ a.row.0 a.column.0 a.plane (sym c.on.ensures ∙ c.if-on.true)).top

pub nonzero_div-i : goal.nonzero_div-i
nonzero_div-i c =
    let if1 = c.if-id-eq9 in
    let a = c.args in
    let f = a.file.now in
    let k = kept_plain f a.size a.at a.header c.requires.kept_in.0 if1.false in
    let g = c.grid_at-g in
    (read_fits f a.size a.at a.header k g.result g.ensures.by_index).row_pitch

pub overflow_sub-j : goal.overflow_sub-j
overflow_sub-j c =
    let on = c.on in
    let if2 = c.if-on in
    let a = c.args in
    (on_in _ a.row.0 a.column.0 a.plane (sym on.ensures ∙ if2.true)).left

pub nonzero_div-j : goal.nonzero_div-j
nonzero_div-j c =
    let if1 = c.if-id-eq9 in
    let a = c.args in
    let f = a.file.now in
    let k = kept_plain f a.size a.at a.header c.requires.kept_in.0 if1.false in
    let g = c.grid_at-g in
    (read_fits f a.size a.at a.header k g.result g.ensures.by_index).column_pitch

pub step_for-requires : goal.step_for-requires
step_for-requires c =
    let if1 = c.if-id-eq9 in
    let on = c.on in
    let if2 = c.if-on in
    let a = c.args in
    let f = a.file.now in
    let k = kept_plain f a.size a.at a.header c.requires.kept_in.0 if1.false in
    let g = c.grid_at-g in
    let t = sym on.ensures ∙ if2.true in
    (on_step f a.size a.at a.header k g.result g.ensures.by_index a.row.0 a.column.0 a.plane t, k.listed)

pub apply-requires : goal.apply-requires
apply-requires c =
    let if1 = c.if-id-eq9 in
    let on = c.on in
    let if2 = c.if-on in
    let a = c.args in
    let f = a.file.now in
    let k = kept_plain f a.size a.at a.header c.requires.kept_in.0 if1.false in
    let g = c.grid_at-g in
    let t = sym on.ensures ∙ if2.true in
    let w = on_part f a.size a.at a.header k g.result g.ensures.by_index a.row.0 a.column.0 a.plane t in
    step_held f a.at a.header.id _ _ _ k.listed w c.step_for.ensures

pub returns-then-on : goal.returns-then-on
returns-then-on c =
    let if1 = c.if-id-eq9 in
    let on = c.on in
    let if2 = c.if-on in
    let a = c.args in
    let f = a.file.now in
    let k = kept_plain f a.size a.at a.header c.requires.kept_in.0 if1.false in
    let g = c.grid_at-g in
    let t = sym on.ensures ∙ if2.true in
    c.apply.ensures ∙ ap (λ (w : Step). applied_of w f a.x) c.step_for.ensures
    ∙ at_on f a.size a.at a.header k a.row.0 a.column.0 a.plane a.x g.result g.ensures.by_index t c.requires.x_value

pub returns-else-on : goal.returns-else-on
returns-else-on c =
    let if1 = c.if-id-eq9 in
    let a = c.args in
    let f = a.file.now in
    let k = kept_plain f a.size a.at a.header c.requires.kept_in.0 if1.false in
    let g = c.grid_at-g in
    let t = sym c.on.ensures ∙ c.if-on.false in
    at_off f a.size a.at a.header k a.row.0 a.column.0 a.plane a.x g.result g.ensures.by_index t
