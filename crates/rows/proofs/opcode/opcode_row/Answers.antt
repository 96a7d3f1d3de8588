use mathlib.Core.Path.{sym, ap, ◌∙◌}
use mathlib.Core.List.{List}
use Prim.Native.Nat.{ℕ}
use native.Mathlib.Omega.{arith}
use lib.Ieee.{Float}
use Rattle.reading.proofs.Bytes.{cut}
use Rattle.opcodes.specs.Opcode.{Opcode}
use Rattle.opcodes.specs.OpcodeList.{gain_map_fault}
use Rattle.rows.specs.Facts.Sweep.{over_part}
use Rattle.rows.specs.Facts.Part.{gained_of}
use Rattle.rows.proofs.Sweeps.{every_told}
use Rattle.rows.proofs.Parts.{enough}
use Rattle.rows.proofs.Overs.{read_fits, row_part, row_on, row_off}
use Rattle.rows.proofs.Gains.{kept_plain, kept_gained, gained_kept}
use Rattle.rows.proofs.opcode.opcode_row.Goals as goal
use Rattle.rows.proofs.opcode.opcode_row.Goals.{Start, Then-every}

pub gain_row-requires : goal.gain_row-requires
gain_row-requires c =
    let a = c.args in
    let f = a.file.now in
    let e = kept_gained f a.size a.at a.header c.requires.kept_in.0 c.if-id-eq9.true in
    (ap (gain_map_fault a.size) (cut f a.at a.header.length) ∙ e, c.requires.kept_in.1, c.requires.kept_in.2)

pub returns-then-id-eq9 : goal.returns-then-id-eq9
returns-then-id-eq9 c =
    let if1 = c.if-id-eq9 in
    let a = c.args in
    let f = a.file.now in
    let over : Opcode → List Float = λ o. over_part o a.row.0 a.column.0 a.size.samples a.out.now in
    c.gain_row.ensures ∙ ap (λ (bs : List ℕ). over (gained_of a.size bs)) (cut f a.at a.header.length)
    ∙ ap over (gained_kept f a.size a.at a.header c.requires.kept_in.0 if1.true)

pub grid_at-g-requires : goal.grid_at-g-requires
grid_at-g-requires c =
    let a = c.args in
    let f = a.file.now in
    let k = kept_plain f a.size a.at a.header c.requires.kept_in.0 c.if-id-eq9.false in
    omega (arith, enough f a.size a.at a.header k, c.requires.kept_in.0.inside)

pub every-requires : goal.every-requires
every-requires c =
    let a = c.args in
    let f = a.file.now in
    let k = kept_plain f a.size a.at a.header c.requires.kept_in.0 c.if-id-eq9.false in
    let g = c.grid_at-g in
    (read_fits f a.size a.at a.header k g.result g.ensures.by_index).row_pitch

pub overflow_sub-i : goal.overflow_sub-i
overflow_sub-i c =
    let a = c.args in
    let t = sym c.every.ensures ∙ c.if-every.true in
    (every_told _ _ _ a.row.0 t).0

pub nonzero_div-i : goal.nonzero_div-i
nonzero_div-i c =
    let if1 = c.if-id-eq9 in
    let a = c.args in
    let f = a.file.now in
    let k = kept_plain f a.size a.at a.header c.requires.kept_in.0 if1.false in
    let g = c.grid_at-g in
    (read_fits f a.size a.at a.header k g.result g.ensures.by_index).row_pitch

pub planes_row-requires : goal.planes_row-requires
planes_row-requires c =
    let if1 = c.if-id-eq9 in
    let every = c.every in
    let if2 = c.if-every in
    let a = c.args in
    let f = a.file.now in
    let k = kept_plain f a.size a.at a.header c.requires.kept_in.0 if1.false in
    let g = c.grid_at-g in
    let q = read_fits f a.size a.at a.header k g.result g.ensures.by_index in
    let z = c.requires.kept_in.1 in
    let t = sym every.ensures ∙ if2.true in record {
      column_pitch_nonzero = (
        q.column_pitch,
        g.ensures.plane_bound.3,
        c.requires.kept_in.2,
        omega (arith, q.some_columns, q.columns, z.columns),
        omega (arith, q.columns, z.columns),
        z.few,
        z.some,
        q.planes,
      );
      part_in = (row_part f a.size a.at a.header k g.result g.ensures.by_index a.row.0 t, k.listed, c.requires.all_in_unit);
    }

pub returns-then-every : goal.returns-then-every
returns-then-every c =
    let a = c.args in
    let f = a.file.now in
    let g = c.grid_at-g in
    let k = kept_plain f a.size a.at a.header c.requires.kept_in.0 c.if-id-eq9.false in
    let t = sym c.every.ensures ∙ c.if-every.true in
    c.planes_row.ensures
    ∙ row_on f a.size a.at a.header k a.row.0 a.column.0 a.size.samples a.out.now g.result g.ensures.by_index t c.requires.all_in_unit

pub returns-else-every : goal.returns-else-every
returns-else-every c =
    let if1 = c.if-id-eq9 in
    let a = c.args in
    let f = a.file.now in
    let k = kept_plain f a.size a.at a.header c.requires.kept_in.0 if1.false in
    let g = c.grid_at-g in
    let t = sym c.every.ensures ∙ c.if-every.false in
    row_off f a.size a.at a.header k a.row.0 a.column.0 a.size.samples a.out.now g.result g.ensures.by_index t
