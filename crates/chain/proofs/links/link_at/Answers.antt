use mathlib.Core.Path.{◌≡◌, sym, ◌∙◌}
use Prim.Native.Nat.{◌+◌}
use native.Mathlib.Omega.{arith}
use Rattle.opcodes.specs.OpcodeList.{class_of}
use Rattle.opcodes.specs.declared.list.Class.TheVariants as class
use Rattle.rows.specs.Facts.Part.{KeptIn}
use Rattle.rows.proofs.Walks.{carried_in}
use Rattle.chain.proofs.LinkLaws.{kept_long, kept_fits, link_on, link_off, link_optional, link_compulsory}
use borrow.Author.Rules.{rules}
use Rattle.chain.proofs.links.link_at.Goals as goal
use Rattle.chain.proofs.links.link_at.Goals.{In-Carried}

-- a carried opcode
carried : (k : In-Carried) → class.Carried ≡ class_of k.args.header
carried k = sym k.in-Carried.is ∙ k.classify.ensures

kept : (k : In-Carried) → let a = k.args in
    KeptIn a.file.now a.size (a.at + 16) a.header
kept k =
    carried_in k.args.file.now k.args.size k.args.at k.args.header (carried k) k.requires.opcode_read.0

pub opcode_at-after-requires : goal.opcode_at-after-requires
opcode_at-after-requires c =
    record { kept_in = (kept (goal.at.opcode_at-after-requires c).In-Carried, c.requires.opcode_read.1); x_value = c.requires.x_value }

pub grid_at-g-requires : goal.grid_at-g-requires
grid_at-g-requires c =
    let k = (goal.at.grid_at-g-requires c).In-Carried in
    let a = k.args in
    omega (arith, kept_long a.file.now a.size (a.at + 16) a.header (kept k), (kept k).inside)

pub on-requires : goal.on-requires
on-requires c =
    let k = (goal.at.on-requires c).In-Carried in
    let a = k.args in
    let g = c.grid_at-g in
    let q = kept_fits a.file.now a.size (a.at + 16) a.header (kept k) g.result g.ensures.by_index in
    (q.row_pitch, q.column_pitch, g.ensures.plane_bound.0, g.ensures.plane_bound.1)

pub returns-then-on : goal.returns-then-on
returns-then-on c =
    let k = (goal.at.returns-then-on c).In-Carried in
    let a = k.args in
    let g = c.grid_at-g in
    λ i o e. link_on a.file.now a.size a.at a.header i o e a.spot.row.0 a.spot.column.0 a.spot.plane a.x
    (carried k) (kept k) g.result g.ensures.by_index (sym c.on.ensures ∙ c.if-on.true) _ c.opcode_at-after.ensures

pub returns-else-on : goal.returns-else-on
returns-else-on c =
    let k = (goal.at.returns-else-on c).In-Carried in
    let a = k.args in
    let g = c.grid_at-g in
    λ i o e. link_off a.file.now a.size a.at a.header i o e a.spot.row.0 a.spot.column.0 a.spot.plane a.x
    (carried k) (kept k) g.result g.ensures.by_index (sym c.on.ensures ∙ c.if-on.false)

pub returns-in-Optional : goal.returns-in-Optional
returns-in-Optional c =
    let a = c.args in
    λ i o e. link_optional a.file.now a.size a.at a.header i o e a.spot.row.0 a.spot.column.0 a.spot.plane a.x
    (sym c.in-Optional.is ∙ c.classify.ensures)

pub returns-in-Compulsory : goal.returns-in-Compulsory
returns-in-Compulsory c =
    let a = c.args in
    λ i o e. link_compulsory a.file.now a.size a.at a.header i o e a.spot.row.0 a.spot.column.0 a.spot.plane a.x
    (sym c.in-Compulsory.is ∙ c.classify.ensures)
