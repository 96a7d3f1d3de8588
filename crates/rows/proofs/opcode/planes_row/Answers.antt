use mathlib.Core.Path.{◌≡◌, refl, sym, ◌∙◌, subst}
use Prim.Native.Nat.{ℕ, ◌+◌, ◌*◌, ◌<◌}
use native.Mathlib.Omega.{arith}
use lib.ListN.{length}
use lib.Ieee.{Float}
use native.Mathlib.Nat.{mul-le-mul_left, mul-pos}
use Rattle.opcodes.specs.Step.{applied_of}
use Rattle.opcodes.specs.Facts.StepAt.{step_of}
use Rattle.rows.specs.Facts.Sweep.{planes_of}
use Rattle.rows.proofs.GridColumns.{planes_start, planes_next, planes_dense, end_short, hits}
use Rattle.rows.proofs.Parts.{part_few, swept_units, applied_row}
use Rattle.rows.specs.Facts.Part.{AllInUnit}
use Rattle.rows.proofs.opcode.planes_row.Goals as goal
use Rattle.rows.proofs.opcode.planes_row.Goals.{After-end_at-end, After-first_at-first, At-loop-p, Start, Then-dense}

wide : (c : Start) → c.args.grid.column_pitch * c.args.n < 0x10_0000_0000
wide c = omega (arith, mul-le-mul_left c.args.grid.column_pitch c.requires.column_pitch_nonzero.5, c.requires.column_pitch_nonzero)

pub overflow_add-stop : goal.overflow_add-stop
overflow_add-stop c =
    omega (arith, c.requires.column_pitch_nonzero)

pub skipped-skip-requires : goal.skipped-skip-requires
skipped-skip-requires c = let s =
    (goal.at.skipped-skip-requires c).Start in (s.requires.column_pitch_nonzero.0, s.requires.column_pitch_nonzero.1, s.requires.column_pitch_nonzero.2)

pub first_at-first-requires : goal.first_at-first-requires
first_at-first-requires c = (
  c.requires.column_pitch_nonzero.0,
  c.requires.column_pitch_nonzero.1,
  c.requires.column_pitch_nonzero.2,
  c.requires.column_pitch_nonzero.3,
  c.requires.column_pitch_nonzero.5,
)

pub end_at-end-requires : goal.end_at-end-requires
end_at-end-requires c = let s =
    (goal.at.end_at-end-requires c).Start in (s.requires.column_pitch_nonzero.4, s.requires.column_pitch_nonzero.5)

pub dense-requires : goal.dense-requires
dense-requires c = let s =
    (goal.at.dense-requires c).Start in (omega arith, s.requires.column_pitch_nonzero.7)

-- ---- one pass
pub sweep_row-requires : goal.sweep_row-requires
sweep_row-requires c =
    let end-at = c.end_at-end in
    let a = c.args in
    let d = c.dense.ensures c.if-dense.true in
    let e = end-at.ensures in record {
      places_in = (
        record { some = omega arith; few = omega arith; inside = omega (arith, e, end_short a.grid.right a.column.0 a.n (length a.out.now)) },
        c.requires.part_in.1,
      );
      part_in = (part_few _ _ _ _ c.requires.part_in.0, c.requires.part_in.2);
      fact = (d.0, d.1);
    }

pub returns-then-dense : goal.returns-then-dense
returns-then-dense c =
    let a = c.args in
    let f = a.file.now in
    let d = c.dense.ensures c.if-dense.true in
    planes_dense _ _ a.grid.left a.grid.right a.grid.column_pitch a.column.0 a.n a.grid.plane
    (a.grid.plane + a.grid.planes) _ _ a.out.now _ c.requires.column_pitch_nonzero.6
    (λ p j x. applied_row f a.at a.id a.i c.requires.part_in.1 d.0 d.1 j x)
    d.2 d.3 d.4 c.first_at-first.ensures.0 c.end_at-end.ensures
    c.sweep_row.ensures

-- ---- plane after plane
pub loop-p-init : goal.loop-p-init
loop-p-init c =
    (planes_start _ _ _ _ _ _ _ c.requires.column_pitch_nonzero.0 _, c.requires.part_in.2)

pub overflow_add-places : goal.overflow_add-places
overflow_add-places c =
    omega (arith, c.first_at-first.ensures.1, c.requires.column_pitch_nonzero)

pub overflow_mul-places : goal.overflow_mul-places
overflow_mul-places c =
    omega (arith, wide (goal.at.overflow_mul-places c).Start)

pub sweep_opcode-requires : goal.sweep_opcode-requires
sweep_opcode-requires c =
    let v = c.loop-p in
    let s = (goal.at.sweep_opcode-requires c).Start in
    let a = s.args in
    let e = c.end_at-end.ensures in
    let q : v.p < a.n = omega (arith, s.requires.column_pitch_nonzero, c.loop-p-test.true) in
    let w = end_short a.grid.right a.column.0 a.n (length a.out.now) in record {
      places_in = (
        record {
          some = mul-pos s.requires.column_pitch_nonzero.0 s.requires.column_pitch_nonzero.6;
          few = omega (arith, wide s);
          inside = omega (arith, e, w);
        },
        s.requires.part_in.1,
      );
      part_in = (part_few _ _ _ _ s.requires.part_in.0, v.invariant.1);
      float_in = λ h k t.
          s.requires.part_in.0.column h _
          (hits a.grid.left a.grid.right a.grid.column_pitch a.column.0 a.n v.p _ k s.requires.column_pitch_nonzero.0 q _ _ _
          c.skipped-skip.ensures.0 c.first_at-first.ensures.0 e t);
    }

pub loop-p-preserved : goal.loop-p-preserved
loop-p-preserved c =
    let w = c.sweep_opcode in
    let t = c.loop-p-test.true in
    let v = c.loop-p in
    let a = c.args in (
      planes_next _ _ _ _ _ _ _ c.requires.column_pitch_nonzero.0 v.p _ _ _ _ a.out.now v.out _
          c.skipped-skip.ensures.0 c.first_at-first.ensures.0 c.end_at-end.ensures
          (omega arith) (omega (arith, c.requires.column_pitch_nonzero, t)) refl v.invariant.0 w.ensures,
      subst AllInUnit (sym w.ensures) (swept_units a.file.now _ _ _ _ v.out v.invariant.1),
    )

pub returns : goal.returns
returns c =
    let loop = c.loop-p in
    let a = c.args in
    let e : loop.p ≡ a.grid.plane + a.grid.planes = omega (arith, c.loop-p.auto.p-end (omega arith)) in
    let f = a.file.now in
    let R : ℕ → ℕ → Float → Float = λ _ j x. applied_of (step_of f a.at a.id a.i j) f x in
    let v = loop in
    subst (λ (q : ℕ). v.out ≡ planes_of R a.grid.left a.grid.right a.grid.column_pitch a.column.0 a.n a.grid.plane
    q a.out.now) e v.invariant.0
