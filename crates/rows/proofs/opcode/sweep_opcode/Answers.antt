use mathlib.Core.Path.{◌≡◌, refl, subst}
use mathlib.Core.Bool.{true}
use mathlib.Core.List.{List}
use mathlib.Core.Logic.{inl, inr}
use Prim.Native.Nat.{ℕ, ◌+◌, ◌-◌, ◌*◌, ◌/◌, ◌<◌}
use borrow.Author.Rules.{rules}
use lib.Ieee.{binary64, add, mul}
use Rattle.levels.specs.Clip.{clip_of}
use Rattle.opcodes.specs.Grid.{every_of}
use Rattle.opcodes.specs.Facts.StepAt.{float_at, FloatIn}
use Rattle.rows.proofs.Parts.{swept_row, swept_11, swept_13}
use Rattle.rows.proofs.Sweeps.{swept_start, swept_end, nth_tell, nth_number}
use Rattle.rows.proofs.opcode.sweep_opcode.Goals as goal

-- no place
pub returns-then-places : goal.returns-then-places
returns-then-places c =
    let p = c.args.places in
    swept_end p.first p.end p.pitch _ p.first c.args.out.now c.args.out.now c.if-places.true (swept_start p.first p.end p.pitch _ c.args.out.now)

-- the n-th place's value
value_at : (f : List ℕ) (at j first end pitch : ℕ) → 0 < pitch
    → ((k : ℕ) → every_of first end pitch k ≡ true → FloatIn f at (j + (k - first) / pitch)) → (n : ℕ) → first + n * pitch < end → FloatIn f at (j + n)
value_at f at j first end pitch p v n h =
    subst (λ (m : ℕ). FloatIn f at (j + m)) (nth_number first end pitch n p) (v (first + n * pitch) (nth_tell first end pitch n h))

pub sweep_often-requires-clause-callable : goal.sweep_often-requires-clause-callable
sweep_often-requires-clause-callable c n h =
    let v = value_at c.args.file.now c.args.at c.args.j _ _ _ c.requires.places_in.0.some (c.requires.float_in (inl c.if-id-eq11.true)) n h in
    search rules

pub returns-then-id-eq11 : goal.returns-then-id-eq11
returns-then-id-eq11 c =
    let a = c.args in
    let p = a.places in
    swept_11 a.file.now a.at a.id a.i a.j p.first p.end p.pitch a.out.now _ c.if-id-eq11.true
    (c.sweep_often.ensures (λ n x. clip_of (add binary64 x (float_at a.file.now a.at (a.j + n)))) (λ n x y h. search rules))

pub sweep_often-requires-then-id-eq13-clause-callable : goal.sweep_often-requires-then-id-eq13-clause-callable
sweep_often-requires-then-id-eq13-clause-callable c n h =
    let v = value_at c.args.file.now c.args.at c.args.j _ _ _ c.requires.places_in.0.some (c.requires.float_in (inr c.if-id-eq13.true)) n h in
    search rules

pub returns-then-id-eq13 : goal.returns-then-id-eq13
returns-then-id-eq13 c =
    let a = c.args in
    let p = a.places in
    swept_13 a.file.now a.at a.id a.i a.j p.first p.end p.pitch a.out.now _ c.if-id-eq13.true
    (c.sweep_often-then-id-eq13.ensures (λ n x. clip_of (mul binary64 x (float_at a.file.now a.at (a.j + n)))) (λ n x y h. search rules))

pub returns-else-id-eq13 : goal.returns-else-id-eq13
returns-else-id-eq13 c =
    let a = c.args in
    let p = a.places in
    swept_row a.file.now a.at a.id a.i c.requires.places_in.1 c.if-id-eq11.false c.if-id-eq13.false _ a.j p.first p.end p.pitch a.out.now _ refl
    c.sweep_row.ensures
