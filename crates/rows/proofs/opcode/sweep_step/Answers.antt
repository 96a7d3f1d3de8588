use borrow.Author.Rules.{rules}
use mathlib.Core.List.{[], ◌∷◌}
use lib.Ieee.{binary64, add, mul, lt}
use Rattle.levels.specs.Clip.{clip_of}
use Rattle.opcodes.specs.Step.{horner_of, mapped_of, table_at, result_of, applied_of}
use Rattle.rows.proofs.Parts.{swept_is}
use Rattle.rows.proofs.opcode.sweep_step.Goals as goal

pub returns-in-Add : goal.returns-in-Add
unfolding applied_of result_of
returns-in-Add c =
    let p = c.args.places in
    swept_is c.args.step _ c.args.file.now p.first p.end p.pitch c.args.out.now _ c.in-Add.is
    (c.sweep_often.ensures (λ n x. clip_of (add binary64 x c.in-Add.d)) (λ n x y h. search rules))

pub returns-in-Scale : goal.returns-in-Scale
unfolding applied_of result_of
returns-in-Scale c =
    let p = c.args.places in
    swept_is c.args.step _ c.args.file.now p.first p.end p.pitch c.args.out.now _ c.in-Scale.is
    (c.sweep_often-in-Scale.ensures (λ n x. clip_of (mul binary64 x c.in-Scale.f)) (λ n x y h. search rules))

pub returns-in-Polynomial : goal.returns-in-Polynomial
unfolding applied_of result_of clip_of lt horner_of
returns-in-Polynomial c =
    let p = c.args.places in
    let a = c.in-Polynomial in
    swept_is c.args.step _ c.args.file.now p.first p.end p.pitch c.args.out.now _ c.in-Polynomial.is
    (c.sweep_often-in-Polynomial.ensures (λ n x. clip_of (horner_of (a.a0 ∷ a.a1 ∷ a.a2 ∷ a.a3 ∷ a.a4 ∷ a.a5
    ∷ a.a6 ∷ a.a7 ∷ a.a8 ∷ []) x)) (λ n x y h. search rules))

pub returns-in-Table : goal.returns-in-Table
unfolding applied_of result_of
returns-in-Table c =
    let p = c.args.places in
    swept_is c.args.step _ c.args.file.now p.first p.end p.pitch c.args.out.now _ c.in-Table.is
    (c.sweep_often-in-Table.ensures (λ n x. clip_of (mapped_of (table_at c.args.file.now c.in-Table.at) x)) (λ n x y h. search rules))
