use mathlib.Core.Path.{ap}
use mathlib.Core.List.{[], ◌∷◌}
use Prim.Native.Nat.{ℕ, ◌+◌}
use borrow.Author.Rules.{rules}
use lib.Ieee.{lt}
use Rattle.levels.specs.Clip.{clip_of}
use Rattle.opcodes.specs.Grid.{long_of}
use Rattle.opcodes.specs.Step.{horner_of}
use Rattle.rows.proofs.Parts.{swept_cubic}
use Rattle.rows.proofs.opcode.sweep_cubic.Goals as goal

pub returns : goal.returns
unfolding clip_of lt horner_of
returns c =
    let f = c.args.file.now in
    let p = c.args.places in
    let pre = c.requires.at_in_bounds in
    let a0 = c.coefficient-a0 in
    let a1 = c.coefficient-a1 in
    let a2 = c.coefficient-a2 in
    let a3 = c.coefficient-a3 in
    swept_cubic f (c.args.at + 36) (long_of f (c.args.at + 32)) _ p.first p.end p.pitch _ _ _ _ c.args.out.now _
    (ap (λ (k : ℕ). k + 1) c.field-n.ensures.0) pre.1 pre.2 a0.ensures a1.ensures a2.ensures a3.ensures
    (c.sweep_often.ensures (λ n x. clip_of (horner_of (a0.result ∷ a1.result ∷ a2.result ∷ a3.result ∷ []) x)) (λ n x y h. search rules))
