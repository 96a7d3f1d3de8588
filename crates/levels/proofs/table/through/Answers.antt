use mathlib.Core.Path.{ap, ◌∙◌, sym}
use Prim.Native.Nat.{ℕ, ◌+◌, ◌*◌, ◌<◌}
use native.Mathlib.Omega.{arith}
use lib.ListN.{take, drop}
use Rattle.reading.specs.Number.{number_of}
use Rattle.levels.proofs.Runs.{through_none, through_some}
use Rattle.levels.proofs.table.through.Goals as goal

pub returns-then-count-eq0 : goal.returns-then-count-eq0
returns-then-count-eq0 c =
    let a = c.args in
    sym (through_none (λ (p : ℕ). number_of a.order (take 2 (drop p a.s.now))) 2 a.at a.count a.v c.if-count-eq0.true)

pub returns : goal.returns
returns c =
    let a = c.args in
    let f : ℕ → ℕ = λ (p : ℕ). number_of a.order (take 2 (drop p a.s.now)) in
    let h : 0 < a.count = omega arith in
    c.short.ensures ∙ ap (λ (k : ℕ). f (a.at + 2 * k)) c.min-k.ensures ∙ sym (through_some f 2 a.at a.count a.v h)
