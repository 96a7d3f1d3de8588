use Rattle.std.proofs.Common.{◌≡◌, ℕ, ◌+◌, ◌<◌, ◌≤◌, List, sym, ap, ◌∙◌, arith}
use lib.Ieee.{Float}
use Rattle.reading.specs.declared.number.Order.TheVariants.{Big}
use Rattle.levels.specs.Clip.{clip_of}
use Rattle.levels.specs.Level.{scaled_of}
use Rattle.levels.specs.Table.{table_of, through_of}
use Rattle.levels.proofs.UnitRange.{scaled_unit}
use Rattle.opcodes.specs.Step.{index_of, mapped_of, table_at}
use Rattle.opcodes.specs.Grid.{long_of}
use Rattle.opcodes.proofs.step.unit_mapped.Goals as goal
use Rattle.opcodes.proofs.step.unit_mapped.Goals.{Start}

-- what is read, as the table has it
read : (f : List ℕ) (at n k l : ℕ) (x : Float) → n ≡ long_of f at → k ≡ index_of x →
    l ≡ through_of (table_of Big f (at + 4) n) k → l ≤ 65535 →
    scaled_of l ≡ clip_of (mapped_of (table_at f at) x)
read f at n k l x e h q b = sym (scaled_unit l b) ∙ ap (λ (m : ℕ). clip_of (scaled_of m)) (rw (← e, ← h) q)

pub returns : goal.returns
returns c =
    let t = c.through in
    let w : t.result < 65536 = t.type_inv in
    let b : t.result ≤ 65535 = omega arith in
    let a = c.args in
    c.scaled.ensures ∙ read a.file.now a.at _ _ t.result a.x c.requires.1 c.unit_index.ensures
    t.ensures b
