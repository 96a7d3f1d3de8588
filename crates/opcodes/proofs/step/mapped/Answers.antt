use Rattle.std.proofs.Common.{◌≡◌, ℕ, ◌+◌, min, List, ap, ◌∙◌}
use lib.Ieee.{Float}
use Rattle.reading.specs.Bytes.{part}
use Rattle.reading.specs.Number.{number_of}
use Rattle.reading.specs.declared.number.Order.TheVariants.{Big}
use Rattle.levels.specs.Level.{scaled_of}
use Rattle.levels.specs.Table.{table_of, through_of}
use Rattle.opcodes.specs.Step.{index_of, table_at}
use Rattle.opcodes.specs.Facts.Step.{TableIn}
use Rattle.opcodes.proofs.Tables.{through_capped}
use Rattle.opcodes.specs.Grid.{long_of}
use Rattle.opcodes.proofs.step.mapped.Goals as goal

through_is : (f : List ℕ) (at : ℕ) (x : Float) (n k : ℕ) → n ≡ long_of f at → k ≡ min (index_of x) 65535 → TableIn f at →
    through_of (table_of Big f (at + 4) n) k ≡ through_of (table_at f at) (index_of x)
through_is f at x n k e h t =
    rw (e, h) (through_capped (λ (p : ℕ). number_of Big (part f p 2)) 2 (at + 4) (long_of f at) (index_of x) t.some t.most)

pub returns : goal.returns
returns c =
    let a = c.args in
    let pre = c.requires in
    let f = a.file.now in
    c.scaled.ensures ∙ ap scaled_of
    (c.through.ensures ∙ through_is f a.at a.x _ _ pre.1 c.index.ensures pre.0)
