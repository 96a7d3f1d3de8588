use Rattle.std.proofs.Common.{◌≡◌, ℕ, sym, ap, ◌∙◌, add-zero, arith}
use Rattle.opcodes.specs.Grid.{long_of}
use Rattle.opcodes.specs.OpcodeList.{header_of}
use Rattle.opcodes.specs.declared.list.Header.{Header}
use Rattle.opcodes.proofs.OpcodeLists.{long_part}
use Rattle.opcodes.proofs.list.header_at.Goals as goal

same : {a b d e a' b' d' e' : ℕ} → a ≡ a' → b ≡ b' → d ≡ d' → e ≡ e' →
    ◌≡◌ {A = Header} (record { id = a; version = b; flags = d; length = e }) (record { id = a'; version = b'; flags = d'; length = e' })
same p q r s = cc

pub returns-clause-value : goal.returns-clause-value
unfolding header_of
returns-clause-value c =
    let f = c.args.file.now in
    let a = c.args.at in
    same (c.field.ensures.0 ∙ ap (long_of f) (sym (add-zero a)) ∙ long_part f a 16 0 (omega arith))
    (c.field-2.ensures.0 ∙ long_part f a 16 4 (omega arith))
    (c.field-3.ensures.0 ∙ long_part f a 16 8 (omega arith))
    (c.field-4.ensures.0 ∙ long_part f a 16 12 (omega arith))
