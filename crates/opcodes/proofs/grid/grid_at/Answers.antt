use Rattle.std.proofs.Common.{◌≡◌, ℕ, sym, ap, ◌∙◌, add-zero, arith}
use Rattle.opcodes.specs.Grid.{long_of, grid_of}
use Rattle.opcodes.specs.declared.grid.Grid.{Grid}
use Rattle.opcodes.proofs.OpcodeLists.{long_part}
use Rattle.opcodes.proofs.grid.grid_at.Goals as goal

same : {a b d e i j k l a' b' d' e' i' j' k' l' : ℕ} → a ≡ a' → b ≡ b' → d ≡ d' → e ≡ e' → i ≡ i' → j ≡ j' → k ≡ k' → l ≡ l' →
    ◌≡◌ {A = Grid} (record { top = a; left = b; bottom = d; right = e; plane = i; planes = j; row_pitch = k; column_pitch = l })
    (record { top = a'; left = b'; bottom = d'; right = e'; plane = i'; planes = j'; row_pitch = k'; column_pitch = l' })
same p q r s t u v w = cc

pub returns : goal.returns
unfolding grid_of
returns c =
    let args = c.args in
    let field = c.field in
    let field2 = c.field-2 in
    let field3 = c.field-3 in
    let field4 = c.field-4 in
    let field5 = c.field-5 in
    let field6 = c.field-6 in
    let f = args.file.now in
    let a = args.at in record {
      by_index = λ n h. same (field.ensures.0 ∙ ap (long_of f) (sym (add-zero a)) ∙ long_part f a n 0 (omega arith))
          (field2.ensures.0 ∙ long_part f a n 4 (omega arith)) (field3.ensures.0 ∙ long_part f a n 8 (omega arith))
          (field4.ensures.0 ∙ long_part f a n 12 (omega arith)) (field5.ensures.0 ∙ long_part f a n 16 (omega arith))
          (field6.ensures.0 ∙ long_part f a n 20 (omega arith)) (c.field-7.ensures.0 ∙ long_part f a n 24 (omega arith))
          (c.field-8.ensures.0 ∙ long_part f a n 28 (omega arith));
      plane_bound = (field5.ensures.1, field6.ensures.1, c.field-7.ensures.1, c.field-8.ensures.1);
    }
