use mathlib.Core.List.{[], ◌∷◌}
use mathlib.Core.Path.{ap, ◌∙◌}
use Prim.Native.Nat.{ℕ}
use Rattle.directory.specs.Refusal.{number_of}
use Rattle.listing.specs.Text.{decimal_of, refused_word, refused_text}
use Rattle.listing.proofs.Lines.{puts_two, puts_whole}
use Rattle.listing.proofs.put_refusal.Goals as goal

pub returns : goal.returns
returns c =
    let a = c.args in
    let b = c.put_number-b.ensures.puts in
    let d = c.put_number-c.ensures.puts in
    let n = c.number in
    let m = c.detail in
    let p = puts_whole a.text.now _ (refused_text n.result m.result) _
    (puts_two a.text.now _ _ refused_word _ 0 _ _ c.put-a.ensures
    (puts_two _ _ _ (32 ∷ decimal_of n.result) _ _ _ _ b (puts_two _ _ _ (32 ∷ decimal_of m.result) (10 ∷ []) _ _ _ d c.put.ensures))) in
    (p.0, p.1 ∙ ap (λ (k : ℕ). refused_text k m.result) n.ensures.0 ∙ ap (refused_text (number_of a.refusal)) m.ensures)
