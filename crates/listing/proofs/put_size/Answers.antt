use mathlib.Core.List.{[], ◌∷◌}
use Rattle.listing.specs.Text.{decimal_of, frame_word, frame_text}
use Rattle.listing.proofs.Lines.{puts_two, puts_whole}
use Rattle.listing.proofs.put_size.Goals as goal

pub returns : goal.returns
returns c =
    let a = c.args in
    let put = c.put-a in
    let put-number = c.put_number-b in
    let put-number2 = c.put_number-c in
    let put-number3 = c.put_number-d in
    puts_whole a.text.now _ (frame_text a.size) _
    (puts_two a.text.now _ _ frame_word _ 0 _ _ put.ensures
    (puts_two _ _ _ (32 ∷ decimal_of a.size.rows) _ _ _ _ put-number.ensures.puts
    (puts_two _ _ _ (32 ∷ decimal_of a.size.columns) _ _ _ _ put-number2.ensures.puts
    (puts_two _ _ _ (32 ∷ decimal_of a.size.samples) (10 ∷ []) _ _ _ put-number3.ensures.puts c.put.ensures))))
