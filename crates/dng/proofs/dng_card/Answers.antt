use mathlib.Core.Path.{◌≡◌, ap, ◌∙◌}
use Rattle.demand.specs.Card.{card_shown, card_call}
use Rattle.dng.specs.Interface.{numbers_of}
use Rattle.dng.proofs.Answered.{card_told}
use Rattle.dng.proofs.dng_card.Goals as goal

pub returns : goal.returns
unfolding numbers_of
returns c =
    let n = c.told-number in
    let e : card_shown n.result.0 n.result.1 c.unwrap_or-card.result ≡ card_call c.args.file.now =
    rw (n.ensures.0, n.ensures.2, c.unwrap_or-card.ensures) (card_told c.card-answer.result c.no_card.result c.no_card.ensures)
    ∙ c.card-answer.ensures.value in
    ap numbers_of e
