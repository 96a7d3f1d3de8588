use mathlib.Core.Path.{◌≡◌, ap, ◌∙◌}
use native.Mathlib.Omega.{arith}
use Rattle.chain.specs.Chain.{ChainAnswer, Chained, slices, answer_shown, chain_call}
use Rattle.chain.proofs.ChainLaws.{chain_few}
use Rattle.demand.proofs.Refusals.{chain_fits}
use Rattle.dng.specs.Interface.{chain_numbers_of, number_in, detail_in}
use Rattle.dng.proofs.Answered.{chain_small, chain_told}
use Rattle.dng.proofs.dng_chain.Goals as goal
use Rattle.dng.proofs.dng_chain.Goals.{After-unwrap_or-chain}

-- what is shown is the call's
shown : (c : After-unwrap_or-chain) → let a = c.args in
    let r = c.chain-answer.result in
    answer_shown (number_in r) (detail_in r) c.unwrap_or-chain.result
    ≡ (chain_call a.file.now a.row a.column a.plane (slices a.places.now a.ids.now a.«before».now a.after.now a.skipped.now)).answer
shown c =
    rw c.unwrap_or-chain.ensures (chain_told c.chain-answer.result c.no_chain.result c.no_chain.ensures)
    ∙ ap (λ (x : Chained). x.answer) c.chain-answer.ensures.skipped_after

pub chain_numbers-requires : goal.chain_numbers-requires
chain_numbers-requires c =
    let a = c.args in
    let e = shown c in
    let f = chain_few a.file.now a.row a.column a.plane (slices a.places.now a.ids.now a.«before».now a.after.now a.skipped.now) in
    (omega (arith, ap (λ (x : ChainAnswer). x.covering) e, f.0), omega (arith, ap (λ (x : ChainAnswer). x.skipped) e, f.1))

pub packed-requires : goal.packed-requires
packed-requires c =
    let n = c.chain-answer.new in
    chain_small c.chain-answer.result (slices n.places n.ids n.«before» n.after n.skipped) _ c.chain-answer.ensures.skipped_after (chain_fits _ _ _ _ _)

pub returns-clause-numbers_after : goal.returns-clause-numbers_after
unfolding chain_numbers_of
returns-clause-numbers_after c =
    let e = shown (goal.at.returns-clause-numbers_after c).After-unwrap_or-chain in
    (c.chain_numbers.ensures ∙ ap chain_numbers_of e, ap (λ (x : ChainAnswer). x.value) e)
