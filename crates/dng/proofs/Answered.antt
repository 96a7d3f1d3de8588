-- What is shown of an answer, and that its detail has 32 bits.
-- Assumes nothing.
use mathlib.Core.Path.{◌≡◌, refl, ap}
use mathlib.Core.List.{List}
use Prim.Native.Nat.{ℕ, ◌<◌}
use native.Mathlib.Omega.{arith}
use lib.Ieee.{Float}
use Rattle.std.specs.Prelude.{Result, Ok, Err}
use Rattle.std.specs.Result.{result_unwrap_or}
use Rattle.levels.specs.Clip.{plus_zero}
use Rattle.directory.specs.Refusal.{number_of, detail_of}
use Rattle.directory.specs.declared.refusal.Refusal.{Refusal}
use Rattle.directory.proofs.Refusals.{Fits}
use Rattle.develop.specs.Calls.{Window, window_with, SpotAnswer, spot_with}
use Rattle.chain.specs.Chain.{Slices, Chained, refused_answer, answer_shown, answer_of, chained_with}
use Rattle.chain.specs.declared.SpotChain.{SpotChain}
use Rattle.demand.specs.Card.{refused_card, card_shown, card_with}
use Rattle.demand.specs.declared.card.FileCard.{FileCard}
use Rattle.dng.specs.Interface.{packed_of, number_in, detail_in}

pub window_small : (r : Result (Unit {0}) Refusal) (xs : List Float) (w : Window) → window_with r xs ≡ w → Fits w.number w.detail →
    detail_in r < 0x1_0000_0000
window_small (Ok u) xs w e h = omega arith
window_small (Err q) xs w e h = omega (arith, ap (λ (s : Window). s.detail) e, h.1)

pub spot_small : (r : Result Float Refusal) (w : SpotAnswer) → spot_with r ≡ w → Fits w.number w.detail → detail_in r < 0x1_0000_0000
spot_small (Ok x) w e h = omega arith
spot_small (Err q) w e h = omega (arith, ap (λ (s : SpotAnswer). s.detail) e, h.1)

pub chain_small : (r : Result SpotChain Refusal) (s : Slices) (w : Chained) → chained_with r s ≡ w → Fits w.answer.number w.answer.detail →
    detail_in r < 0x1_0000_0000
chain_small (Ok x) s w e h = omega arith
chain_small (Err q) s w e h = omega (arith, ap (λ (k : Chained). k.answer.detail) e, h.1)

pub card_told : (r : Result FileCard Refusal) (z : FileCard) → ((n d : ℕ) → card_shown n d z ≡ refused_card n d) →
    card_shown (number_in r) (detail_in r) (result_unwrap_or r z) ≡ card_with r
card_told (Ok c) z h = refl
card_told (Err q) z h = h (number_of q) (detail_of q)

pub chain_told : (r : Result SpotChain Refusal) (z : SpotChain) → ((n d : ℕ) → answer_shown n d z ≡ refused_answer n d) →
    answer_shown (number_in r) (detail_in r) (result_unwrap_or r z) ≡ answer_of r
chain_told (Ok c) z h = refl
chain_told (Err q) z h = h (number_of q) (detail_of q)

-- number, detail and slice of a window, told as its answer has them
pub window_told : (r : Result (Unit {0}) Refusal) (xs : List Float) (w : Window) → window_with r xs ≡ w →
    (packed_of (number_in r) (detail_in r) ≡ packed_of w.number w.detail) × (xs ≡ w.slice)
window_told (Ok u) xs w e = (ap (λ (s : Window). packed_of s.number s.detail) e, ap (λ (s : Window). s.slice) e)
window_told (Err q) xs w e = (ap (λ (s : Window). packed_of s.number s.detail) e, ap (λ (s : Window). s.slice) e)

pub spot_told : (r : Result Float Refusal) (w : SpotAnswer) → spot_with r ≡ w →
    (packed_of (number_in r) (detail_in r) ≡ packed_of w.number w.detail) × (result_unwrap_or r plus_zero ≡ w.value)
spot_told (Ok x) w e = (ap (λ (s : SpotAnswer). packed_of s.number s.detail) e, ap (λ (s : SpotAnswer). s.value) e)
spot_told (Err q) w e = (ap (λ (s : SpotAnswer). packed_of s.number s.detail) e, ap (λ (s : SpotAnswer). s.value) e)
