-- For every file and all arguments, a call's number is below 20 and its detail below 2^32.
-- Assumes nothing.
use mathlib.Core.List.{List}
use Prim.Native.Nat.{ℕ}
use lib.Dec.{lit<}
use lib.Ieee.{Float}
use lib.ListN.{length}
use Rattle.reading.specs.Reading.{run}
use Rattle.directory.specs.Out.{Out, Out.refused, Out.is}
use Rattle.directory.proofs.Refusals.{Fits, SmallRefusal, SmallRefusals, smalls, small_run, either}
use Rattle.raw.specs.declared.front.Picture.{Picture}
use Rattle.raw.proofs.Refusals.{front_small, pattern_small}
use Rattle.opcodes.specs.declared.grid.Size.{Size}
use Rattle.opcodes.proofs.Refusals.{list_small}
use Rattle.colour.specs.declared.Colour.{Colour}
use Rattle.colour.proofs.Refusals.{colour_small}
use Rattle.develop.specs.Calls.{Opened, open_reading, opened, colour_for, SpotAnswer, spot_of, spot_call, Window, filled_of}
use Rattle.demand.specs.Card.{card_of, card_call}
use Rattle.chain.specs.Chain.{Slices, Chained, chain_in, chain_call}
use Rattle.half.specs.Half.{half_for, halved_of, half_window_of, half_window_call}
use Rattle.develop.specs.Calls.{window_of, window_call, coloured_of, colour_window_of, colour_window_call}
use Rattle.half.specs.declared.half_window.Half.{Half}

-- ---- what is read

open_small : (size : ℕ) → SmallRefusals (open_reading size)
unfolding open_reading
open_small size = search (smalls, front_small, list_small) depth 8

opened_small : (f : List ℕ) → SmallRefusal (opened f)
unfolding opened
opened_small f = small_run _ (open_small (length f)) f

colour_for_small : (p : Picture) → SmallRefusals (colour_for p)
colour_for_small p = search (smalls, colour_small) depth 8

half_for_small : (p : Picture) → SmallRefusals (half_for p)
unfolding half_for
half_for_small p = search (smalls, colour_small, pattern_small) depth 8

-- ---- the calls

pub card_fits : (f : List ℕ) → Fits (card_call f).number (card_call f).detail
card_fits f = go (opened f) (opened_small f)
  where
    go : (r : Out Opened) → SmallRefusal r → Fits (card_of r).number (card_of r).detail
    go (refused n d) h = h
    go (is o) h = (lit< tt, lit< tt)

pub spot_fits : (f : List ℕ) (r c p : ℕ) → Fits (spot_call f r c p).number (spot_call f r c p).detail
spot_fits f r c p = go (opened f) (opened_small f)
  where
    go : (o : Out Opened) → SmallRefusal o → Fits (spot_of f r c p o).number (spot_of f r c p o).detail
    go (refused n d) h = h
    go (is o) h = either (λ (s : SpotAnswer). Fits s.number s.detail) _ _ _ (lit< tt, lit< tt) (lit< tt, lit< tt)

pub chain_fits : (f : List ℕ) (r c p : ℕ) (old : Slices) → Fits (chain_call f r c p old).answer.number (chain_call f r c p old).answer.detail
chain_fits f r c p old = go (opened f) (opened_small f)
  where
    fits : Chained → Type 0
    fits x = Fits x.answer.number x.answer.detail

    go : (o : Out Opened) → SmallRefusal o → Fits (chain_in f r c p old o).answer.number (chain_in f r c p old o).answer.detail
    go (refused n d) h = h
    go (is o) h = either fits _ _ _ (either fits _ _ _ (lit< tt, lit< tt) (lit< tt, lit< tt)) (lit< tt, lit< tt)

abbrev FitsWindow : Window → Type 0
FitsWindow s = Fits s.number s.detail

filled_fits : (z : Size) (n t l h w : ℕ) (old : List Float) (x : ℕ → ℕ → ℕ → Float) → FitsWindow (filled_of z n t l h w old x)
unfolding filled_of
filled_fits z n t l h w old x = either FitsWindow _ _ _ (either FitsWindow _ _ _ (lit< tt, lit< tt) (lit< tt, lit< tt)) (lit< tt, lit< tt)

module _ (f : List ℕ) (t l h w : ℕ) (old : List Float) where
  pub window_fits : Fits (window_call f t l h w old).number (window_call f t l h w old).detail
  window_fits = go (opened f) (opened_small f)
    where
      go : (r : Out Opened) → SmallRefusal r → FitsWindow (window_of f t l h w old r)
      go (refused n d) s = s
      go (is o) s = filled_fits _ _ t l h w old _

  pub colour_window_fits : Fits (colour_window_call f t l h w old).number (colour_window_call f t l h w old).detail
  colour_window_fits = go (opened f) (opened_small f)
    where
      coloured : (o : Opened) (m : Out Colour) → SmallRefusal m → FitsWindow (coloured_of f t l h w old o m)
      coloured o (refused n d) s = s
      coloured o (is m) s = filled_fits _ _ t l h w old _

      go : (r : Out Opened) → SmallRefusal r → FitsWindow (colour_window_of f t l h w old r)
      go (refused n d) s = s
      go (is o) s = coloured o (run f (colour_for o.picture)) (small_run _ (colour_for_small o.picture) f)

  pub half_window_fits : Fits (half_window_call f t l h w old).number (half_window_call f t l h w old).detail
  half_window_fits = go (opened f) (opened_small f)
    where
      halved : (o : Opened) (m : Out Half) → SmallRefusal m → FitsWindow (halved_of f t l h w old o m)
      halved o (refused n d) s = s
      halved o (is m) s = filled_fits _ _ t l h w old _

      go : (r : Out Opened) → SmallRefusal r → FitsWindow (half_window_of f t l h w old r)
      go (refused n d) s = s
      go (is o) s = halved o (run f (half_for o.picture)) (small_run _ (half_for_small o.picture) f)
