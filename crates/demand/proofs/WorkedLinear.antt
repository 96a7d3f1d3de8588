-- A small LinearRaw file that meets what demand 3 asks of a change: colour windows of it are accepted, and each of its stored samples
-- may change.
use mathlib.Core.Path.{◌≡◌, refl, sym, ap, ◌∙◌}
use mathlib.Core.Bool.{false}
use mathlib.Core.List.{List, [], ◌∷◌}
use Prim.Native.Nat.{ℕ, ◌+◌, ◌*◌, ◌≤◌, ◌<◌}
use native.Mathlib.Omega.{arith}
use lib.Ieee.{Float}
use lib.ListN.{length, get_or}
use Rattle.reading.specs.Bytes.{replaced}
use Rattle.reading.specs.Reading.{trace, pick, reads, trace_whole}
use Rattle.reading.specs.declared.number.Order.TheVariants.{Little}
use Rattle.directory.specs.Out.{Out, Out.is}
use Rattle.raw.specs.Front.{front_reading}
use Rattle.raw.specs.Stored.{Stored, stored_reading}
use Rattle.raw.specs.Sample.{cell_of, ActiveIn}
use Rattle.colour.specs.declared.Colour.{Colour}
use Rattle.develop.specs.Calls.{Opened, opened, opcodes_of, colour_for, frame_of, pixel_in, filled_of, coloured_of}
use Rattle.half.specs.Half.{half_for}
use Rattle.develop.specs.Calls.{colour_window_of, colour_window_call}
use Rattle.demand.specs.Demand.{stored_place, NotInTags, UnreadButSample, SameElsewhere, Demand3}
use Rattle.develop.proofs.Views.{open_is}
use Rattle.demand.proofs.Demands.{meets_demand_3}
use Rattle.demand.proofs.Linear.{unit_colour, file, found, picture, stored, held}
use Rattle.demand.proofs.Worked.{fronts, lists, values, colours, unread_in, missed}

pub accepted : is held ≡ opened file
accepted =
    ap {B = Out Opened} (λ (s : Stored). is (record { picture = picture; opcodes = []; stored = s })) values.1.answer
    ∙ open_is file picture fronts.1.answer [] lists.1.answer

pub coloured : (old : List Float) → length old ≡ 6 → (colour_window_call file 0 0 1 2 old).number ≡ 0
unfolding filled_of pick
coloured old h =
    ap (λ (o : Out Opened). (colour_window_of file 0 0 1 2 old o).number) (sym accepted)
    ∙ ap (λ (m : Out Colour). (coloured_of file 0 0 1 2 old held m).number) (sym colours.1.answer)
    ∙ rw h refl

-- ---- what is not read
no_half : (i : ℕ) → reads (trace file (half_for picture)) i ≡ false
unfolding half_for pick trace reads
no_half i = refl

not_in_tags : (i : ℕ) → 218 ≤ i → i < 230 → NotInTags file held i
not_in_tags i a b = (
  unread_in 218 230 (trace_whole file front_reading) fronts.1.unread i a b,
  unread_in 218 230 (trace file (stored_reading Little found)) values.1.unread i a b,
  unread_in 218 230 (trace file (colour_for picture)) colours.1.unread i a b,
  no_half i,
)

-- the stored samples are the active ones
stored_at : (c p : ℕ) → stored_place held 0 c p ≡ 218 + 6 * c + 2 * p
stored_at c p = omega arith

active_at : (r c p : ℕ) → ActiveIn found r c p → (cell_of found stored.offsets r c p).start ≡ 218 + 6 * c + 2 * p
active_at r c p a =
    let er : r ≡ 0 = omega (arith, a.row) in
    let ec : 0 + c ≡ c = omega arith in
    rw (er, ec) (stored_at c p)

change_unread : (c p : ℕ) → c < 2 → p < 3 → UnreadButSample file held 0 c p
change_unread c₀ p₀ g h i a b =
    let e = stored_at c₀ p₀ in
    let lo : 218 + 6 * c₀ + 2 * p₀ ≤ i = omega (arith, e, a) in
    let hi : i < 220 + 6 * c₀ + 2 * p₀ = omega (arith, e, b) in (
      not_in_tags i (omega arith) (omega arith),
      unread_in 218 230 (trace file (opcodes_of picture)) lists.1.unread i (omega arith) (omega arith),
      λ r c p act other. missed _ i (λ x y.
          let s = active_at r c p act in
          let k = act.plane in
          let ec : c ≡ c₀ = omega (arith, s, x, y) in
          let ep : p ≡ p₀ = omega (arith, s, x, y) in
          other ((omega (arith, act.row), omega arith), ep)),
    )

-- ---- a stored sample changes
pub demanded : Demand3 file held
demanded = meets_demand_3 file held accepted

abbrev with_sample : ℕ → ℕ → ℕ → ℕ → List ℕ
with_sample c p x y = replaced file (stored_place held 0 c p) (x ∷ y ∷ [])

pub changed : (c p x y : ℕ) → c < 2 → p < 3 → SameElsewhere file held 0 c p (with_sample c p x y)
changed c p x y g h = demanded.changes 0 c p (omega arith) g h (x ∷ y ∷ []) refl (change_unread c p g h)

-- one of the left pixel: the right pixel's colour stays
pub pixel_stays : (p x y k : ℕ) → p < 3 →
    pixel_in unit_colour (frame_of (with_sample 0 p x y) held) 0 1 k ≡ pixel_in unit_colour (frame_of file held) 0 1 k
pixel_stays p x y k h =
    (changed 0 p x y (omega arith) h).pixels unit_colour colours.1.answer 0 1 (omega arith) (omega arith) (λ i. omega (arith, i.1)) k

-- in a window of its own
pub window_stays : (p x y : ℕ) (old : List Float) → p < 3 →
    colour_window_call (with_sample 0 p x y) 0 1 1 1 old ≡ colour_window_call file 0 1 1 1 old
window_stays p x y old h = (changed 0 p x y (omega arith) h).colour_windows 0 1 1 1 old (λ r c a b d e i. omega (arith, i.1))

-- and in one that holds both: its X, Y, Z, and whatever is behind them
pub places_stay : (p x y k : ℕ) (old : List Float) (d : Float) → p < 3 → 3 ≤ k →
    get_or (colour_window_call (with_sample 0 p x y) 0 0 1 2 old).slice k d ≡ get_or (colour_window_call file 0 0 1 2 old).slice k d
places_stay p x y k old d h g =
    (changed 0 p x y (omega arith) h).colour_window_places 0 0 1 2 old k d (λ i. omega (arith, i.0, i.1))
