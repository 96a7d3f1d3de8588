use Rattle.std.proofs.Common.{◌≡◌, ℕ, List, ap, ◌∙◌, arith}
use lib.Ieee.{Float, of_bits}
use Rattle.opcodes.specs.GainMap.{gain_map_of, gain_of}
use Rattle.opcodes.specs.Facts.Bracket.{corners_of}
use Rattle.opcodes.specs.Step.{applied_of}
use Rattle.opcodes.specs.declared.gain_map.Corners.{Corners}
use Rattle.opcodes.specs.declared.gain_map.Bracket.TheVariants.{At}
use Rattle.opcodes.specs.declared.step.Step.TheVariants.{Scale}
use Rattle.board.specs.Board.{bits, quarter, shading, four_by_four}
use Rattle.board.proofs.Shading.{shading_in, four_gains, gain_numbers, gain_there, gained_numbers, values_hold}
use Rattle.board.proofs.gain_map_values.Goals as goal
use Rattle.board.proofs.gain_map_values.Goals.{After-apply-x, After-corners_at-corners, After-gain_at-gain}

-- the corners and the gain, of the bytes that were made
found : {ps : List ℕ} {corners : Corners} → corners ≡ corners_of (gain_map_of ps) (At 0) 0 0 → ps ≡ shading → corners ≡ four_gains
found e p = e ∙ ap (λ (bs : List ℕ). corners_of (gain_map_of bs) (At 0) 0 0) p

gained : {ps : List ℕ} {g : Float} → g ≡ gain_of (gain_map_of ps) four_by_four 1 2 0 → ps ≡ shading → g ≡ gain_there
gained e p = e ∙ ap (λ (bs : List ℕ). gain_of (gain_map_of bs) four_by_four 1 2 0) p

applied : {ps : List ℕ} {g x : Float} → x ≡ applied_of (Scale g) ps quarter → g ≡ gain_there → ps ≡ shading →
    x ≡ applied_of (Scale gain_there) shading quarter
applied e g p = e ∙ rw (g, p)

pub corners_at-corners-requires : goal.corners_at-corners-requires
corners_at-corners-requires c =
    let m = shading_in in
    rw c.gain_map_bytes-ps.ensures (omega (arith, m.down.some), omega (arith, m.planes), omega (arith, m.across.some))

pub invariant_of-map : goal.invariant_of-map
invariant_of-map c = record { accepted = rw c.gain_map_bytes-ps.ensures shading_in }

pub bits_of-requires : goal.bits_of-requires
bits_of-requires c =
    rw (found c.corners_at-corners.ensures c.gain_map_bytes-ps.ensures) gain_numbers.0

pub bits_of-requires-2 : goal.bits_of-requires-2
bits_of-requires-2 c =
    rw (found c.corners_at-corners.ensures c.gain_map_bytes-ps.ensures) gain_numbers.1

pub bits_of-requires-3 : goal.bits_of-requires-3
bits_of-requires-3 c =
    rw (found c.corners_at-corners.ensures c.gain_map_bytes-ps.ensures) gain_numbers.2

pub bits_of-requires-4 : goal.bits_of-requires-4
bits_of-requires-4 c =
    rw (found c.corners_at-corners.ensures c.gain_map_bytes-ps.ensures) gain_numbers.3

pub bits_of-requires-5 : goal.bits_of-requires-5
bits_of-requires-5 c =
    rw (gained c.gain_at-gain.ensures c.gain_map_bytes-ps.ensures) gained_numbers.0

pub bits_of-requires-6 : goal.bits_of-requires-6
unfolding of_bits
bits_of-requires-6 c =
    let p = c.gain_map_bytes-ps.ensures in
    rw (applied c.apply-x.ensures (gained c.gain_at-gain.ensures p) p) gained_numbers.1

pub returns : goal.returns
unfolding of_bits
returns c =
    let bits_of = c.bits_of in
    let bits-of2 = c.bits_of-2 in
    let bits-of3 = c.bits_of-3 in
    let p = c.gain_map_bytes-ps.ensures in
    let e = found c.corners_at-corners.ensures p in
    let g = gained c.gain_at-gain.ensures p in
    let e1 = bits_of.ensures ∙ ap (λ (x : Corners). bits x.upper_left) e in
    let e2 = bits-of2.ensures ∙ ap (λ (x : Corners). bits x.upper_right) e in
    let e3 = bits-of3.ensures ∙ ap (λ (x : Corners). bits x.lower_left) e in
    let e4 = c.bits_of-4.ensures ∙ ap (λ (x : Corners). bits x.lower_right) e in
    rw (e1, e2, e3, e4, c.bits_of-5.ensures ∙ ap bits g, c.bits_of-6.ensures ∙ ap bits (applied c.apply-x.ensures g p))
    values_hold
