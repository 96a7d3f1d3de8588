-- The board's GainMap: its parameters are accepted, and what is printed of it is no NaN.
-- Assumes nothing.
use Rattle.std.proofs.Common.{◌≡◌, ◌≤◌, true, false, not, T, [], ◌∷◌, pos, refl, arith}
use lib.Ieee.{Float, fin, add, sub, mul, div, lt, le, of_int, to_unsigned, of_bits, to_bits, is_nan}
use Rattle.reading.specs.Number.{number_of, big_of}
use Rattle.reading.specs.Reading.{pick}
use Rattle.reading.specs.Real.{real_of}
use Rattle.levels.specs.Clip.{clip_of}
use Rattle.opcodes.specs.Grid.{grid_of, fits_of}
use Rattle.opcodes.specs.Step.{result_of, applied_of}
use Rattle.opcodes.specs.GainMap.{place_of, whole_of, rest_of, between_of, along_of, gain_of, gain_map_of, gain_map_legal}
use Rattle.opcodes.specs.Facts.Bracket.{GainMapIn, corners_of}
use Rattle.opcodes.specs.OpcodeList.{refused_in, gain_map_fault}
use Rattle.opcodes.specs.declared.gain_map.Corners.{Corners}
use Rattle.opcodes.specs.declared.gain_map.Bracket.TheVariants.{At}
use Rattle.opcodes.specs.declared.step.Step.TheVariants.{Scale}
use Rattle.opcodes.proofs.GainMaps.{map_accepted}
use Rattle.board.specs.Board.{bits, board, example, quarter, shading, four_by_four, row_place, column_place}

no_fault : gain_map_fault four_by_four shading ≡ 0
unfolding gain_map_fault gain_map_legal refused_in grid_of fits_of number_of big_of real_of of_bits lt pick
no_fault = refl

pub shading_in : GainMapIn shading
shading_in = (map_accepted four_by_four shading no_fault).map

-- a number, and one whose whole part can be taken
abbrev pub Number : Float → Type 0
Number x = T (not (is_nan x))

abbrev pub Counted : Float → Type 0
Counted p = T (lt (fin true 1 (pos 0)) p) × T (lt p (fin false 1 (pos 64))) × (whole_of p ≤ 65536)

pub row_number : Number row_place × Number (rest_of row_place)
unfolding is_nan place_of gain_map_of number_of big_of real_of of_bits of_int to_unsigned add sub div
row_number = (tt, tt)

pub column_number : Number column_place × Number (rest_of column_place)
unfolding is_nan place_of gain_map_of number_of big_of real_of of_bits of_int to_unsigned add sub div
column_number = (tt, tt)

pub row_counted : Counted row_place
unfolding lt place_of gain_map_of number_of big_of real_of of_bits of_int to_unsigned add sub div
row_counted = (tt, tt, omega arith)

pub column_counted : Counted column_place
unfolding lt place_of gain_map_of number_of big_of real_of of_bits of_int to_unsigned add sub div
column_counted = (tt, tt, omega arith)

abbrev pub four_gains : Corners
four_gains = corners_of (gain_map_of shading) (At 0) 0 0

abbrev pub gain_there : Float
gain_there = gain_of (gain_map_of shading) four_by_four 1 2 0

pub gain_numbers :
    Number four_gains.upper_left × Number four_gains.upper_right × Number four_gains.lower_left
    × Number four_gains.lower_right
unfolding is_nan corners_of gain_map_of number_of big_of real_of of_bits pick
gain_numbers = (tt, tt, tt, tt)

pub gained_numbers : Number gain_there × Number (applied_of (Scale gain_there) shading quarter)
unfolding is_nan applied_of result_of clip_of gain_of along_of between_of place_of gain_map_of number_of big_of real_of of_bits of_int to_unsigned add sub
    mul div le pick
gained_numbers = (tt, tt)

pub values_hold :
    bits four_gains.upper_left ∷ bits four_gains.upper_right ∷ bits four_gains.lower_left ∷ bits four_gains.lower_right
    ∷ bits gain_there ∷ bits (applied_of (Scale gain_there) shading quarter) ∷ [] ≡ example 12
unfolding board example corners_of applied_of result_of clip_of gain_of along_of between_of place_of gain_map_of number_of big_of real_of of_bits to_bits
    of_int to_unsigned
    add sub mul div le pick
values_hold = refl
