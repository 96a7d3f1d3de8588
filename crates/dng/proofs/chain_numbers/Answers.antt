use mathlib.Core.Path.{refl}
use Prim.Native.Nat.{◌^◌, ◌<◌}
use native.Mathlib.Omega.{arith}
use mir.Syntax.{w64}
use mir.Val.{SFits}
use mir.Facts.{to_z_pos, to_z-of_z}
use Rattle.dng.specs.Interface.{chain_numbers_of}
use borrow.Author.Rules.{rules}
use Rattle.dng.proofs.chain_numbers.Goals as goal
use Rattle.dng.proofs.chain_numbers.Goals.{Start}

-- L has 16 bits
low : (s : Start) → s.args.chain.levels.level < 2 ^ 63
low s = omega arith

pub returns : goal.returns
unfolding chain_numbers_of
returns c =
    let s = (goal.at.returns c).Start in
    let a = s.args.chain in
    let n = a.levels in
    let stored : n.stored < 2 ^ 63 = omega arith in
    let value : n.table_value < 2 ^ 63 = omega arith in
    let level = low (goal.at.returns c).Start in
    let covering : a.covering < 2 ^ 63 = omega (arith, s.requires.0) in
    let skipped : a.skipped < 2 ^ 63 = omega (arith, s.requires.1) in
    let cell : SFits w64 n.cell = search rules in
    let across : SFits w64 n.column_delta = search rules in
    let down : SFits w64 n.row_delta = search rules in
    let black : SFits w64 n.black = search rules in
    let greatest : SFits w64 n.greatest_black = search rules in
    rw (
      to_z_pos w64 stored,
      to_z_pos w64 value,
      to_z_pos w64 level,
      to_z_pos w64 covering,
      to_z_pos w64 skipped,
      to_z-of_z cell,
      to_z-of_z across,
      to_z-of_z down,
      to_z-of_z black,
      to_z-of_z greatest,
    ) refl
