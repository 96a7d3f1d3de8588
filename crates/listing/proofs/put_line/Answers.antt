use mathlib.Core.Path.{subst}
use Prim.Native.Nat.{◌+◌, ◌<◌}
use native.Mathlib.Omega.{arith}
use lib.ListN.{length, get_or}
use lib.Ieee.{Float, nan}
use Rattle.listing.specs.Text.{value_text}
use Rattle.listing.specs.Facts.Body.{Puts}
use Rattle.listing.proofs.Numerals.{value_length}
use Rattle.levels.proofs.Unit.{in_unit}
use Rattle.listing.proofs.Lines.{lined_start, lined_next, lined_end, rest_length, rest_at}
use Rattle.listing.proofs.put_line.Goals as goal

pub put_value-end-requires : goal.put_value-end-requires
put_value-end-requires c =
    let pre = c.requires in
    (omega (arith, pre.0, pre.1), (in_unit _ (pre.2 0 pre.0)).not_nan)

pub put-next-requires : goal.put-next-requires
put-next-requires c =
    let x = c.args.values.now in
    let v = c.put_value-end.ensures in
    let l = c.loop-value.invariant in
    omega (arith, l.place, l.same, c.loop-value-test.true, rest_length x, c.requires.1, v.0, v.2, value_length (get_or x 0 nan))

pub put_value-end-requires-in-loop-value : goal.put_value-end-requires-in-loop-value
put_value-end-requires-in-loop-value c =
    let x = c.args.values.now in
    let k = c.loop-value.value-index in
    let v = c.put_value-end.ensures in
    let p = c.put-next.ensures in
    let l = c.loop-value.invariant in
    let h : k + 1 < length x = omega (arith, c.loop-value-test.true, rest_length x) in (
      omega (arith, p.0, p.2, l.place, l.same, h, c.requires.1, v.0, v.2, value_length (get_or x 0 nan)),
      rw (rest_at x k h) (in_unit _ (c.requires.2 (k + 1) h)).not_nan,
    )

pub loop-value-preserved : goal.loop-value-preserved
loop-value-preserved c =
    let x = c.args.values.now in
    let k = c.loop-value.value-index in
    let l = c.loop-value in
    let p = c.put-next in
    let v = c.put_value-end-in-loop-value in
    let h : k + 1 < length x = omega (arith, c.loop-value-test.true, rest_length x) in
    lined_next x _ _ (k + 1) l.text p.new.text v.new.text l.end p.result v.result l.invariant h p.ensures
    (subst (λ (z : Float). Puts p.new.text p.result (value_text z) v.new.text v.result) (rest_at x k h) v.ensures)

pub put-requires : goal.put-requires
put-requires c =
    let x = c.args.values.now in
    let v = c.put_value-end.ensures in
    let l = c.loop-value.invariant in
    omega (arith, l.place, l.same, l.most, c.requires.1, v.0, v.2, value_length (get_or x 0 nan))

pub loop-value-init : goal.loop-value-init
loop-value-init c = lined_start c.args.values.now _ _ c.requires.0

pub returns : goal.returns
returns c =
    let x = c.args.values.now in
    let l = c.loop-value in
    lined_end x c.args.text.now _ l.text _ c.args.at _ (l.value-index + 1) l.end _ c.requires.0 c.put_value-end.ensures l.invariant
    (omega (arith, c.loop-value-test.false, rest_length x)) c.put.ensures
