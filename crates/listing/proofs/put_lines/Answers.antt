use mathlib.Core.Path.{◌≡◌}
use Prim.Native.Nat.{◌+◌, ◌-◌, ◌*◌}
use native.Mathlib.Nat.{add-mul, one-mul}
use native.Mathlib.Omega.{arith}
use Rattle.listing.proofs.Lines.{lines_put, lines_next, lines_end}
use Rattle.listing.proofs.put_lines.Goals as goal

pub loop-i-preserved : goal.loop-i-preserved
loop-i-preserved c =
    let l = c.loop-i in
    let m = c.args.width in
    let a = l.i * m in
    let e : (l.i + 1) * m ≡ a + m = omega (arith, add-mul l.i 1 m, one-mul m) in
    let d : a + m - a ≡ m = omega arith in
    lines_next c.args.values.now m c.args.height c.args.text.now l.i a ((l.i + 1) * m) (a + m - a) l.text _ l.end _
    l.invariant c.loop-i-test.true c.requires.0 c.requires.1 e d c.put_line-end.ensures

pub returns : goal.returns
returns c =
    let a = c.args in
    let l = c.loop-i in
    let v = l.invariant in
    let p = lines_put a.values.now a.width a.height a.text.now l.i _ l.text l.end v c.requires.1 in
    (omega (arith, p, v.place, v.same, c.requires.2), lines_end a.values.now a.width a.height a.text.now l.i _ l.text l.end v c.loop-i-test.false)
