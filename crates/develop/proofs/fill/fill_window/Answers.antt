use mathlib.Core.Path.{◌≡◌, ap, ◌∙◌}
use Prim.Native.Nat.{ℕ, ◌+◌, ◌-◌, ◌*◌, ◌≤◌, ◌<◌}
use borrow.Author.Rules.{rules}
use native.Mathlib.Nat.{zero-mul, add-mul, mul-le-mul_right, min-eq_left, min-eq_right}
use native.Mathlib.Omega.{arith}
use Rattle.develop.specs.Calls.{alone_in}
use Rattle.develop.proofs.Windows.{upto_values, viewed_sized, fill_same}
use Rattle.develop.proofs.fill.fill_window.Goals as goal

pub loop-from-init : goal.loop-from-init
loop-from-init c q r k h l = absurd (omega (arith, zero-mul c.args.view.size.samples))

pub loop-from-preserved : goal.loop-from-preserved
loop-from-preserved c q i k h b =
    let l = c.loop-from in
    let n = c.args.view.size.samples in
    let most = c.columns_at_once-most.result in
    let e : c.min-count.result ≡ most = c.min-count.ensures ∙ min-eq_left (omega (arith, c.if-most-width.true)) in
    let d : k < l.from * n + c.min-count.result * n = rw e (omega (arith, add-mul l.from most n)) in
    c.fill_part.ensures (fill_same c.args.file.now c.args.view c.args.window c.args.out.now l.out l.auto.out q) (l.invariant q) i k h d

pub returns : goal.returns
returns c q =
    let l = c.loop-from in
    let n = c.args.view.size.samples in
    let w = c.args.window in
    let e : w.width * n ≤ l.from * n = mul-le-mul_right n c.loop-from-test.false in
    upto_values (alone_in c.args.file.now q.file.file) w n l.out (viewed_sized c.args.file.now c.args.view q.file).some
    (l.auto.out ∙ q.length_is) (λ r k h b. l.invariant q r k h (omega (arith, e)))

pub returns-2 : goal.returns-2
returns-2 c q =
    let l = c.loop-from in
    let n = c.args.view.size.samples in
    let w = c.args.window in
    let m = c.min-count.result in
    let e : m ≡ w.width - l.from = c.min-count.ensures ∙ min-eq_right (omega (arith, c.if-most-width.false)) in
    let s : (l.from + m) * n ≡ w.width * n = ap (λ (k : ℕ). k * n) (omega (arith, e, c.loop-from-test.true)) in
    let same = fill_same c.args.file.now c.args.view w c.args.out.now l.out l.auto.out q in
    upto_values (alone_in c.args.file.now q.file.file) w n c.fill_part.new.out (viewed_sized c.args.file.now c.args.view q.file).some
    (search rules) (λ r k h b. c.fill_part.ensures same (l.invariant q) r k h (omega (arith, add-mul l.from m n, s)))
