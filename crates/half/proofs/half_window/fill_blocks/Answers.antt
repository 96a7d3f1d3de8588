use mathlib.Core.Path.{◌≡◌, ◌∙◌}
use Prim.Native.Nat.{◌+◌, ◌-◌, ◌*◌, ◌<◌}
use native.Mathlib.Nat.{min-eq_left, min-eq_right}
use native.Mathlib.Omega.{arith}
use borrow.Author.Rules.{rules}
use Rattle.half.specs.Half.{block_in}
use Rattle.develop.specs.Calls.{alone_in}
use Rattle.develop.proofs.Windows.{upto_values}
use Rattle.half.proofs.half_window.fill_blocks.Goals as goal

pub loop-from-init : goal.loop-from-init
loop-from-init c q r k h l = absurd (omega arith)

pub loop-from-preserved : goal.loop-from-preserved
loop-from-preserved c q i k h b =
    let e : c.min-count.result ≡ 512 = c.min-count.ensures ∙ min-eq_right (omega (arith, c.if-width-from-gt512.true)) in
    c.fill_stretch.ensures q (c.loop-from.invariant q) i k h (omega (arith, e))

pub returns : goal.returns
returns c q =
    let l = c.loop-from in
    upto_values (block_in c.args.half (alone_in c.args.file.now q.file)) c.args.blocks 3 l.out (omega arith)
    (l.auto.out ∙ c.requires.0.length_is) (λ r k h b. l.invariant q r k h (omega (arith, c.loop-from-test.false)))

pub returns-2 : goal.returns-2
returns-2 c q =
    let l = c.loop-from in
    let w = c.args.blocks in
    let e : c.min-count.result ≡ w.width - l.from = c.min-count.ensures ∙ min-eq_left (omega (arith, c.if-width-from-gt512.false)) in
    upto_values (block_in c.args.half (alone_in c.args.file.now q.file)) w 3 c.fill_stretch.new.out (omega arith) (search rules)
    (λ r k h b. c.fill_stretch.ensures q (l.invariant q) r k h (omega (arith, e, c.loop-from-test.true)))
