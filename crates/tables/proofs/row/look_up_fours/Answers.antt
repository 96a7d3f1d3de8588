use mathlib.Core.Path.{◌≡◌, sym, subst}
use Prim.Native.Nat.{ℕ, ◌+◌, ◌*◌, ◌≤◌}
use native.Mathlib.Nat.{mul-mod_right}
use native.Mathlib.Omega.{arith}
use lib.Ieee.{nan}
use lib.ListN.{length}
use Rattle.reading.specs.Bytes.{part}
use Rattle.reading.specs.Number.{number_of}
use Rattle.reading.specs.declared.number.Order.TheVariants as order
use Rattle.samples.specs.Facts.Line.{Filled}
use Rattle.tables.specs.Facts.RowTables.{WordIs}
use Rattle.tables.proofs.FoundLaws.{word_is}
use Rattle.tables.proofs.row.look_up_fours.Goals.{Else-out-lt4}
use Rattle.tables.proofs.row.look_up_fours.Goals as goal

-- a word that was read is its four bytes
word_at : (e : Else-out-lt4) (i w : ℕ) → let f = e.args.bytes.now in
    i + 4 ≤ length f → w ≡ number_of order.Little (part f i 4) → WordIs w f i
word_at e i w h q =
    let f = e.args.bytes.now in
    subst (λ (n : ℕ). WordIs n f i) (sym q)
    (word_is f i (λ k. let b = e.type_inv.bytes k in omega (arith, b)) h)

pub loop-j-init : goal.loop-j-init
loop-j-init c = (
  word_at (goal.at.loop-j-init c).Else-out-lt4 0 c.long-word.result (omega (arith, c.if-out-lt4.false, c.requires)) c.long-word.ensures,
  λ x f k h. absurd (omega arith),
)

pub loop-j-preserved : goal.loop-j-preserved
loop-j-preserved c =
    let e = (goal.at.loop-j-preserved c).Else-out-lt4 in
    let l = c.loop-j in
    let next = c.long-next in
    let four = c.look_up_four in
    let f = e.args.bytes.now in
    let z : 4 * l.j + 4 ≡ 4 * (l.j + 1) = omega arith in (
      subst (λ (n : ℕ). WordIs next.result f n) z (word_at e (4 * l.j + 4) next.result (omega (arith, e.requires)) next.ensures),
      λ x h. subst (λ (n : ℕ). Filled nan x n four.new.out) z
          (four.ensures x f l.invariant.0 (h l.j) (l.invariant.1 x h)),
    )

pub returns : goal.returns
returns c =
    (omega arith, mul-mod_right 4 _, λ x h k b. c.loop-j.invariant.1 x h k (omega arith))
