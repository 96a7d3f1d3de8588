use Rattle.std.proofs.Common.{ℕ, ◌+◌, ◌-◌, ap, ◌∙◌, arith}
use lib.Ieee.{binary64, of_bits, sub}
use Rattle.opcodes.specs.GainMap.{float_of, between_of}
use Rattle.opcodes.proofs.Places.{float_exact, whole_below, word_below}
use Rattle.opcodes.proofs.BracketLaws.{along_first, along_last, along_between}
use Rattle.opcodes.proofs.gain_map.bracket_at.Goals as goal
use Rattle.opcodes.proofs.gain_map.bracket_at.Goals.{Else-last-p, Start}

pub returns-then-p : goal.returns-then-p
unfolding of_bits
returns-then-p c =
    let h = c.requires.0 in
    (λ g. along_first c.args.points c.args.p g (λ o. omega arith) c.if-p.true, omega arith)

pub returns-then-last-p : goal.returns-then-last-p
unfolding of_bits
returns-then-last-p c =
    let h = c.requires.0 in
    (λ g. along_last c.args.points c.args.p g (λ o. omega arith) c.if-p.false c.if-last-p.true, omega arith)

pub truncating_f64_to_u64-k-requires : goal.truncating_f64_to_u64-k-requires
unfolding of_bits
truncating_f64_to_u64-k-requires c =
    let w = word_below c.args.p (c.args.points - 1) (omega (arith, c.requires.1)) c.requires.2 c.if-p.false c.if-last-p.false in
    record { lower_bound = w.0; upper_bound = w.1 }

pub int_to_float-result : goal.int_to_float-result
unfolding of_bits
int_to_float-result c =
    let w = whole_below c.args.p (c.args.points - 1) (omega (arith, c.requires.1)) c.requires.2 c.if-p.false
    c.if-last-p.false in
    float_exact _ (omega (arith, w, c.requires.1, c.truncating_f64_to_u64-k.ensures))

pub returns : goal.returns
unfolding of_bits
returns c =
    let p = c.args.p in
    let n = c.args.points in
    let h = c.requires.0 in
    let a = c.if-p.false in
    let e = c.truncating_f64_to_u64-k.ensures in
    let w = whole_below p (n - 1) (omega (arith, c.requires.1)) c.requires.2 a c.if-last-p.false in (
      λ g. ap (λ (m : ℕ). between_of (sub binary64 p (float_of m)) (g m) (g (m + 1))) e
          ∙ along_between n p g (λ o. omega arith) a c.if-last-p.false,
      omega (arith, w, e),
    )
