use mathlib.Core.Path.{refl, sym, ◌∙◌, subst}
use lib.Dec.{T}
use mathlib.Core.List.{List}
use Prim.Native.Nat.{ℕ, ◌≤◌}
use native.Mathlib.Omega.{arith}
use lib.Ieee.{binary64, to_bits}
use lib.Ieee.Bits.{to_bits-lt}
use Rattle.listing.specs.Facts.Body.{Puts}
use Rattle.listing.proofs.Numerals.{at_most_16, hex_is}
use Rattle.listing.proofs.put_value.Goals as goal

pub put-requires : goal.put-requires
put-requires c =
    let good = c.well_formed in
    let pre = c.requires in
    let d = c.hex-k in
    let a = c.args in
    let k : d.result ≤ 16 = at_most_16 d.result (to_bits binary64 a.x) d.ensures.len
    (to_bits-lt binary64 a.x (subst T (sym good.1.1.0.1) tt)) in
    omega (arith, k, d.ensures.in_bounds.1, pre.0)

pub returns : goal.returns
returns c =
    let good = c.well_formed in
    let put = c.put in
    let d = c.hex-k in
    let a = c.args in
    let k : d.result ≤ 16 = at_most_16 d.result (to_bits binary64 a.x) d.ensures.len
    (to_bits-lt binary64 a.x (subst T (sym good.1.1.0.1) tt)) in
    let e = d.ensures.digits ∙ hex_is d.result (to_bits binary64 a.x) a.x refl d.ensures.len.0 k in
    subst (λ (w : List ℕ). Puts a.text.now a.at w put.new.text put.result) e put.ensures
