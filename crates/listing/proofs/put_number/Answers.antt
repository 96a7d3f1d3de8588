use mathlib.Core.Path.{◌∙◌, subst}
use mathlib.Core.List.{List, ◌∷◌}
use Prim.Native.Nat.{ℕ, ◌≤◌}
use native.Mathlib.Omega.{arith}
use Rattle.listing.specs.Text.{decimal_of}
use Rattle.listing.specs.Facts.Body.{Puts}
use Rattle.listing.proofs.Numerals.{at_most_20, decimal_is, decimal_length}
use Rattle.listing.proofs.Lines.{puts_two}
use Rattle.listing.proofs.put_number.Goals as goal

pub put-requires : goal.put-requires
put-requires c =
    let good = c.well_formed in
    let pre = c.requires in
    let d = c.decimal-k in
    let w = c.put-end.ensures in
    let a = c.args in
    let k : d.result ≤ 20 = at_most_20 d.result a.n d.ensures.len good.1.1.0.1 in
    omega (arith, k, w.0, w.2, d.ensures.in_bounds.1, pre)

pub returns : goal.returns
returns c =
    let good = c.well_formed in
    let put = c.put-end in
    let put2 = c.put in
    let d = c.decimal-k in
    let a = c.args in
    let k : d.result ≤ 20 = at_most_20 d.result a.n d.ensures.len good.1.1.0.1 in
    let e = d.ensures.digits ∙ decimal_is d.result a.n d.ensures.len k in
    let l = decimal_length d.result a.n d.ensures.len k in
    let p = puts_two _ _ _ _ _ a.at _ _ put.ensures put2.ensures in
    let q : Puts a.text.now a.at (32 ∷ decimal_of a.n) put2.new.text put2.result = subst
    (λ (w : List ℕ). Puts a.text.now a.at (32 ∷ w) put2.new.text put2.result) e p in record { puts = q; upper_bound = omega (arith, q.0, l, k) }
