-- The mean of two developed values is one: from +0.0 to 1.
-- Assumes nothing.
use mathlib.Core.Path.{◌≡◌, refl, sym, ◌∙◌, subst}
use mathlib.Core.Bool.{true, false}
use Prim.Native.Nat.{ℕ, ◌+◌, ◌*◌, ◌^◌, ◌≤◌, ◌<◌}
use native.Mathlib.Nat.{mul-one, one-mul, mul-pos, zero-lt-suc, mul_comm}
use native.Mathlib.Omega.{arith}
use lib.IntN.{pos}
use lib.Dec.{T}
use lib.Ieee.{Float, nan, inf, fin, binary64, up, down, round, add, mul, le}
use lib.Ieee.Fits.{down_pos}
use lib.Ieee.Exact.{HasValue}
use lib.Ieee.Order.{round_mono}
use lib.Ieee.Scale.{grid}
use Rattle.colour.specs.Facts.Bounds.{Within, Plus, Developed}
use Rattle.colour.specs.Pixel.{half, mean_of}
use Rattle.colour.proofs.Magnitudes.{Exact, exact_0, exact_1, below_power, round_within, round_value, mul_opened, add_opened}
use Rattle.colour.proofs.Magnitudes.{sum_opened, summed}
use Rattle.colour.proofs.FinitePixel.{unit_within}

plus_of : (x : Float) (a c : ℕ) → HasValue x false a c → Plus x
plus_of nan a c h = absurd h
plus_of (inf s) a c h = absurd h
plus_of (fin true m e) a c h = absurd (let n : ◌≡◌ {A = ℕ} 0 1 = cc in omega arith)
plus_of (fin false m e) a c h = tt

-- what is rounded from a fraction up to a power of two
round_plus : (j : ℕ) → Exact j → (a c : ℕ) → 0 < c → a ≤ 2 ^ j * c → Plus (round binary64 false a c)
round_plus j x a c C h =
    plus_of (round binary64 false a c) (grid binary64 a c) (2 ^ 1074)
    (round_value false a c (fin false 1 (pos j)) tt (below_power j x a c C h))

from_zero : round binary64 false 0 1 ≡ fin false 0 (pos 0)
unfolding round
from_zero = refl

-- and from one up to 1
round_developed : (a c : ℕ) → 0 < c → a ≤ c → Developed (round binary64 false a c)
round_developed a c C h =
    let k : a ≤ 2 ^ 0 * c = omega (arith, one-mul c) in
    let low : T (le (round binary64 false 0 1) (round binary64 false a c)) = round_mono binary64 0 1 a c (zero-lt-suc 0) C (omega arith) in (
      (subst (λ (z : Float). T (le z (round binary64 false a c))) from_zero low, below_power 0 exact_0 a c C k),
      round_plus 0 exact_0 a c C k,
    )

halved : (x : Float) → Within 2 x → Plus x → Developed (mul binary64 x half)
halved nan w p = absurd p
halved (inf s) w p = absurd p
halved (fin true m e) w p = absurd p
halved (fin false m e) w p =
    subst Developed (sym (mul_opened false m e false 1 _))
    (round_developed _ _ (mul-pos (down_pos e) (zero-lt-suc 1)) (omega (arith, mul-one (m * up e), mul_comm (down e) 2)))

added : (x y : Float) → Within 1 x → Plus x → Within 1 y → Plus y → Within 2 (add binary64 x y) × Plus (add binary64 x y)
added (fin false m e) (fin false n d) v p w q =
    let a = m * up e * down d + n * up d * down e in
    let c = down e * down d in
    let C : 0 < c = mul-pos (down_pos e) (down_pos d) in
    let h : a ≤ 2 ^ 1 * c = summed (m * up e) (n * up d) (down e) (down d) 1 1 2 v w (omega arith) in
    let o : add binary64 (fin false m e) (fin false n d) ≡ round binary64 false a c = add_opened false m e false n d
    ∙ sum_opened false _ false _ c in
    (subst (Within 2) (sym o) (round_within 1 exact_1 false a c C h), subst Plus (sym o) (round_plus 1 exact_1 a c C h))
added nan y v p w q = absurd p
added (inf s) y v p w q = absurd p
added (fin true m e) y v p w q = absurd p
added (fin false m e) nan v p w q = absurd q
added (fin false m e) (inf t) v p w q = absurd q
added (fin false m e) (fin true n d) v p w q = absurd q

pub mean_developed : (a b : Float) → Developed a → Developed b → Developed (mean_of a b)
mean_developed a b x y =
    let s = added a b (unit_within a x.0) x.1 (unit_within b y.0) y.1 in
    halved (add binary64 a b) s.0 s.1
