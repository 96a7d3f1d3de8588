-- Whole numbers as f64.
-- Assumes nothing.
use mathlib.Core.Path.{sym, subst}
use mathlib.Core.Logic.{◌⊎◌, inl, inr}
use mathlib.Core.Bool.{Bool, true, false, not}
use Prim.Native.Nat.{ℕ, suc, ◌^◌, ◌≤◌, ◌<◌}
use native.Mathlib.Omega.{arith}
use lib.Dec.{T, leb, leb→le, nleb→lt, le→leb, lt→ltb}
use lib.IntN.{ℤ, pos, negsuc, nat_abs}
use lib.Ieee.{binary64, in_float, of_int}
use lib.Ieee.Back.{round_whole}
use lib.Ieee.Exact.{HasValue}
use mir.Syntax.{w64}
use mir.Val.{to_z, of_z}
use mir.Facts.{to_z-of_z}
use Rattle.reading.proofs.Magnitude.{sfits64}

pub le_or_lt : (a b : ℕ) → (a ≤ b) ⊎ (b < a)
le_or_lt a b = go (leb a b) (leb→le a b) (nleb→lt a b)
  where
    go : (t : Bool) → (T t → a ≤ b) → (T (not t) → b < a) → (a ≤ b) ⊎ (b < a)
    go true h k = inl (h tt)
    go false h k = inr (k tt)

abbrev pub negative : ℤ → Bool
negative (pos n) = false
negative (negsuc n) = true

pub int_value : (z : ℤ) → nat_abs z ≤ 2 ^ 53 → HasValue (of_int binary64 z) (negative z) (nat_abs z) 1
unfolding of_int
int_value (pos n) h = round_whole binary64 false n h
int_value (negsuc n) h = round_whole binary64 true (suc n) h

-- a cast to f64 loses nothing
pub in_float_law : (z : ℤ) → nat_abs z < 0x1_0000_0000 → T (in_float binary64 z)
unfolding in_float
in_float_law (pos n) h = le→leb n (2 ^ 53) (omega arith)
in_float_law (negsuc n) h = lt→ltb n (2 ^ 53) (let x : suc n < 0x1_0000_0000 = h in omega arith)

-- neither does one of an i64
pub casts : (z : ℤ) → nat_abs z < 0x1_0000_0000 → T (in_float binary64 (to_z w64 (of_z w64 z)))
casts z h = subst (λ (x : ℤ). T (in_float binary64 x)) (sym (to_z-of_z (sfits64 z (omega arith)))) (in_float_law z h)
