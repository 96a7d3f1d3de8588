-- The fewest decimal digits of a number are its digits without the zeros in front.
-- Assumes nothing.
use mathlib.Core.Path.{◌≡◌, refl, sym, ap, ◌∙◌}
use mathlib.Core.Bool.{Bool, true, false, cond}
use mathlib.Core.List.{List, [], ◌∷◌, ◌++◌}
use Prim.Native.Nat.{ℕ, zero, suc, ◌+◌, ◌-◌, ◌*◌, ◌/◌, ◌%◌, ◌^◌, ◌≤◌, ◌<◌}
use mathlib.Core.Logic.{⊎_elim}
use native.Mathlib.Nat.{pow-suc, pow-le-pow_right, mod-eq_of_lt, le-div_iff_mul-le, div-lt_iff_lt-mul}
use native.Mathlib.Omega.{arith}
use lib.Dec.{ltb, eqb}
use lib.Ieee.{Float, binary64, to_bits}
use lib.ListN.{length, length-append}
use borrow.Author.Tests.{lt-ltb, ne_eqb}
use Rattle.reading.proofs.Wholes.{le_or_lt}
use Rattle.io.specs.Digits.{hex_digit_ascii, last_digits, IsDigitCount}
use Rattle.listing.specs.Text.{unpadded, decimal_of, value_text}

pub digits_length : (b k n : ℕ) → length (last_digits b k n) ≡ k
digits_length b zero n = refl
digits_length b (suc k) n =
    let e = digits_length b k (n / b) in
    length-append (last_digits b k (n / b)) (hex_digit_ascii (n % b) ∷ []) ∙ omega (arith, e)

-- ---- a zero in front
below : (k n : ℕ) → n < 10 ^ suc k → n / 10 < 10 ^ k
below k n h =
    let p : 0 < 10 = omega arith in
    let b : n < 10 ^ k * 10 = omega (arith, pow-suc 10 k) in
    (div-lt_iff_lt-mul p).1 b

padded : (k n : ℕ) → n < 10 ^ k → last_digits 10 (suc k) n ≡ 48 ∷ last_digits 10 k n
padded zero n h =
    let e : n ≡ 0 = omega arith in
    rw e refl
padded (suc k) n h = ap (λ (ds : List ℕ). ds ++ (hex_digit_ascii (n % 10) ∷ [])) (padded k (n / 10) (below k n h))

skip : (xs : List ℕ) (g : ℕ) → unpadded (48 ∷ (xs ++ (g ∷ []))) ≡ unpadded (xs ++ (g ∷ []))
skip [] g = refl
skip (x ∷ xs) g = refl

more : (j k n : ℕ) → n < 10 ^ suc k → unpadded (last_digits 10 (suc (j + k)) n) ≡ unpadded (last_digits 10 (suc k) n)
more zero k n h = let e : 0 + k ≡ k = omega arith in ap (λ (m : ℕ). unpadded (last_digits 10 (suc m) n)) e
more (suc j) k n h =
    let i : suc j + k ≡ suc (j + k) = omega arith in
    let b : 10 ^ suc k ≤ 10 ^ suc (j + k) = pow-le-pow_right (omega arith) (omega arith) in
    let l : n < 10 ^ suc (j + k) = omega (arith, b, h) in
    ap (λ (m : ℕ). unpadded (last_digits 10 (suc m) n)) i ∙ ap unpadded (padded (suc (j + k)) n l)
    ∙ skip (last_digits 10 (j + k) (n / 10)) (hex_digit_ascii (n % 10)) ∙ more j k n h

-- ---- no zero in front
abbrev Leading : List ℕ → Type 0
Leading ds = (d : ℕ) × (r : List ℕ) × (ds ≡ d ∷ r) × (d ≡ 48 → ⊥)

leading : (k n : ℕ) → 10 ^ k ≤ n → n < 10 ^ suc k → Leading (last_digits 10 (suc k) n)
leading zero n l h =
    let b : n < 10 = omega arith in
    let m : n % 10 ≡ n = mod-eq_of_lt b in
    let t : ltb n 10 ≡ true = lt-ltb n 10 b in
    let g : hex_digit_ascii (n % 10) ≡ 48 + n = ap hex_digit_ascii m ∙ ap (λ (x : Bool). cond x (48 + n) (87 + n)) t in
    (hex_digit_ascii (n % 10), [], refl, λ e. omega (arith, g, e, l))
leading (suc k) n l h =
    let p = pow-suc 10 k in
    let a : 10 ^ k * 10 ≤ n = omega (arith, p, l) in
    let z : 0 < 10 = omega arith in
    let b : 10 ^ k ≤ n / 10 = (le-div_iff_mul-le z).1 a in
    let q = leading k (n / 10) b (below (suc k) n h) in
    (q.0, q.1 ++ (hex_digit_ascii (n % 10) ∷ []), ap (λ (ds : List ℕ). ds ++ (hex_digit_ascii (n % 10) ∷ [])) q.2, q.3)

kept : (d : ℕ) (r : List ℕ) → (d ≡ 48 → ⊥) → unpadded (d ∷ r) ≡ d ∷ r
kept d [] h = refl
kept d (e ∷ r) h = ap (λ (b : Bool). cond b (unpadded (e ∷ r)) (d ∷ e ∷ r)) (ne_eqb d 48 h)

fewest : (k n : ℕ) → IsDigitCount 10 1 n (suc k) → unpadded (last_digits 10 (suc k) n) ≡ last_digits 10 (suc k) n
fewest zero n h = refl
fewest (suc k) n h =
    let e : suc (suc k) - 1 ≡ suc k = omega arith in
    let l : 10 ^ suc k ≤ n = rw e at (h.2 (omega arith)) in
    let q = leading (suc k) n l h.1 in
    ap unpadded q.2 ∙ kept q.0 q.1 q.3 ∙ sym q.2

-- ---- the digits as they are made
pub decimal_is : (k n : ℕ) → IsDigitCount 10 1 n k → k ≤ 20 → last_digits 10 k n ≡ decimal_of n
unfolding decimal_of
decimal_is zero n h b = absurd (omega (arith, h.0))
decimal_is (suc k) n h b =
    let e : suc (19 - k + k) ≡ 20 = omega arith in
    sym (fewest k n h) ∙ sym (more (19 - k) k n h.1) ∙ ap (λ (m : ℕ). unpadded (last_digits 10 m n)) e

pub hex_is : (k n : ℕ) (x : Float) → n ≡ to_bits binary64 x → 16 ≤ k → k ≤ 16 → last_digits 16 k n ≡ value_text x
unfolding value_text
hex_is k n x e a b =
    let d : k ≡ 16 = omega arith in
    ap (λ (m : ℕ). last_digits 16 m n) d ∙ ap (λ (m : ℕ). last_digits 16 16 m) e

pub value_length : (x : Float) → length (value_text x) ≡ 16
unfolding value_text
value_length x = digits_length 16 16 (to_bits binary64 x)

pub decimal_length : (k n : ℕ) → IsDigitCount 10 1 n k → k ≤ 20 → length (decimal_of n) ≡ k
decimal_length k n h b = ap length (sym (decimal_is k n h b)) ∙ digits_length 10 k n

-- ---- how many digits a 64-bit number takes
-- a choice is no longer than both of its cases
choice_short : (b : Bool) (xs ys : List ℕ) (n : ℕ) → length xs ≤ n → length ys ≤ n → length (cond b xs ys) ≤ n
choice_short true xs ys n x y = x
choice_short false xs ys n x y = y

unpadded_short : (ds : List ℕ) → length (unpadded ds) ≤ length ds
unpadded_short [] = omega arith
unpadded_short (d ∷ []) = omega arith
unpadded_short (d ∷ e ∷ ds) =
    let r = unpadded_short (e ∷ ds) in
    choice_short (eqb d 48) (unpadded (e ∷ ds)) (d ∷ e ∷ ds) (length (d ∷ e ∷ ds)) (omega (arith, r)) (omega arith)

decimal_within : (k n : ℕ) → length (unpadded (last_digits 10 k n)) ≤ k
decimal_within k n = let a = unpadded_short (last_digits 10 k n) in omega (arith, a, digits_length 10 k n)

pub decimal_short : (n : ℕ) → length (decimal_of n) ≤ 20
unfolding decimal_of
decimal_short n = decimal_within 20 n

pub at_most_20 : (k n : ℕ) → IsDigitCount 10 1 n k → n < 18446744073709551616 → k ≤ 20
at_most_20 k n h b =
    ⊎_elim (λ l. l) (λ g.
    let s : 20 ≤ k - 1 = omega arith in
    let p : 10 ^ 20 ≤ 10 ^ (k - 1) = pow-le-pow_right (omega arith) s in
    let q : 10 ^ (k - 1) ≤ n = h.2 (omega arith) in
    absurd (omega (arith, p, q, b)))
    (le_or_lt k 20)

pub at_most_16 : (k n : ℕ) → IsDigitCount 16 16 n k → n < 18446744073709551616 → k ≤ 16
at_most_16 k n h b =
    ⊎_elim (λ l. l) (λ g.
    let s : 16 ≤ k - 1 = omega arith in
    let p : 16 ^ 16 ≤ 16 ^ (k - 1) = pow-le-pow_right (omega arith) s in
    let q : 16 ^ (k - 1) ≤ n = h.2 (omega arith) in
    absurd (omega (arith, p, q, b)))
    (le_or_lt k 16)
