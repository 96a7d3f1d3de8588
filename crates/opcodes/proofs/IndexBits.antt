-- Of an f64 from 0.5 to 65535.5, `index_from_bits` is the greatest whole number not above it; and of a sum in this range it is `index_of`.
-- Assumes nothing.
use Rattle.std.proofs.Common.{◌≡◌, ℕ, zero, suc, ◌+◌, ◌-◌, ◌*◌, ◌/◌, ◌^◌, ◌<◌, ◌≤◌, min, Bool, true, false, not, T, leb, sym, refl, ap, ◌∙◌, subst}
use Rattle.std.proofs.Common.{⊎_elim, true≢false, le_trans, le_of_eq, lt_of_lt_of_le, le-add_right, lt_of_le_of_lt, mul-le-mul_right, mod-lt}
use Rattle.std.proofs.Common.{zero-lt-suc, mul_assoc, div-lt_iff_lt-mul, lt_of_mul-lt-mul_right, mul-lt-mul_of_pos_right, le-div_iff_mul-le, mul-one}
use Rattle.std.proofs.Common.{not-le_of_lt, div-mul-le_self, le_of_mul-le-mul_right, arith, ltb→lt, lt→ltb, pow_pos, pow_mono, pow-add, shl_lt}
use Rattle.std.proofs.Common.{ltb-false, le-ltb, lt-ltb}
use native.Mathlib.Nat.{div-eq_of_lt, lt-div-mul-add}
use lib.Ieee.{Float, nan, inf, fin, binary64, top, up, down, is_nan, le, of_bits, to_bits, to_unsigned}
use lib.Ieee.Bits.{of_bits-to_bits}
use lib.Ieee.Exact.{HasValue}
use lib.Ieee.Fits.{down_pos}
use lib.Ieee.Order.{le_of_values}
use lib.Ieee.Nearest.{div_same}
use lib.Ieee.Positive.{num, den, positive, between, den_pos, positive-finite, value→cross}
use lib.Ieee.Scale.{finite}
use Rattle.reading.specs.Reading.{pick}
use Rattle.reading.specs.Real.{exponent_field, fraction_field, refused_pattern}
use Rattle.reading.proofs.Pattern.{units_of, exact_value, finite_pattern}
use Rattle.reading.proofs.Wholes.{le_or_lt}
use Rattle.levels.proofs.Values.{lt_fractions, le_values}
use Rattle.opcodes.specs.Step.{half, sum_of, index_of}
use Rattle.opcodes.specs.TableIndex.{greatest_sum, IndexRange, shifted_of, index_from_bits, whole_number, WholePart}
use Rattle.opcodes.proofs.Places.{or-false, not_high}

-- ---- the whole part of a fraction
whole_value : (n : ℕ) → HasValue (whole_number n) false n 1
whole_value n = (refl, mul-one (n * 1))

fraction_whole : (v : Float) (k a c : ℕ) → 0 < c → HasValue v false a c → k * c ≤ a → a < (k + 1) * c → WholePart v k
fraction_whole v k a c C h lo hi =
    record {
      not_above = le_of_values (whole_number k) v k 1 a c (zero-lt-suc 0) C (whole_value k) h (omega arith);
      below_next =
          subst T (sym (lt_fractions v (whole_number (k + 1)) a c (k + 1) 1 C (zero-lt-suc 0) h (whole_value (k + 1))))
          (lt→ltb (a * 1) ((k + 1) * c) (omega arith));
    }

-- ---- (2^52 + F) / 2^(1075 - e) is v: both in units of 2^-1074
small : (x t n : ℕ) → t < 2 ^ 52 → 52 + x ≤ n → units_of binary64 x t < 2 ^ n
small zero t n h l = lt_of_lt_of_le h (pow_mono l)
small (suc j) t n h l =
    let digits : 2 ^ 52 + t < 2 ^ 53 = omega arith in
    let few : 53 + j ≤ n = omega arith in
    lt_of_lt_of_le (shl_lt 53 j digits) (pow_mono few)

under_one : (u c : ℕ) → u < c → (0 * c ≤ u) × (u < (0 + 1) * c)
under_one u c h = (omega arith, omega arith)

cut : (q c d : ℕ) → 0 < c → 0 < d → (q / c * (c * d) ≤ q * d) × (q * d < (q / c + 1) * (c * d))
cut q c d C D =
    let lo : q / c * c * d ≤ q * d = mul-le-mul_right d (div-mul-le_self q c) in
    let hi : q * d < (q / c * c + c) * d = mul-lt-mul_of_pos_right (lt-div-mul-add C) D in
    let e : (q / c + 1) * (c * d) ≡ (q / c * c + c) * d =
    sym (mul_assoc (q / c + 1) c d) ∙ ap (λ (n : ℕ). n * d) (let w : (q / c + 1) * c ≡ q / c * c + c = omega arith in w) in
    (subst (λ (n : ℕ). n ≤ q * d) (mul_assoc (q / c) c d) lo, subst (λ (n : ℕ). q * d < n) (sym e) hi)

placed : (q n j : ℕ) → n + j ≡ 1074 → (q / 2 ^ n * 2 ^ 1074 ≤ q * 2 ^ j) × (q * 2 ^ j < (q / 2 ^ n + 1) * 2 ^ 1074)
placed q n j h =
    let joined : 2 ^ n * 2 ^ j ≡ 2 ^ 1074 = sym (pow-add 2 n j) ∙ ap (λ (i : ℕ). 2 ^ i) h in
    subst (λ (w : ℕ). (q / 2 ^ n * w ≤ q * 2 ^ j) × (q * 2 ^ j < (q / 2 ^ n + 1) * w)) joined
    (cut q (2 ^ n) (2 ^ j) (pow_pos n) (pow_pos j))

large : (x t : ℕ) → 1023 ≤ x → x ≤ 1038 →
    (shifted_of x t * 2 ^ 1074 ≤ units_of binary64 x t) × (units_of binary64 x t < (shifted_of x t + 1) * 2 ^ 1074)
large zero t a b = absurd (let n : 1023 ≤ 0 = a in omega arith)
large (suc j) t a b = placed _ _ j (omega arith)

-- below 65536 the exponent field is at most 1038
field_most : (x t : ℕ) → units_of binary64 x t * 2 ≤ 131071 * 2 ^ 1074 → x ≤ 1038
field_most zero t h = omega arith
field_most (suc j) t h = ⊎_elim (λ l. omega arith) (λ l. absurd (high l)) (le_or_lt j 1037)
  where
    under : (2 ^ 52 + t) * 2 ^ j < 2 ^ 1090
    under = lt_of_mul-lt-mul_right 2 (lt_of_le_of_lt h (ltb→lt (131071 * 2 ^ 1074) (2 ^ 1090 * 2) tt))

    high : 1037 < j → ⊥
    high l =
        let far : 52 + 1038 ≤ 52 + j = omega arith in
        let lead : 2 ^ (52 + j) ≤ (2 ^ 52 + t) * 2 ^ j =
        le_trans (le_of_eq (pow-add 2 52 j)) (mul-le-mul_right (2 ^ j) (le-add_right (2 ^ 52) t)) in
        not-le_of_lt under (le_trans (pow_mono far) lead)

-- and from 0.5 on at least 1022
field_least : (x t : ℕ) → t < 2 ^ 52 → 1 * 2 ^ 1074 ≤ units_of binary64 x t * 2 → 1022 ≤ x
field_least x t h l = ⊎_elim (λ k. k) (λ k. absurd (low k)) (le_or_lt 1022 x)
  where
    low : x < 1022 → ⊥
    low k = not-le_of_lt (mul-lt-mul_of_pos_right (small x t 1073 h (omega arith)) (zero-lt-suc 1)) l

next : (n k u c : ℕ) → n * c ≤ u * 1 → u < (k + 1) * c → n ≤ k
next n k u c lo hi =
    let h : n * c < (k + 1) * c = omega arith in
    let l : n < k + 1 = lt_of_mul-lt-mul_right c h in
    omega arith

capped : (a b k : ℕ) → a ≡ b → k ≤ b → b < k + 1 → k ≤ 65535 → min a (2 ^ 64 - 1) ≡ k
capped a b k e lo hi most = omega arith

halves_most : (k u c : ℕ) → 0 < c → k * c ≤ u → u * 2 ≤ 131071 * c → k ≤ 65535
halves_most k u c C lo hi =
    let h : k * 2 * c ≤ 131071 * c = omega arith in
    let n : k * 2 ≤ 131071 = le_of_mul-le-mul_right h C in
    omega arith

-- ---- the two cases of `index_from_bits`
index_low : (v : Float) → exponent_field binary64 (to_bits binary64 v) < 1023 → 0 ≡ index_from_bits v
unfolding index_from_bits pick
index_low v h = simp (lt-ltb _ _ h)

index_high : (v : Float) → 1023 ≤ exponent_field binary64 (to_bits binary64 v) →
    shifted_of (exponent_field binary64 (to_bits binary64 v)) (fraction_field binary64 (to_bits binary64 v)) ≡ index_from_bits v
unfolding index_from_bits pick
index_high v h = simp (le-ltb _ _ h)

-- 53 digits, shifted right by 53 places, leave 0
shifted_out : (x t : ℕ) → t < 2 ^ 52 → x < 1023 → 1022 ≤ x → shifted_of x t ≡ 0
shifted_out x t h l m = let e : x ≡ 1022 = omega arith in rw e (div-eq_of_lt (let d : 2 ^ 52 + t < 2 ^ 53 = omega arith in d))

-- ---- an f64 from 0.5 to 65535.5
plain : (x : Float) (s : Bool) (a c : ℕ) → T (positive x) → HasValue x s a c → HasValue x false a c
plain nan s a c p h = absurd p
plain (inf t) s a c p h = absurd p
plain (fin true m e) s a c p h = absurd p
plain (fin false m e) s a c p h = (refl, h.1)

positive_number : (x : Float) → T (positive x) → T (not (is_nan x))
unfolding is_nan
positive_number nan p = absurd p
positive_number (inf s) p = tt
positive_number (fin s m e) p = tt

whole_is : (x : Float) → T (positive x) → to_unsigned 64 x ≡ min (num x / den x) (2 ^ 64 - 1)
unfolding to_unsigned
whole_is nan p = absurd p
whole_is (inf s) p = absurd p
whole_is (fin true m e) p = absurd p
whole_is (fin false m e) p = refl

module _ (v : Float) (r : IndexRange v) where
  abbrev e : ℕ
  e = exponent_field binary64 (to_bits binary64 v)

  abbrev F : ℕ
  F = fraction_field binary64 (to_bits binary64 v)

  -- v in units of 2^-1074
  abbrev u : ℕ
  u = units_of binary64 e F

  sum_positive : T (positive v)
  sum_positive = between half v greatest_sum tt tt r.from r.to

  pub index_number : T (not (is_nan v))
  index_number = positive_number v sum_positive

  value : HasValue v false u (2 ^ 1074)
  value =
      let bits = to_bits binary64 v in
      let back : of_bits binary64 bits ≡ v = of_bits-to_bits binary64 v r.held in
      let kept : refused_pattern binary64 bits ≡ false =
      finite_pattern binary64 bits (subst (λ (x : Float). T (finite x)) (sym back) (positive-finite v sum_positive)) in
      plain v (leb (top binary64) bits) u (2 ^ 1074) sum_positive
      (subst (λ (x : Float). HasValue x (leb (top binary64) bits) u (2 ^ 1074)) back (exact_value binary64 bits kept))

  at_most : u * 2 ≤ 131071 * 2 ^ 1074
  at_most = le_values v greatest_sum u (2 ^ 1074) 131071 2 value (refl, refl) r.to

  pub exponent_most : e ≤ 1038
  exponent_most = field_most e F at_most

  fraction_in : F < 2 ^ 52
  fraction_in = mod-lt _ (pow_pos 52)

  pub exponent_least : 1022 ≤ e
  exponent_least = field_least e F fraction_in (le_values half v 1 2 u (2 ^ 1074) (refl, refl) value r.from)

  bounds : (index_from_bits v * 2 ^ 1074 ≤ u) × (u < (index_from_bits v + 1) * 2 ^ 1074)
  bounds = ⊎_elim
      (λ l. subst Around (index_high v l) (large e F l exponent_most))
      (λ l. subst Around (index_low v l) (under_one u (2 ^ 1074) (small e F 1074 fraction_in (omega arith))))
      (le_or_lt 1023 e)
    where
      Around : ℕ → Type 0
      Around k = (k * 2 ^ 1074 ≤ u) × (u < (k + 1) * 2 ^ 1074)

  -- one shift is both cases: where e is 1022, nothing is left
  pub index_shifted : (x t : ℕ) → x ≡ e → t ≡ F → shifted_of x t ≡ index_from_bits v
  index_shifted x t p q = rw (p, q) (⊎_elim
      (λ l. index_high v l)
      (λ l. shifted_out e F fraction_in l exponent_least ∙ index_low v l)
      (le_or_lt 1023 e))

  -- k <= v and v < k + 1
  pub index_whole : WholePart v (index_from_bits v)
  index_whole = fraction_whole v (index_from_bits v) u (2 ^ 1074) (pow_pos 1074) value bounds.0 bounds.1

  -- so no whole number that is not above v is greater
  pub index_greatest : (n : ℕ) → T (le (whole_number n) v) → n ≤ index_from_bits v
  index_greatest n h = next n (index_from_bits v) u (2 ^ 1074)
      (le_values (whole_number n) v n 1 u (2 ^ 1074) (whole_value n) value h) bounds.1

  pub index_most : index_from_bits v ≤ 65535
  index_most = halves_most (index_from_bits v) u (2 ^ 1074) (pow_pos 1074) bounds.0 at_most

  pub index_unique : to_unsigned 64 v ≡ index_from_bits v
  index_unique =
      let k = index_from_bits v in
      let same : num v / den v ≡ u / 2 ^ 1074 =
      div_same (num v) (den v) u (2 ^ 1074) (den_pos v) (pow_pos 1074) (value→cross v u (2 ^ 1074) value) in
      let lo : k ≤ u / 2 ^ 1074 = (le-div_iff_mul-le (pow_pos 1074)).1 bounds.0 in
      let hi : u / 2 ^ 1074 < k + 1 = (div-lt_iff_lt-mul (pow_pos 1074)).1 bounds.1 in
      whole_is v sum_positive ∙ capped (num v / den v) (u / 2 ^ 1074) k same lo hi index_most

-- the index is the one in the bits
pub index_in_bits : (x : Float) → IndexRange (sum_of x) → index_of x ≡ index_from_bits (sum_of x)
unfolding index_of
index_in_bits x r = index_unique (sum_of x) r

-- ---- on either side of the range
pub index_below : (v : Float) → le half v ≡ false → to_unsigned 64 v ≡ 0
unfolding le to_unsigned
index_below nan h = refl
index_below (inf true) h = refl
index_below (inf false) h = absurd (true≢false h)
index_below (fin true m e) h = refl
index_below (fin false m e) h =
    let l : m * up e * 2 < 1 * 1 * down e = not_high (1 * 1 * down e) (m * up e * 2) h in
    let z : m * up e / down e < 1 = (div-lt_iff_lt-mul (down_pos e)).1 (omega (arith, l)) in
    omega (arith, z)

pub index_above : (v : Float) → le half v ≡ true → le v greatest_sum ≡ false → 65535 ≤ to_unsigned 64 v
unfolding le to_unsigned
index_above nan g h = absurd (true≢false (sym g))
index_above (inf true) g h = absurd (true≢false h)
index_above (inf false) g h = omega arith
index_above (fin true m e) g h =
    let k : m * up e * 2 + 131071 * 1 * down e ≤ 0 = ltb-false 0 (m * up e * 2 + 131071 * 1 * down e) (or-false _ _ h).0 in
    absurd (omega (arith, k, down_pos e))
index_above (fin false m e) g h =
    let l : 131071 * 1 * down e < m * up e * 2 = not_high (m * up e * 2) (131071 * 1 * down e) h in
    let q : 65535 ≤ m * up e / down e = (le-div_iff_mul-le (down_pos e)).1 (omega (arith, l)) in
    omega (arith, q)
