-- A GainMap's places: none is a NaN, and one that is neither at or below 0 nor at or above a whole number lies between them.
-- Assumes nothing.
use Rattle.std.proofs.Common.{◌≡◌, ℕ, zero, suc, ◌+◌, ◌-◌, ◌*◌, ◌/◌, ◌^◌, ◌<◌, ◌≤◌, Bool, true, false, cond, not, ◌&&◌, ◌||◌, T, eqb, ltb, ℤ, pos}
use Rattle.std.proofs.Common.{sym, refl, ap, ◌∙◌, subst, ⊎_elim, true≢false, le_refl, div-lt_iff_lt-mul, mul-le-mul, lt_of_mul-lt-mul_right}
use Rattle.std.proofs.Common.{mul-lt-mul_of_pos_right, le-div_iff_mul-le, zero-mul, arith, ltb→lt, lt→ltb, ltb-false, ltb-true, le-ltb, lt-ltb}
use Rattle.std.proofs.Common.{eq-eqb, ne_eqb}
use mathlib.Core.Bool.{beq}
use borrow.Author.Tests.{eqb-false}
use lib.Ieee.{Float, nan, inf, fin, Format, binary64, up, down, round, unlike, lt, le}
use lib.Ieee.{neg, sum, add, sub, div, to_unsigned, of_bits, is_nan, in_float}
use lib.Ieee.Fits.{down_pos}
use lib.Ieee.Exact.{HasValue}
use lib.Ieee.Scale.{finite}
use lib.Ieee.Positive.{positive, positive_of_value, first_pos}
use Rattle.std.specs.Prelude.{Option}
use Rattle.reading.specs.Real.{refused_pattern, real_of}
use Rattle.reading.proofs.Pattern.{is_refused, is_value, bits_finite}
use Rattle.reading.proofs.Wholes.{in_float_law, int_value}
use Rattle.levels.specs.Clip.{plus_zero}
use Rattle.opcodes.specs.Step.{half, value_of}
use Rattle.opcodes.specs.OpcodeList.{refused_real}
use Rattle.opcodes.specs.GainMap.{float_of, place_of, whole_of}
use Rattle.opcodes.specs.Facts.Bracket.{AxisIn}
use Rattle.opcodes.specs.declared.gain_map.Axis.{Axis}
use Rattle.levels.proofs.Values.{round_shape}

-- ---- a whole number as f64
pub float_exact : (n : ℕ) → n ≤ 65536 → T (in_float binary64 (pos n))
float_exact n h = in_float_law (pos n) (omega arith)

float_value : (n : ℕ) → n ≤ 65536 → HasValue (float_of n) false n 1
float_value n h = int_value (pos n) (omega arith)

-- two tests that both fail
pub or-false : (a b : Bool) → (a || b) ≡ false → (a ≡ false) × (b ≡ false)
or-false true b h = absurd (true≢false h)
or-false false b h = (refl, h)

-- ---- the number of an accepted pattern is finite
pub real_finite : (f : Format) (b : ℕ) → T (finite (value_of (real_of f b)))
real_finite f b = go (refused_pattern f b) refl
  where
    go : (r : Bool) → refused_pattern f b ≡ r → T (finite (value_of (real_of f b)))
    go true e = subst (λ (v : Option Float). T (finite (value_of v))) (is_refused f b e) tt
    go false e = subst (λ (v : Option Float). T (finite (value_of v))) (is_value f b e) (bits_finite f b e)

-- and above 0 where its pattern is
above_positive : (x : Float) → T (finite x) → lt plus_zero x ≡ true → T (positive x)
unfolding lt
above_positive nan k l = absurd k
above_positive (inf s) k l = absurd k
above_positive (fin true m e) k l = absurd (true≢false (sym l))
above_positive (fin false m e) k l =
    let q : 0 * down e < m * up e * 1 = ltb-true (0 * down e) (m * up e * 1) l in
    lt→ltb 0 m (first_pos m (up e) (omega arith))

pub real_positive : (f : Format) (b : ℕ) → refused_real (real_of f b) ≡ false → lt plus_zero (of_bits f b) ≡ true →
    T (positive (value_of (real_of f b)))
real_positive f b h a = go (refused_pattern f b) refl
  where
    go : (r : Bool) → refused_pattern f b ≡ r → T (positive (value_of (real_of f b)))
    go true e = absurd (true≢false (ap refused_real (is_refused f b e) ∙ h))
    go false e = subst (λ (v : Option Float). T (positive (value_of v))) (is_value f b e) (above_positive (of_bits f b) (bits_finite f b e) a)

-- ---- a place is no NaN
round_number : (s : Bool) (a c : ℕ) → is_nan (round binary64 s a c) ≡ false
unfolding is_nan
round_number s a c = ⊎_elim (λ h. ap is_nan h) (λ h. ap is_nan h.2) (round_shape binary64 s a c)

sum_number : (s : Bool) (a : ℕ) (t : Bool) (b c : ℕ) → is_nan (sum binary64 s a t b c) ≡ false
unfolding sum
sum_number s a t b c = go (beq s t) (ltb a b)
  where
    go : (x y : Bool) → is_nan (cond x (round binary64 s (a + b) c)
        (cond y (round binary64 t (b - a) c) (round binary64 (s && ltb b a) (a - b) c))) ≡ false
    go true y = round_number s (a + b) c
    go false true = round_number t (b - a) c
    go false false = round_number (s && ltb b a) (a - b) c

add_number : (x y : Float) → is_nan x ≡ false → T (finite y) → is_nan (add binary64 x y) ≡ false
unfolding add is_nan
add_number nan y h k = absurd (true≢false h)
add_number (inf s) nan h k = absurd k
add_number (inf s) (inf t) h k = absurd k
add_number (inf s) (fin t n d) h k = refl
add_number (fin s m e) nan h k = absurd k
add_number (fin s m e) (inf t) h k = absurd k
add_number (fin s m e) (fin t n d) h k = sum_number s (m * up e * down d) t (n * up d * down e) (down e * down d)

sub_number : (x y : Float) → is_nan x ≡ false → T (finite y) → is_nan (sub binary64 x y) ≡ false
unfolding sub neg
sub_number x nan h k = absurd k
sub_number x (inf t) h k = absurd k
sub_number x (fin t n d) h k = add_number x (fin (not t) n d) h tt

div_number : (x y : Float) → is_nan x ≡ false → T (positive y) → is_nan (div binary64 x y) ≡ false
unfolding div is_nan
div_number nan y h k = absurd (true≢false h)
div_number (inf s) nan h k = absurd k
div_number (inf s) (inf t) h k = absurd k
div_number (inf s) (fin true n d) h k = absurd k
div_number (inf s) (fin false n d) h k = refl
div_number (fin s m e) nan h k = absurd k
div_number (fin s m e) (inf t) h k = absurd k
div_number (fin s m e) (fin true n d) h k = absurd k
div_number (fin s m e) (fin false n d) h k =
    let l : 0 < n = ltb→lt 0 n k in
    let z : eqb n 0 ≡ false = ne_eqb n 0 (λ q. omega arith) in
    rw z (round_number (unlike s false) (m * up e * down d) (n * up d * down e))

value_number : (x : Float) (n : ℕ) → HasValue x false n 1 → is_nan x ≡ false
unfolding is_nan
value_number nan n v = absurd v
value_number (inf s) n v = refl
value_number (fin s m e) n v = refl

-- of a finite origin, and a spacing that is finite and above 0
place_number : (a : Axis) (size n : ℕ) → T (finite a.origin) → T (positive a.spacing) → n < size → size ≤ 65536 →
    is_nan (place_of a size n) ≡ false
unfolding place_of
place_number a size n o s h few =
    let near : n ≤ 65536 = omega arith in
    let sum = add_number (float_of n) half (value_number (float_of n) n (float_value n near)) tt in
    let part = div_number (add binary64 (float_of n) half) (float_of size) sum
    (positive_of_value (float_of size) size 1 (float_value size few) (omega arith)) in
    div_number _ a.spacing (sub_number _ a.origin part o) s

-- so for every row or column, where an axis has more than one point
pub axis_number : (a : Axis) (size n : ℕ) (p : Float) → AxisIn a → (a.points ≡ 1 → ⊥) → n < size → size ≤ 16384 →
    p ≡ place_of a size n → is_nan p ≡ false
axis_number a size n p i h l m e =
    let more : 1 < a.points = omega (arith, i.some) in
    ap is_nan e ∙ place_number a size n i.origin (i.spacing more) l (omega arith)

-- ---- a place between 0 and a whole number
abbrev Inner : Float → ℕ → Type 0
Inner p n = (m : ℕ) × (e : ℤ) × (p ≡ fin false m e) × (m * up e < n * down e)

cancel : (a b n d e : ℕ) → a * d < b * e → b * 1 ≡ n * d → a < n * e
cancel a b n d e h v =
    let q : b ≡ n * d = omega arith in
    let k : a * d < n * d * e = rw (← q) h in
    let s : n * d * e ≡ n * e * d = mul_swap n d e in
    lt_of_mul-lt-mul_right d (rw (← s) k)
  where
    mul_swap : (x y z : ℕ) → x * y * z ≡ x * z * y
    mul_swap x y z = omega arith

-- a number below 0, or -0.0, is at or below +0.0
minus_low : (a b : ℕ) → b ≡ 0 → (ltb 0 (a + b) || (eqb a b && eqb a 0)) ≡ true
minus_low zero b h = rw (eq-eqb 0 b (sym h)) (or-true (ltb 0 (0 + b)))
  where
    or-true : (x : Bool) → (x || true) ≡ true
    or-true true = refl
    or-true false = refl
minus_low (suc a) b h = rw (lt-ltb 0 (suc a + b) (omega arith))

-- not at or above is below
pub not_high : (a b : ℕ) → (ltb a b || (eqb a b && true)) ≡ false → b < a
not_high a b h = go (ltb a b) (eqb a b) refl refl h
  where
    go : (x y : Bool) → ltb a b ≡ x → eqb a b ≡ y → (x || (y && true)) ≡ false → b < a
    go true y p q r = absurd (true≢false r)
    go false true p q r = absurd (true≢false r)
    go false false p q r = let n = eqb-false a b q in let l = ltb-false a b p in omega arith

inner : (p w : Float) (n : ℕ) → HasValue w false n 1 → is_nan p ≡ false → le p plus_zero ≡ false → le w p ≡ false → Inner p n
unfolding le is_nan
inner nan w n v k a b = absurd (true≢false k)
inner (inf true) w n v k a b = absurd (true≢false a)
inner (inf false) nan n v k a b = absurd v
inner (inf false) (inf s) n v k a b = absurd v
inner (inf false) (fin s l d) n v k a b = absurd (true≢false b)
inner (fin true m e) w n v k a b = absurd (true≢false (sym (minus_low (m * up e * 1) (0 * down e) (zero-mul (down e))) ∙ a))
inner (fin false m e) nan n v k a b = absurd v
inner (fin false m e) (inf s) n v k a b = absurd v
inner (fin false m e) (fin true l d) n v k a b = absurd (true≢false v.0)
inner (fin false m e) (fin false l d) n v k a b =
    (m, e, refl, cancel (m * up e) (l * up d) n (down d) (down e) (not_high (l * up d * down e) (m * up e * down d) b) v.1)

module _ (p : Float) (n : ℕ) (few : n ≤ 65536) (k : is_nan p ≡ false) (a : le p plus_zero ≡ false) (b : le (float_of n) p ≡ false) where
  here : Inner p n
  here = inner p (float_of n) n (float_value n few) k a b

  below_here : (m : ℕ) (e : ℤ) → m * up e < n * down e → whole_of (fin false m e) < n
  unfolding to_unsigned
  below_here m e h = let q : m * up e / down e < n = (div-lt_iff_lt-mul (down_pos e)).1 h in omega arith

  -- its whole part is below that number
  pub whole_below : whole_of p < n
  whole_below = let (m, e, q, h) = here in subst (λ (x : Float). whole_of x < n) (sym q) (below_here m e h)

  word_here : (m : ℕ) (e : ℤ) → m * up e < n * down e → T (lt (fin true 1 (pos 0)) (fin false m e))
      × T (lt (fin false m e) (fin false 1 (pos 64)))
  unfolding lt
  word_here m e h =
      let d : 0 < down e = down_pos e in
      let l : n * down e ≤ 65536 * down e = mul-le-mul few (le_refl (down e)) in
      (lt→ltb 0 (1 * 1 * down e + m * up e * 1) (omega arith), lt→ltb (m * up e * 1) (1 * 2 ^ 64 * down e) (omega arith))

  -- it can be cut to one
  pub word_below : T (lt (fin true 1 (pos 0)) p) × T (lt p (fin false 1 (pos 64)))
  word_below =
      let (m, e, q, h) = here in
      subst (λ (x : Float). T (lt (fin true 1 (pos 0)) x) × T (lt x (fin false 1 (pos 64)))) (sym q) (word_here m e h)

-- ---- a place strictly between two whole numbers
abbrev Held : Float → ℕ → ℕ → Type 0
Held p k n = (m : ℕ) × (e : ℤ) × (p ≡ fin false m e) × (k * down e < m * up e) × (m * up e < n * down e)

-- the other way round
cancel_low : (a b k d e : ℕ) → b * e < a * d → b * 1 ≡ k * d → k * e < a
cancel_low a b k d e h v =
    let q : b ≡ k * d = omega arith in
    let l : k * d * e < a * d = rw (← q) h in
    let s : k * d * e ≡ k * e * d = omega arith in
    lt_of_mul-lt-mul_right d (rw (← s) l)

held : (p w v : Float) (k n : ℕ) → HasValue w false k 1 → HasValue v false n 1 → lt w p ≡ true → lt p v ≡ true → Held p k n
unfolding lt
held p nan v k n i j a b = absurd i
held p (inf s) v k n i j a b = absurd i
held p (fin true l d) v k n i j a b = absurd (true≢false i.0)
held p (fin false l d) nan k n i j a b = absurd j
held p (fin false l d) (inf s) k n i j a b = absurd j
held p (fin false l d) (fin true h g) k n i j a b = absurd (true≢false j.0)
held nan (fin false l d) (fin false h g) k n i j a b = absurd (true≢false (sym a))
held (inf true) (fin false l d) (fin false h g) k n i j a b = absurd (true≢false (sym a))
held (inf false) (fin false l d) (fin false h g) k n i j a b = absurd (true≢false (sym b))
held (fin true m e) (fin false l d) (fin false h g) k n i j a b = absurd (true≢false (sym a))
held (fin false m e) (fin false l d) (fin false h g) k n i j a b =
    let low = cancel_low (m * up e) (l * up d) k (down d) (down e) (ltb-true (l * up d * down e) (m * up e * down d) a) i.1 in
    let high = cancel (m * up e) (h * up g) n (down g) (down e) (ltb-true (m * up e * down g) (h * up g * down e) b) j.1 in
    (m, e, refl, low, high)

not_le : (a b : ℕ) → b < a → (ltb a b || (eqb a b && true)) ≡ false
not_le a b h = let n : a ≡ b → ⊥ = λ e. omega arith in rw (le-ltb a b (omega arith), ne_eqb a b n)

above_zero : (m : ℕ) (e : ℤ) → 0 < m * up e → le (fin false m e) plus_zero ≡ false
unfolding le
above_zero m e h = not_le (m * up e * 1) (0 * down e) (omega (arith, zero-mul (down e)))

below_whole : (w : Float) (n m : ℕ) (e : ℤ) → HasValue w false n 1 → m * up e < n * down e → le w (fin false m e) ≡ false
unfolding le
below_whole nan n m e v h = absurd v
below_whole (inf s) n m e v h = absurd v
below_whole (fin true l d) n m e v h = absurd (true≢false v.0)
below_whole (fin false l d) n m e v h =
    not_le (l * up d * down e) (m * up e * down d) (scaled (l * up d) (m * up e) n (down d) (down e) (down_pos d) h v.1)
  where
    scaled : (b a n d e : ℕ) → 0 < d → a < n * e → b * 1 ≡ n * d → a * d < b * e
    scaled b a n d e p h v =
        let q : b ≡ n * d = omega arith in
        let l : a * d < n * e * d = mul-lt-mul_of_pos_right h p in
        let s : n * d * e ≡ n * e * d = omega arith in
        rw (q, s) l

module _ (p : Float) (k n : ℕ) (few : n ≤ 65536) (a : lt (float_of k) p ≡ true) (b : lt p (float_of n) ≡ true) (near : k ≤ 65536) where
  between_held : Held p k n
  between_held = held p (float_of k) (float_of n) k n (float_value k near) (float_value n few) a b

  -- the first is below the second
  pub between_less : k < n
  between_less = let (m, e, q, l, h) = between_held in lt_of_mul-lt-mul_right (down e) (let s : k * down e < n * down e = omega arith in s)

  pub between_low : le p plus_zero ≡ false
  between_low =
      let (m, e, q, l, h) = between_held in
      subst (λ (x : Float). le x plus_zero ≡ false) (sym q) (above_zero m e (omega arith))

  pub between_high : (last : ℕ) → n ≤ last → last ≤ 65536 → le (float_of last) p ≡ false
  between_high last i j =
      let (m, e, q, l, h) = between_held in
      let w : n * down e ≤ last * down e = mul-le-mul i (le_refl (down e)) in
      subst (λ (x : Float). le (float_of last) x ≡ false) (sym q) (below_whole (float_of last) last m e (float_value last j) (omega arith))

  whole_here : (m : ℕ) (e : ℤ) → k * down e < m * up e → m * up e < (k + 1) * down e → whole_of (fin false m e) ≡ k
  unfolding to_unsigned
  whole_here m e l h =
      let low : k ≤ m * up e / down e = (le-div_iff_mul-le (down_pos e)).1 (omega arith) in
      let high : m * up e / down e < k + 1 = (div-lt_iff_lt-mul (down_pos e)).1 h in
      omega (arith, near)

  pub between_whole : n ≡ k + 1 → whole_of p ≡ k
  between_whole o =
      let (m, e, q, l, h) = between_held in
      subst (λ (x : Float). whole_of x ≡ k) (sym q) (whole_here m e l (subst (λ (x : ℕ). m * up e < x * down e) o h))
