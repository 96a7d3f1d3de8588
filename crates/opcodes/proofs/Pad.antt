-- Horner's rule over coefficients that end in -0.0 is Horner's rule without it, in every bit, at a number that is finite and not negative.
-- Assumes nothing.
use Rattle.std.proofs.Common.{◌≡◌, ℕ, zero, suc, ◌+◌, ◌-◌, ◌*◌, ◌%◌, ◌^◌, ◌<◌, ◌≤◌, Bool, true, false, cond, ◌&&◌, T, eqb, ltb, leb, List, [], ◌∷◌}
use Rattle.std.proofs.Common.{◌++◌, length, get_or, replicate, ℤ, pos, negsuc, sym, refl, ap, ◌∙◌, subst, ⊎_elim, lt_of_lt_of_le, lt_irrefl}
use Rattle.std.proofs.Common.{zero-lt-suc, mul_assoc, mul-lt-mul_of_pos_right, mul-pos, one-mul, pow-suc, zero-add, zero-mul, mul-one, sub-add_cancel}
use Rattle.std.proofs.Common.{not-le_of_lt, mul_left_comm, arith, eqb→eq, ltb→lt, lt→ltb, leb→le, pow_pos, pow_mono, pow-add, shl_lt}
use Prim.Native.Nat.compare
use Prim.Native.Nat.{Ordering}
use Prim.Native.Nat.{compare}
use native.Mathlib.Nat.{zero-div, zero-mod, sub-zero}
use native.Mathlib.Nat.{pow-succ', eq_of_mul-eq-mul_right}
use lib.Pow.{pow-lt}
use lib.Ieee.{Float, nan, inf, fin, binary64, up, down, size, units, round, sum, add, mul, fits}
use lib.Ieee.Fits.{up_pos, down_pos, round-fits, and_l, and_r}
use lib.Ieee.Exact.{HasValue, round_exact}
use Rattle.reading.proofs.Wholes.{le_or_lt}
use Rattle.levels.specs.Clip.{clip_of}
use Rattle.opcodes.specs.Step.{horner_of, minus_zero, applied_of, result_of, polynomial_of}
use Rattle.levels.proofs.Unit.{unit, unit_plain}

above_zero : (u : ℕ) → 0 < u → compare 0 u ≡ Ordering.lt
above_zero zero h = absurd (lt_irrefl 0 h)
above_zero (suc u) h = compare.zero-suc u

units_zero : (s : Bool) → units binary64 s 0 0 ≡ fin s 0 (pos 0)
unfolding units
units_zero s = refl

-- zero rounds to zero, with the sign that it is given
pub round_zero : (s : Bool) (den : ℕ) → 0 < den → round binary64 s 0 den ≡ fin s 0 (pos 0)
unfolding round size
round_zero s den h = simp (zero-div, zero-mod, mul-one, above_zero den h) (units_zero s)

times_opened : (m : ℕ) (e : ℤ) → mul binary64 minus_zero (fin false m e) ≡ round binary64 true (0 * (m * up e)) (1 * down e)
unfolding mul
times_opened m e = refl

pub minus_zero_times : (m : ℕ) (e : ℤ) → mul binary64 minus_zero (fin false m e) ≡ minus_zero
minus_zero_times m e =
    times_opened m e ∙ ap (λ (z : ℕ). round binary64 true z (1 * down e)) (zero-mul (m * up e))
    ∙ round_zero true (1 * down e) (mul-pos (zero-lt-suc 0) (down_pos e))

-- ---- two values that fit and are the same number are the same data
even_odd : (m t : ℕ) → m % 2 ≡ 1 → m ≡ 2 * t → ⊥
even_odd m t o h = omega arith

odd_pow : (m n a b : ℕ) → m % 2 ≡ 1 → n % 2 ≡ 1 → m * 2 ^ a ≡ n * 2 ^ b → (m ≡ n) × (a ≡ b)
odd_pow m n zero zero o p h = (sym (mul-one m) ∙ h ∙ mul-one n, refl)
odd_pow m n zero (suc b) o p h =
    absurd (even_odd m (n * 2 ^ b) o (sym (mul-one m) ∙ h ∙ ap (λ (x : ℕ). n * x) (pow-succ' 2 b) ∙ mul_left_comm n 2 (2 ^ b)))
odd_pow m n (suc a) zero o p h =
    absurd (even_odd n (m * 2 ^ a) p (sym (mul-one n) ∙ sym h ∙ ap (λ (x : ℕ). m * x) (pow-succ' 2 a) ∙ mul_left_comm m 2 (2 ^ a)))
odd_pow m n (suc a) (suc b) o p h =
    let r = odd_pow m n a b o p (eq_of_mul-eq-mul_right 2 (zero-lt-suc 1) (m * 2 ^ a) (n * 2 ^ b)
    (mul_assoc m (2 ^ a) 2 ∙ ap (λ (x : ℕ). m * x) (sym (pow-suc 2 a)) ∙ h ∙ ap (λ (x : ℕ). n * x) (pow-suc 2 b)
    ∙ sym (mul_assoc n (2 ^ b) 2))) in
    (r.0, ap suc r.1)

-- of a value that fits: m is odd, and has at most 53 digits; or it is 0 with the exponent 0
module _ (s : Bool) (m : ℕ) (e : ℤ) (t : T (fits binary64 (fin s (suc m) e))) where
  is_odd : suc m % 2 ≡ 1
  unfolding fits
  is_odd = eqb→eq (suc m % 2) 1 (and_l (eqb (suc m % 2) 1) (ltb (suc m) (2 ^ 53))
      (and_l (eqb (suc m % 2) 1 && ltb (suc m) (2 ^ 53)) (leb (down e) (2 ^ 1074))
      (and_l (eqb (suc m % 2) 1 && ltb (suc m) (2 ^ 53) && leb (down e) (2 ^ 1074)) (ltb (suc m * up e) (2 ^ 1024 * down e)) t)))

  is_small : suc m < 2 ^ 53
  unfolding fits
  is_small = ltb→lt (suc m) (2 ^ 53)
      (and_r (eqb (suc m % 2) 1) (ltb (suc m) (2 ^ 53)) (and_l (eqb (suc m % 2) 1 && ltb (suc m) (2 ^ 53)) (leb (down e) (2 ^ 1074))
      (and_l (eqb (suc m % 2) 1 && ltb (suc m) (2 ^ 53) && leb (down e) (2 ^ 1074)) (ltb (suc m * up e) (2 ^ 1024 * down e)) t)))

  is_fine : down e ≤ 2 ^ 1074
  unfolding fits
  is_fine = leb→le (down e) (2 ^ 1074) (and_r (eqb (suc m % 2) 1 && ltb (suc m) (2 ^ 53)) (leb (down e) (2 ^ 1074))
      (and_l (eqb (suc m % 2) 1 && ltb (suc m) (2 ^ 53) && leb (down e) (2 ^ 1074)) (ltb (suc m * up e) (2 ^ 1024 * down e)) t))

  is_below : suc m * up e < 2 ^ 1024 * down e
  unfolding fits
  is_below = ltb→lt (suc m * up e) (2 ^ 1024 * down e)
      (and_r (eqb (suc m % 2) 1 && ltb (suc m) (2 ^ 53) && leb (down e) (2 ^ 1074)) (ltb (suc m * up e) (2 ^ 1024 * down e)) t)

not_none : (x y : ℕ) → x + suc y ≡ 0 → ⊥
not_none x y h = omega arith

same_number : (s : Bool) (m : ℕ) (e : ℤ) (n : ℕ) (g : ℤ) → suc m % 2 ≡ 1 → suc n % 2 ≡ 1 → suc m * up e * down g ≡ suc n * up g * down e →
    fin s (suc m) e ≡ fin s (suc n) g
same_number s m (pos a) n (pos b) o p h =
    let r = odd_pow (suc m) (suc n) a b o p (sym (mul-one (suc m * 2 ^ a)) ∙ h ∙ mul-one (suc n * 2 ^ b)) in
    λ i. fin s (r.0 i) (pos (r.1 i))
same_number s m (negsuc a) n (negsuc b) o p h =
    let r = odd_pow (suc m) (suc n) (suc b) (suc a) o p
    (ap (λ (x : ℕ). x * 2 ^ suc b) (sym (mul-one (suc m))) ∙ h ∙ ap (λ (x : ℕ). x * 2 ^ suc a) (mul-one (suc n))) in
    λ i. fin s (r.0 i) (negsuc (pred_eq r.1 i))
  where
    pred_eq : {x y : ℕ} → suc x ≡ suc y → y ≡ x
    pred_eq h = omega arith
same_number s m (pos a) n (negsuc b) o p h =
    let r = odd_pow (suc m) (suc n) (a + suc b) 0 o p
    (ap (λ (x : ℕ). suc m * x) (pow-add 2 a (suc b)) ∙ sym (mul_assoc (suc m) (2 ^ a) (2 ^ suc b)) ∙ h ∙ mul-one (suc n * 1)) in
    absurd (not_none a b r.1)
same_number s m (negsuc a) n (pos b) o p h =
    let r = odd_pow (suc n) (suc m) (b + suc a) 0 p o
    (ap (λ (x : ℕ). suc n * x) (pow-add 2 b (suc a)) ∙ sym (mul_assoc (suc n) (2 ^ b) (2 ^ suc a)) ∙ sym h ∙ mul-one (suc m * 1)) in
    absurd (not_none b a r.1)

same_value : (x : Float) (s : Bool) (m : ℕ) (e : ℤ) → T (fits binary64 x) → T (fits binary64 (fin s (suc m) e)) →
    HasValue x s (suc m * up e) (down e) → x ≡ fin s (suc m) e
same_value nan s m e p q h = absurd h
same_value (inf t) s m e p q h = absurd h
same_value (fin t zero g) s m e p q h =
    absurd (lt_irrefl 0 (subst (λ (z : ℕ). 0 < z) (sym h.1 ∙ ap (λ (z : ℕ). z * down e) (zero-mul (up g)) ∙ zero-mul (down e))
    (mul-pos (mul-pos (zero-lt-suc m) (up_pos e)) (down_pos g))))
same_value (fin t (suc n) g) s m e p q h =
    (λ i. fin (h.0 i) (suc n) g) ∙ same_number s n g m e (is_odd t n g p) (is_odd s m e q) h.1

-- ---- what fits is rounded to itself
spare : (j : ℕ) → 2 ^ j ≤ 2 ^ 1074 → j ≤ 1074
spare j h = ⊎_elim (λ l. l) (λ l. absurd (not-le_of_lt (pow-lt l) h)) (le_or_lt j 1074)

exact : (s : Bool) (m : ℕ) (e : ℤ) → T (fits binary64 (fin s (suc m) e)) →
    HasValue (round binary64 s (suc m * up e) (down e)) s (suc m * up e) (down e)
exact s m (pos k) t =
    round_exact binary64 s (suc m * 2 ^ k) 1 (suc m) (k + 1074) (zero-lt-suc 0) (is_small s m (pos k) t)
    (subst (λ (z : ℕ). z < 2 ^ 2098) (mul_assoc (suc m) (2 ^ k) (2 ^ 1074) ∙ ap (λ (z : ℕ). suc m * z) (sym (pow-add 2 k 1074)))
    (mul-lt-mul_of_pos_right {k = 2 ^ 1074} (subst (λ (z : ℕ). suc m * 2 ^ k < z) (mul-one (2 ^ 1024)) (is_below s m (pos k) t))
    (pow_pos 1074)))
    (mul_assoc (suc m) (2 ^ k) (2 ^ 1074) ∙ ap (λ (z : ℕ). suc m * z) (sym (pow-add 2 k 1074)) ∙ sym (mul-one (suc m * 2 ^ (k + 1074))))
exact s m (negsuc k) t =
    let l : suc k ≤ 1074 = spare (suc k) (is_fine s m (negsuc k) t) in
    round_exact binary64 s (suc m * 1) (2 ^ suc k) (suc m) (1074 - suc k) (pow_pos (suc k)) (is_small s m (negsuc k) t)
    (lt_of_lt_of_le (shl_lt 53 (1074 - suc k) (is_small s m (negsuc k) t)) (pow_mono {i = 53 + (1074 - suc k)} {j = 2098} (omega arith)))
    (ap (λ (z : ℕ). z * 2 ^ 1074) (mul-one (suc m)) ∙ ap (λ (z : ℕ). suc m * 2 ^ z) (sym (sub-add_cancel l))
    ∙ ap (λ (z : ℕ). suc m * z) (pow-add 2 (1074 - suc k) (suc k)) ∙ sym (mul_assoc (suc m) (2 ^ (1074 - suc k)) (2 ^ suc k)))

pub round_self : (s : Bool) (m : ℕ) (e : ℤ) → T (fits binary64 (fin s (suc m) e)) →
    round binary64 s (suc m * up e) (down e) ≡ fin s (suc m) e
round_self s m e t =
    same_value (round binary64 s (suc m * up e) (down e)) s m e (round-fits binary64 s (suc m * up e) (down e)) t (exact s m e t)

-- ---- -0.0 + c is c
zero_exp : (s : Bool) (e : ℤ) → T (fits binary64 (fin s zero e)) → e ≡ pos 0
unfolding fits
zero_exp s e t = flat e (eqb→eq (up e * down e) 1 t)
  where
    two_up : (p : ℕ) → 0 < p → 2 * p ≡ 1 → ⊥
    two_up p h e = omega arith

    flat : (e : ℤ) → up e * down e ≡ 1 → e ≡ pos 0
    flat (pos zero) h = refl
    flat (pos (suc k)) h = absurd (two_up (2 ^ k) (pow_pos k) (sym (pow-succ' 2 k) ∙ sym (mul-one (2 ^ suc k)) ∙ h))
    flat (negsuc k) h = absurd (two_up (2 ^ k) (pow_pos k) (sym (pow-succ' 2 k) ∙ sym (one-mul (2 ^ suc k)) ∙ h))

plus_opened : (s : Bool) (n : ℕ) (d : ℤ) → add binary64 minus_zero (fin s n d) ≡ sum binary64 true (0 * down d) s (n * up d * 1) (1 * down d)
unfolding add
plus_opened s n d = refl

sum_minus : (b c : ℕ) → sum binary64 true 0 true b c ≡ round binary64 true (0 + b) c
unfolding sum
sum_minus b c = refl

sum_none : (c : ℕ) → sum binary64 true 0 false 0 c ≡ round binary64 false 0 c
unfolding sum
sum_none c = refl

sum_plus : (b c : ℕ) → 0 < b → sum binary64 true 0 false b c ≡ round binary64 false (b - 0) c
unfolding sum
sum_plus b c h = go (ltb 0 b) (lt→ltb 0 b h)
  where
    go : (t : Bool) → T t → cond t (round binary64 false (b - 0) c) (round binary64 (true && ltb b 0) (0 - b) c) ≡ round binary64 false
        (b - 0) c
    go true h = refl
    go false h = absurd h

pub minus_zero_plus : (x : Float) → T (fits binary64 x) → add binary64 minus_zero x ≡ x
minus_zero_plus nan t = unfold add in refl
minus_zero_plus (inf s) t = unfold add in refl
minus_zero_plus (fin true zero d) t =
    (simp (zero-mul, one-mul) at (plus_opened true zero d)) ∙ sum_minus 0 (down d) ∙ round_zero true (down d) (down_pos d)
    ∙ ap (λ (z : ℤ). fin true 0 z) (sym (zero_exp true d t))
minus_zero_plus (fin false zero d) t =
    (simp (zero-mul, one-mul) at (plus_opened false zero d)) ∙ sum_none (down d) ∙ round_zero false (down d) (down_pos d)
    ∙ ap (λ (z : ℤ). fin false 0 z) (sym (zero_exp false d t))
minus_zero_plus (fin true (suc n) d) t =
    (simp (zero-mul, one-mul, mul-one) at (plus_opened true (suc n) d)) ∙ sum_minus (suc n * up d) (down d)
    ∙ ap (λ (z : ℕ). round binary64 true z (down d)) (zero-add (suc n * up d)) ∙ round_self true n d t
minus_zero_plus (fin false (suc n) d) t =
    (simp (zero-mul, one-mul, mul-one) at (plus_opened false (suc n) d))
    ∙ sum_plus (suc n * up d) (down d) (mul-pos (zero-lt-suc n) (up_pos d))
    ∙ ap (λ (z : ℕ). round binary64 false z (down d)) (sub-zero (suc n * up d)) ∙ round_self false n d t

-- ---- coefficients, the constant first
minus_zero_fits : T (fits binary64 minus_zero)
unfolding fits
minus_zero_fits = tt

abbrev pub AllFit : List Float → Type 0
AllFit [] = Unit
AllFit (c ∷ cs) = T (fits binary64 c) × AllFit cs

-- at a finite number that is not negative, -0.0 above the highest changes nothing
module _ (m : ℕ) (e : ℤ) where
  pad_base : (n : ℕ) (c : Float) → T (fits binary64 c) → horner_of (c ∷ replicate n minus_zero) (fin false m e) ≡ c
  unfolding horner_of
  pad_base zero c t = refl
  pad_base (suc n) c t =
      ap (λ (z : Float). add binary64 (mul binary64 z (fin false m e)) c) (pad_base n minus_zero minus_zero_fits)
      ∙ ap (λ (z : Float). add binary64 z c) (minus_zero_times m e) ∙ minus_zero_plus c t

  pub pad : (n : ℕ) (c : Float) (cs : List Float) → AllFit (c ∷ cs) →
      horner_of ((c ∷ cs) ++ replicate n minus_zero) (fin false m e) ≡ horner_of (c ∷ cs) (fin false m e)
  unfolding horner_of
  pad n c [] t = pad_base n c t.0
  pad n c (d ∷ cs) t = ap (λ (z : Float). add binary64 (mul binary64 z (fin false m e)) c) (pad n d cs t.1)

-- the nine coefficients of the step
abbrev nine : List Float → List Float
nine cs =
    get_or cs 0 minus_zero ∷ get_or cs 1 minus_zero ∷ get_or cs 2 minus_zero ∷ get_or cs 3 minus_zero ∷ get_or cs 4 minus_zero
    ∷ get_or cs 5 minus_zero ∷ get_or cs 6 minus_zero ∷ get_or cs 7 minus_zero ∷ get_or cs 8 minus_zero ∷ []

nine_is : (cs : List Float) → length cs ≤ 9 → nine cs ≡ cs ++ replicate (9 - length cs) minus_zero
nine_is [] h = refl
nine_is (a ∷ []) h = refl
nine_is (a ∷ b ∷ []) h = refl
nine_is (a ∷ b ∷ c ∷ []) h = refl
nine_is (a ∷ b ∷ c ∷ d ∷ []) h = refl
nine_is (a ∷ b ∷ c ∷ d ∷ e ∷ []) h = refl
nine_is (a ∷ b ∷ c ∷ d ∷ e ∷ f ∷ []) h = refl
nine_is (a ∷ b ∷ c ∷ d ∷ e ∷ f ∷ g ∷ []) h = refl
nine_is (a ∷ b ∷ c ∷ d ∷ e ∷ f ∷ g ∷ i ∷ []) h = refl
nine_is (a ∷ b ∷ c ∷ d ∷ e ∷ f ∷ g ∷ i ∷ j ∷ []) h = refl
nine_is (a ∷ b ∷ c ∷ d ∷ e ∷ f ∷ g ∷ i ∷ j ∷ k ∷ cs) h = absurd (too_long (length cs) h)
  where
    too_long : (n : ℕ) → suc (suc (suc (suc (suc (suc (suc (suc (suc (suc n))))))))) ≤ 9 → ⊥
    too_long n h = omega arith

-- the step of the coefficients that the file gives is Horner's rule over exactly those
pub polynomial_is : (c : Float) (cs : List Float) (s : List ℕ) (x : Float) → length (c ∷ cs) ≤ 9 → AllFit (c ∷ cs) → unit x →
    applied_of (polynomial_of (c ∷ cs)) s x ≡ clip_of (horner_of (c ∷ cs) x)
unfolding applied_of result_of polynomial_of
polynomial_is c cs s x h t u =
    let p = unit_plain x u in
    ap (λ (l : List Float). clip_of (horner_of l x)) (nine_is (c ∷ cs) h)
    ∙ subst (λ (y : Float). clip_of (horner_of ((c ∷ cs) ++ replicate (9 - length (c ∷ cs)) minus_zero) y) ≡ clip_of (horner_of (c ∷ cs) y))
    (sym p.2)
    (ap clip_of (pad p.0 p.1 (9 - length (c ∷ cs)) c cs t))

-- ---- degrees up to 3
abbrev pub four : List Float → List Float
four cs = get_or cs 0 minus_zero ∷ get_or cs 1 minus_zero ∷ get_or cs 2 minus_zero ∷ get_or cs 3 minus_zero ∷ []

four_is : (cs : List Float) → length cs ≤ 4 → four cs ≡ cs ++ replicate (4 - length cs) minus_zero
four_is [] h = refl
four_is (a ∷ []) h = refl
four_is (a ∷ b ∷ []) h = refl
four_is (a ∷ b ∷ c ∷ []) h = refl
four_is (a ∷ b ∷ c ∷ d ∷ []) h = refl
four_is (a ∷ b ∷ c ∷ d ∷ e ∷ cs) h = absurd (too_long (length cs) h)
  where
    too_long : (n : ℕ) → suc (suc (suc (suc (suc n)))) ≤ 4 → ⊥
    too_long n h = omega arith

pub cubic_is : (c : Float) (cs : List Float) (x : Float) → length (c ∷ cs) ≤ 4 → AllFit (c ∷ cs) → unit x →
    clip_of (horner_of (four (c ∷ cs)) x) ≡ clip_of (horner_of (c ∷ cs) x)
cubic_is c cs x h t u =
    let p = unit_plain x u in
    ap (λ (l : List Float). clip_of (horner_of l x)) (four_is (c ∷ cs) h)
    ∙ subst (λ (y : Float). clip_of (horner_of ((c ∷ cs) ++ replicate (4 - length (c ∷ cs)) minus_zero) y) ≡ clip_of (horner_of (c ∷ cs) y))
    (sym p.2)
    (ap clip_of (pad p.0 p.1 (4 - length (c ∷ cs)) c cs t))
