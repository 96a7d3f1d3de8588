-- Sums, differences, products and comparisons of f64, by the fractions that they equal; and the shape of a rounded fraction.
-- Assumes nothing.
use mathlib.Core.Path.{◌≡◌, refl, sym, ap, ◌∙◌, subst}
use mathlib.Core.Logic.{◌⊎◌, inl, inr, ⊎_elim}
use mathlib.Core.Bool.{Bool, true, false, not, ◌&&◌, ◌||◌, cond, beq, true≢false}
use Prim.Native.Nat.{ℕ, zero, suc, ◌+◌, ◌-◌, ◌*◌, ◌^◌, ◌≤◌, ◌<◌}
use native.Mathlib.Nat.{lt_of_lt_of_le, le_of_eq, le_of_lt, mul_comm, mul_assoc, mul_left_comm, mul_right_comm, mul-mul-mul_comm, add-mul}
use native.Mathlib.Nat.{mul-sub, mul-one, mul-pos, zero-mul, zero-lt-suc, mul-le-mul_right, mul-lt-mul_of_pos_right}
use native.Mathlib.Omega.{arith}
use borrow.Author.Tests.{lt-ltb, le-ltb, ne_eqb}
use lib.IntN.{ℤ, pos, negsuc, nat_abs, ◌+ℤ◌, ◌-ℤ◌}
use lib.Dec.{T, ltb, eqb, eqb→eq, ltb→lt}
use lib.Pow.{pow_pos, pow_mono}
use lib.Ieee.{Float, nan, inf, fin, Format, binary64, prec, emax, low, up, down, odd, units, unlike, round, neg, sum, add, mul, sub, div}
use lib.Ieee.{lt, le, of_int}
use lib.Ieee.Fits.{down_pos, and_l, round_is}
use lib.Ieee.Exact.{HasValue, round_exact}
use lib.Ieee.Order.{transfer}
use lib.Ieee.Scale.{round_same}
use Rattle.reading.proofs.Wholes.{le_or_lt, negative, int_value}
use Rattle.levels.specs.Facts.Reciprocal.{of_parts}

-- ---- the product
mul_opened : (m : ℕ) (e : ℤ) (n : ℕ) (d : ℤ) →
    mul binary64 (fin false m e) (fin false n d) ≡ round binary64 false (m * up e * (n * up d)) (down e * down d)
unfolding mul
mul_opened m e n d = refl

pub mul_values :
    (x y : Float) (a c b d : ℕ) → 0 < c → 0 < d → HasValue x false a c → HasValue y false b d →
    mul binary64 x y ≡ round binary64 false (a * b) (c * d)
mul_values nan y a c b d C D h k = absurd h
mul_values (inf s) y a c b d C D h k = absurd h
mul_values (fin true m e) y a c b d C D h k = absurd (true≢false h.0)
mul_values (fin false m e) nan a c b d C D h k = absurd k
mul_values (fin false m e) (inf t) a c b d C D h k = absurd k
mul_values (fin false m e) (fin true n g) a c b d C D h k = absurd (true≢false k.0)
mul_values (fin false m e) (fin false n g) a c b d C D h k =
    let r : m * up e * c * (n * up g * d) ≡ a * down e * (b * down g) =
    ap (λ (z : ℕ). z * (n * up g * d)) h.1 ∙ ap (λ (z : ℕ). a * down e * z) k.1 in
    mul_opened m e n g
    ∙ round_same binary64 false (m * up e * (n * up g)) (down e * down g) (a * b) (c * d) (mul-pos (down_pos e) (down_pos g)) (mul-pos C D)
    (mul-mul-mul_comm (m * up e) (n * up g) c d ∙ r ∙ mul-mul-mul_comm a (down e) b (down g))

-- ---- the quotient by a number above 0
unlike_plus : (s : Bool) → unlike s false ≡ s
unlike_plus true = refl
unlike_plus false = refl

div_opened : (s : Bool) (m : ℕ) (e : ℤ) (n : ℕ) (d : ℤ) → div binary64 (fin s m e) (fin false n d)
    ≡ cond (eqb n 0) (cond (eqb m 0) nan (inf (unlike s false))) (round binary64 (unlike s false) (m * up e * down d) (n * up d * down e))
unfolding div
div_opened s m e n d = refl

some_of : (x d y : ℕ) → 0 < y → x * d ≡ y → 0 < x
some_of x d y h e =
    ⊎_elim (λ l. let z : x ≡ 0 = omega arith in absurd (let n : x * d ≡ 0 = ap (λ (k : ℕ). k * d) z ∙ zero-mul d in omega arith)) (λ l. l)
    (le_or_lt x 0)

cross_div : (x y e g a b c d : ℕ) → x * c ≡ a * e → y * d ≡ b * g → x * g * (c * b) ≡ a * d * (y * e)
cross_div x y e g a b c d p q =
    let r : a * e * (b * g) ≡ a * e * (g * b) = ap (λ (z : ℕ). a * e * z) (mul_comm b g) in
    let t : a * e * (y * d) ≡ a * d * (y * e) = simp (mul_assoc, mul_comm, mul_left_comm) in
    mul-mul-mul_comm x g c b ∙ ap (λ (z : ℕ). z * (g * b)) p ∙ sym r ∙ ap (λ (z : ℕ). a * e * z) (sym q) ∙ t

pub div_values : (x y : Float) (s : Bool) (a c b d : ℕ) → 0 < c → 0 < b → HasValue x s a c → HasValue y false b d
    → div binary64 x y ≡ round binary64 s (a * d) (c * b)
div_values nan y s a c b d C B h k = absurd h
div_values (inf u) y s a c b d C B h k = absurd h
div_values (fin u m e) nan s a c b d C B h k = absurd k
div_values (fin u m e) (inf v) s a c b d C B h k = absurd k
div_values (fin u m e) (fin true n g) s a c b d C B h k = absurd (true≢false k.0)
div_values (fin u m e) (fin false n g) s a c b d C B h k =
    let X : ℕ = n * up g in
    let p : 0 < X = some_of X d (b * down g) (mul-pos B (down_pos g)) k.1 in
    let q : 0 < n = some_of n (up g) X p refl in
    let r : Float = round binary64 (unlike u false) (m * up e * down g) (X * down e) in
    div_opened u m e n g ∙ ap (λ (t : Bool). cond t (cond (eqb m 0) nan (inf (unlike u false))) r) (ne_eqb n 0 (λ z. absurd (omega arith)))
    ∙ ap (λ (t : Bool). round binary64 t (m * up e * down g) (X * down e)) (unlike_plus u ∙ h.0)
    ∙ round_same binary64 s (m * up e * down g) (X * down e) (a * d) (c * b) (mul-pos p (down_pos e)) (mul-pos C B)
    (cross_div (m * up e) X (down e) (down g) a b c d h.1 k.1)

-- ---- the sum of fractions that are not negative
add_opened : (s : Bool) (m : ℕ) (e : ℤ) (t : Bool) (n : ℕ) (d : ℤ) →
    add binary64 (fin s m e) (fin t n d) ≡ sum binary64 s (m * up e * down d) t (n * up d * down e) (down e * down d)
unfolding add
add_opened s m e t n d = refl

sum_plus : (a b c : ℕ) → sum binary64 false a false b c ≡ round binary64 false (a + b) c
unfolding sum
sum_plus a b c = refl

cross_add : (x y e g a b c d : ℕ) → x * c ≡ a * e → y * d ≡ b * g → (x * g + y * e) * (c * d) ≡ (a * d + b * c) * (e * g)
cross_add x y e g a b c d p q =
    let l : x * g * (c * d) ≡ x * c * (g * d) = mul-mul-mul_comm x g c d in
    let l' : a * e * (g * d) ≡ a * d * (e * g) = simp (mul_assoc, mul_comm, mul_left_comm) in
    let r : y * e * (c * d) ≡ y * d * (e * c) = simp (mul_assoc, mul_comm, mul_left_comm) in
    let r' : b * g * (e * c) ≡ b * c * (e * g) = simp (mul_assoc, mul_comm, mul_left_comm) in
    add-mul (x * g) (y * e) (c * d)
    ∙ ap (λ (z : ℕ). z + y * e * (c * d)) (l ∙ ap (λ (z : ℕ). z * (g * d)) p ∙ l')
    ∙ ap (λ (z : ℕ). a * d * (e * g) + z) (r ∙ ap (λ (z : ℕ). z * (e * c)) q ∙ r')
    ∙ sym (add-mul (a * d) (b * c) (e * g))

pub add_values :
    (x y : Float) (a c b d : ℕ) → 0 < c → 0 < d → HasValue x false a c → HasValue y false b d →
    add binary64 x y ≡ round binary64 false (a * d + b * c) (c * d)
add_values nan y a c b d C D h k = absurd h
add_values (inf s) y a c b d C D h k = absurd h
add_values (fin true m e) y a c b d C D h k = absurd (true≢false h.0)
add_values (fin false m e) nan a c b d C D h k = absurd k
add_values (fin false m e) (inf t) a c b d C D h k = absurd k
add_values (fin false m e) (fin true n g) a c b d C D h k = absurd (true≢false k.0)
add_values (fin false m e) (fin false n g) a c b d C D h k =
    let x : ℕ = m * up e * down g in
    let y : ℕ = n * up g * down e in
    add_opened false m e false n g ∙ sum_plus x y (down e * down g)
    ∙ round_same binary64 false (x + y) (down e * down g) (a * d + b * c) (c * d) (mul-pos (down_pos e) (down_pos g)) (mul-pos C D)
    (cross_add (m * up e) (n * up g) (down e) (down g) a b c d h.1 k.1)

-- ---- the sum of fractions over the same number, each with its sign
times_sub : (a b w : ℕ) → a * w - b * w ≡ (a - b) * w
times_sub a b w =
    sym (mul_comm (a - b) w ∙ mul-sub w a b ∙ ap (λ (z : ℕ). z - w * b) (mul_comm w a) ∙ ap (λ (z : ℕ). a * w - z) (mul_comm w b))

ltb_scale : (w : ℕ) → 0 < w → (a b : ℕ) → ltb (a * w) (b * w) ≡ ltb a b
ltb_scale w some a b =
    ⊎_elim (λ l. le-ltb (a * w) (b * w) (mul-le-mul_right w l) ∙ sym (le-ltb a b l))
    (λ l. lt-ltb (a * w) (b * w) (mul-lt-mul_of_pos_right l some) ∙ sym (lt-ltb a b l)) (le_or_lt b a)

module _ (c w : ℕ) (C : 0 < c) (some : 0 < w) where
  module _ (x y a b : ℕ) (p : x * c ≡ a * w) (q : y * c ≡ b * w) where
    ltb_cross : ltb x y ≡ ltb a b
    ltb_cross = sym (ltb_scale c C x y) ∙ (λ i. ltb (p i) (q i)) ∙ ltb_scale w some a b

    add_cross : (x + y) * c ≡ (a + b) * w
    add_cross = add-mul x y c ∙ (λ i. p i + q i) ∙ sym (add-mul a b w)

    sub_cross : (x - y) * c ≡ (a - b) * w
    sub_cross = sym (times_sub x y c) ∙ (λ i. p i - q i) ∙ times_sub a b w

  round_cross : (s : Bool) (x a : ℕ) → x * c ≡ a * w → round binary64 s x w ≡ round binary64 s a c
  round_cross s x a e = round_same binary64 s x w a c some C e

  sum_cross : (s t : Bool) (x y a b : ℕ) → x * c ≡ a * w → y * c ≡ b * w → sum binary64 s x t y w ≡ sum binary64 s a t b c
  unfolding sum
  sum_cross s t x y a b p q =
      let u = round_cross s (x + y) (a + b) (add_cross x y a b p q) in
      let v = round_cross t (y - x) (b - a) (sub_cross y x b a q p) in
      let z = ap (λ (k : Bool). round binary64 (s && k) (x - y) w) (ltb_cross y x b a q p)
      ∙ round_cross (s && ltb b a) (x - y) (a - b) (sub_cross x y a b p q) in
      λ i. cond (beq s t) (u i) (cond (ltb_cross x y a b p q i) (v i) (z i))

cross : (x e g a c : ℕ) → x * c ≡ a * e → x * g * c ≡ a * (e * g)
cross x e g a c p = mul_right_comm x g c ∙ ap (λ (z : ℕ). z * g) p ∙ mul_assoc a e g

same_sum : (x y : Float) (s t : Bool) (a b c : ℕ) → 0 < c → HasValue x s a c → HasValue y t b c → add binary64 x y ≡ sum binary64 s a t b c
same_sum nan y s t a b c C h k = absurd h
same_sum (inf u) y s t a b c C h k = absurd h
same_sum (fin u m e) nan s t a b c C h k = absurd k
same_sum (fin u m e) (inf v) s t a b c C h k = absurd k
same_sum (fin u m e) (fin v n g) s t a b c C h k =
    let w : ℕ = down e * down g in
    let x : ℕ = m * up e * down g in
    let y : ℕ = n * up g * down e in
    let q : y * c ≡ b * w = cross (n * up g) (down g) (down e) b c k.1 ∙ ap (λ (z : ℕ). b * z) (mul_comm (down g) (down e)) in
    add_opened u m e v n g ∙ (λ i. sum binary64 (h.0 i) x (k.0 i) y w)
    ∙ sum_cross c w C (mul-pos (down_pos e) (down_pos g)) s t x y a b (cross (m * up e) (down e) (down g) a c h.1) q

-- z / c, rounded
abbrev round_of : ℕ → ℤ → Float
round_of c z = round binary64 (negative z) (nat_abs z) c

flip : (a b : ℕ) → a < b → b - a ≡ suc (b - suc a)
flip a b l = omega arith

sum_is : (c : ℕ) (a b : ℤ) → sum binary64 (negative a) (nat_abs a) (negative b) (nat_abs b) c ≡ round_of c (a +ℤ b)
unfolding sum
sum_is c (pos a) (pos b) = refl
sum_is c (negsuc a) (negsuc b) = let e : suc a + suc b ≡ suc (suc (a + b)) = omega arith in ap (λ (n : ℕ). round binary64 true n c) e
sum_is c (pos a) (negsuc b) =
    ⊎_elim (λ l. let t = le-ltb a (suc b) l in rw t)
    (λ l. let t = lt-ltb a (suc b) l in rw t (ap (λ (n : ℕ). round binary64 true n c) (flip a (suc b) l)))
    (le_or_lt (suc b) a)
sum_is c (negsuc a) (pos b) =
    ⊎_elim
    (λ l. ⊎_elim
    (λ k. let t = le-ltb b (suc a) l in
    let u = le-ltb (suc a) b k in
    let e : suc a - b ≡ b - suc a = omega arith in
    rw (t, u) (ap (λ (n : ℕ). round binary64 false n c) e))
    (λ k. let t = le-ltb b (suc a) l in
    let u = lt-ltb (suc a) b k in
    rw (t, u))
    (le_or_lt b (suc a)))
    (λ l. let t = lt-ltb b (suc a) l in
    let u = le-ltb (suc a) b (le_of_lt l) in
    rw (t, u) (ap (λ (n : ℕ). round binary64 true n c) (flip b (suc a) l)))
    (le_or_lt (suc a) b)

-- ---- the difference
neg_value : (y : Float) (t : Bool) (b c : ℕ) → HasValue y t b c → HasValue (neg y) (not t) b c
unfolding neg
neg_value nan t b c h = h
neg_value (inf u) t b c h = h
neg_value (fin u n g) t b c h = (ap not h.0, h.1)

same_difference : (x y : Float) (s t : Bool) (a b c : ℕ) → 0 < c → HasValue x s a c → HasValue y t b c →
    sub binary64 x y ≡ sum binary64 s a (not t) b c
unfolding sub
same_difference x y s t a b c C h k = same_sum x (neg y) s (not t) a b c C h (neg_value y t b c k)

sum_minus : (a b c : ℕ) → b ≤ a → sum binary64 false a true b c ≡ round binary64 false (a - b) c
unfolding sum
sum_minus a b c l = rw (le-ltb a b l)

pub sub_down : (x y : Float) (a b : ℕ) → HasValue x false a 1 → HasValue y false b 1 → b ≤ a →
    sub binary64 x y ≡ round binary64 false (a - b) 1
sub_down x y a b h k l = same_difference x y false false a b 1 (zero-lt-suc 0) h k ∙ sum_minus a b 1 l

minus_is : (c a : ℕ) (b : ℤ) → sum binary64 false a (not (negative b)) (nat_abs b) c ≡ round_of c (pos a -ℤ b)
minus_is c a (pos zero) = let e : a - 0 ≡ a + 0 = omega arith in sum_minus a 0 c (omega arith) ∙ ap (λ (n : ℕ). round binary64 false n c) e
minus_is c a (pos (suc b)) = sum_is c (pos a) (negsuc b)
minus_is c a (negsuc b) = sum_is c (pos a) (pos (suc b))

-- ---- numbers of 256ths
parts_are : (z : ℤ) → of_parts z ≡ round_of 256 z
unfolding of_parts
parts_are (pos n) = refl
parts_are (negsuc n) = refl

pub parts_value : (z : ℤ) → nat_abs z < 2 ^ 53 → HasValue (of_parts z) (negative z) (nat_abs z) 256
parts_value z h =
    subst (λ (x : Float). HasValue x (negative z) (nat_abs z) 256) (sym (parts_are z))
    (round_exact binary64 (negative z) (nat_abs z) 256 (nat_abs z) 1066 (zero-lt-suc _) h
    (lt_of_lt_of_le (mul-lt-mul_of_pos_right h (pow_pos 1066)) (pow_mono {i = 1119} {j = 2098} (omega arith)))
    (sym (mul_assoc (nat_abs z) (2 ^ 1066) 256)))

pub add_parts : (a b : ℤ) → nat_abs a < 2 ^ 53 → nat_abs b < 2 ^ 53 → add binary64 (of_parts a) (of_parts b) ≡ of_parts (a +ℤ b)
add_parts a b h k =
    same_sum (of_parts a) (of_parts b) (negative a) (negative b) (nat_abs a) (nat_abs b) 256 (zero-lt-suc _) (parts_value a h) (parts_value b k)
    ∙ sum_is 256 a b ∙ sym (parts_are (a +ℤ b))

-- a whole number, divided by 256.0
abbrev pub parts : Float
parts = fin false 1 (pos 8)

pub parts_divided : (z : ℤ) → nat_abs z ≤ 2 ^ 53 → div binary64 (of_int binary64 z) parts ≡ of_parts z
parts_divided z h =
    div_values (of_int binary64 z) parts (negative z) (nat_abs z) 1 256 1 (zero-lt-suc 0) (zero-lt-suc _) (int_value z h) (refl, refl)
    ∙ ap (λ (n : ℕ). round binary64 (negative z) n 256) (mul-one (nat_abs z)) ∙ sym (parts_are z)

-- a whole number has 256 times as many
finer : (x : Float) (s : Bool) (a : ℕ) → HasValue x s a 1 → HasValue x s (256 * a) 256
finer nan s a h = h
finer (inf t) s a h = h
finer (fin t m e) s a h =
    (h.0, mul_comm (m * up e) 256 ∙ ap (λ (z : ℕ). 256 * z) (sym (mul-one (m * up e)) ∙ h.1) ∙ sym (mul_assoc 256 a (down e)))

pub sub_parts : (v : ℕ) (b : ℤ) → v ≤ 2 ^ 53 → nat_abs b < 2 ^ 53 →
    sub binary64 (of_int binary64 (pos v)) (of_parts b) ≡ of_parts (pos (256 * v) -ℤ b)
sub_parts v b h k =
    same_difference (of_int binary64 (pos v)) (of_parts b) false (negative b) (256 * v) (nat_abs b) 256 (zero-lt-suc _)
    (finer (of_int binary64 (pos v)) false v (int_value (pos v) h)) (parts_value b k)
    ∙ minus_is 256 (256 * v) b ∙ sym (parts_are (pos (256 * v) -ℤ b))

-- ---- the order, as one of fractions
pub lt_fractions : (x y : Float) (a c b d : ℕ) → 0 < c → 0 < d → HasValue x false a c → HasValue y false b d → lt x y ≡ ltb (a * d) (b * c)
unfolding lt
lt_fractions nan y a c b d C D h k = absurd h
lt_fractions (inf s) y a c b d C D h k = absurd h
lt_fractions (fin true m e) y a c b d C D h k = absurd (true≢false h.0)
lt_fractions (fin false m e) nan a c b d C D h k = absurd k
lt_fractions (fin false m e) (inf t) a c b d C D h k = absurd k
lt_fractions (fin false m e) (fin true n g) a c b d C D h k = absurd (true≢false k.0)
lt_fractions (fin false m e) (fin false n g) a c b d C D h k =
    let x : ℕ = m * up e * down g in
    let y : ℕ = n * up g * down e in
    let w : ℕ = down e * down g in
    let l : x * (c * d) ≡ m * up e * c * (down g * d) = mul-mul-mul_comm (m * up e) (down g) c d in
    let l' : a * down e * (down g * d) ≡ a * d * w = simp (mul_assoc, mul_comm, mul_left_comm) in
    let r : y * (c * d) ≡ n * up g * d * (down e * c) = simp (mul_assoc, mul_comm, mul_left_comm) in
    let r' : b * down g * (down e * c) ≡ b * c * w = simp (mul_assoc, mul_comm, mul_left_comm) in
    sym (ltb_scale (c * d) (mul-pos C D) x y)
    ∙ (λ i. ltb ((l ∙ ap (λ (z : ℕ). z * (down g * d)) h.1 ∙ l') i) ((r ∙ ap (λ (z : ℕ). z * (down e * c)) k.1 ∙ r') i))
    ∙ ltb_scale w (mul-pos (down_pos e) (down_pos g)) (a * d) (b * c)

pub lt_or_eq : (a b : ℕ) → T (ltb a b || (eqb a b && true)) → a ≤ b
lt_or_eq a b t =
    ⊎_elim (λ u. le_of_lt (ltb→lt a b u)) (λ u. le_of_eq (eqb→eq a b (and_l (eqb a b) true u))) (split (ltb a b) (eqb a b && true) t)
  where
    split : (p q : Bool) → T (p || q) → T p ⊎ T q
    split true q t = inl tt
    split false q t = inr t

pub le_values : (x y : Float) (a c b d : ℕ) → HasValue x false a c → HasValue y false b d → T (le x y) → a * d ≤ b * c
unfolding le
le_values nan y a c b d h k l = absurd h
le_values (inf s) y a c b d h k l = absurd h
le_values (fin true m e) y a c b d h k l = absurd (true≢false h.0)
le_values (fin false m e) nan a c b d h k l = absurd k
le_values (fin false m e) (inf t) a c b d h k l = absurd k
le_values (fin false m e) (fin true n g) a c b d h k l = absurd (true≢false k.0)
le_values (fin false m e) (fin false n g) a c b d h k l =
    transfer a b c d (m * up e) (n * up g) (down e) (down g) (down_pos e) (down_pos g) (sym h.1) (sym k.1)
    (lt_or_eq (m * up e * down g) (n * up g * down e) l)

-- ---- the shape of what `round` gives
abbrev pub Shape : Bool → Float → Type 0
Shape s x = (x ≡ inf s) ⊎ ((m : ℕ) × (e : ℤ) × (x ≡ fin s m e))

odd_shape : (d : ℕ) (s : Bool) (q k l : ℕ) → (m : ℕ) × (e : ℤ) × (odd d s q k l ≡ fin s m e)
unfolding odd
odd_shape d s zero k l = (_, _, refl)
odd_shape d s (suc q) k l = (_, _, refl)

units_shape : (f : Format) (s : Bool) (q k : ℕ) → Shape s (units f s q k)
unfolding units
units_shape f s q k = go (ltb (q * 2 ^ k) (2 ^ (low f + suc (emax f))))
  where
    go : (b : Bool) → Shape s (cond b (odd (suc (prec f)) s q k (low f)) (inf s))
    go true = inr (odd_shape (suc (prec f)) s q k (low f))
    go false = inl refl

pub round_shape : (f : Format) (s : Bool) (a c : ℕ) → Shape s (round f s a c)
round_shape f s a c = subst (Shape s) (sym (round_is f s a c)) (units_shape f s _ _)
