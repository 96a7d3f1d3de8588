-- The greatest of a family: it is attained, and nothing is greater. Two such are equal.
-- Assumes nothing.
use mathlib.Core.Path.{◌≡◌, refl, sym, ap, ◌∙◌}
use mathlib.Core.Bool.{Bool, true, false}
use mathlib.Core.List.{List, [], ◌∷◌}
use Prim.Native.Nat.{ℕ, zero, suc, ◌+◌, ◌-◌, ◌*◌, ◌/◌, ◌%◌, ◌≤◌, ◌<◌}
use native.Mathlib.Nat.{not-suc-le-zero, le_of_suc-le-suc, one-mul, add-mul, mul-pos, mul-le-mul_right}
use native.Mathlib.Nat.{mod-lt, mod-eq_of_lt, mul-add-mod_self_right, div-eq_of_lt, mul-add-div_right, div-lt_iff_lt-mul}
use native.Mathlib.Omega.{arith}
use lib.IntN.{ℤ, pos}
use lib.ListN.{length, get_or}
use lib.Signed.{le_z}
use Rattle.levels.specs.Run.{run_of}
use Rattle.levels.specs.Levels.{greater_of, max_from, max_of, max_below}
use Rattle.levels.proofs.Runs.{length_run, run_at, run_next, run_over}
use Rattle.levels.proofs.SignedOrder.{le_z_refl, le_z_trans, le_z_antisym, greater_left, greater_right}

-- ---- the greatest of a family
pub record Greatest (X : Type 0) (f : X → ℤ) (z : ℤ) : Type 0 where
  pub at : X
  pub attained : f at ≡ z
  pub above : (x : X) → le_z (f x) z ≡ true

pub unique : (X : Type 0) (f : X → ℤ) (a b : ℤ) → Greatest X f a → Greatest X f b → a ≡ b
unique X f a b g h =
    let p : le_z a b ≡ true = rw (← g.attained) (h.above g.at) in
    let q : le_z b a ≡ true = rw (← h.attained) (g.above h.at) in
    le_z_antisym a b p q

pub record Meets (X Y : Type 0) (f : X → ℤ) (g : Y → ℤ) : Type 0 where
  pub to : X → Y
  pub to_same : (x : X) → g (to x) ≡ f x
  pub from : Y → X
  pub from_above : (y : Y) → le_z (g y) (f (from y)) ≡ true

-- where each of X is one of Y, and none of Y is above all of X, the greatest of X is the greatest of Y
pub carried_over : (X Y : Type 0) (f : X → ℤ) (g : Y → ℤ) (z : ℤ) → Meets X Y f g → Greatest X f z → Greatest Y g z
carried_over X Y f g z m h =
    record {
      at = m.to h.at;
      attained = m.to_same h.at ∙ h.attained;
      above = λ y. le_z_trans (g y) (f (m.from y)) z (m.from_above y) (h.above (m.from y));
    }

-- ---- of a list
pub record Below (n : ℕ) : Type 0 where
  pub place : ℕ
  pub inside : place < n

abbrev picked : (xs : List ℤ) → Below (length xs) → ℤ
picked xs x = get_or xs x.place (pos 0)

from_at : (m : ℤ) (xs : List ℤ) → (i : ℕ) → i < suc (length xs) → le_z (get_or (m ∷ xs) i (pos 0)) (max_from m xs) ≡ true
unfolding max_from
from_at m [] zero h = le_z_refl m
from_at m [] (suc i) h = absurd (not-suc-le-zero (le_of_suc-le-suc h))
from_at m (x ∷ xs) zero h =
    le_z_trans m (greater_of m x) (max_from (greater_of m x) xs) (greater_left m x) (from_at (greater_of m x) xs 0 (omega arith))
from_at m (x ∷ xs) (suc zero) h =
    le_z_trans x (greater_of m x) (max_from (greater_of m x) xs) (greater_right m x) (from_at (greater_of m x) xs 0 (omega arith))
from_at m (x ∷ xs) (suc (suc i)) h = from_at (greater_of m x) xs (suc i) (le_of_suc-le-suc h)

record Hit (xs : List ℤ) (z : ℤ) : Type 0 where
  at : Below (length xs)
  same : picked xs at ≡ z

one_more : (m x : ℤ) (xs : List ℤ) (z : ℤ) → Hit (greater_of m x ∷ xs) z → Hit (m ∷ x ∷ xs) z
one_more m x xs z h = go h.at.place (le_z m x) refl h.at.inside h.same
  where
    go : (i : ℕ) (t : Bool) → le_z m x ≡ t → i < suc (length xs) → get_or (greater_of m x ∷ xs) i (pos 0) ≡ z → Hit (m ∷ x ∷ xs) z
    go (suc i) t e k s = record { at = record { place = suc (suc i); inside = omega arith }; same = s }
    go zero true e k s = let q : x ≡ z = rw e at s in record { at = record { place = 1; inside = omega arith }; same = q }
    go zero false e k s = let q : m ≡ z = rw e at s in record { at = record { place = 0; inside = omega arith }; same = q }

from_hit : (m : ℤ) (xs : List ℤ) → Hit (m ∷ xs) (max_from m xs)
unfolding max_from
from_hit m [] = record { at = record { place = 0; inside = omega arith }; same = refl }
from_hit m (x ∷ xs) = one_more m x xs (max_from (greater_of m x) xs) (from_hit (greater_of m x) xs)

list_greatest : (xs : List ℤ) → 0 < length xs → Greatest (Below (length xs)) (picked xs) (max_of xs)
unfolding max_of
list_greatest [] h = absurd (not-suc-le-zero h)
list_greatest (x ∷ xs) h =
    let k = from_hit x xs in record { at = k.at; attained = k.same; above = λ b. from_at x xs b.place b.inside }

-- ---- of f 0 .. f (n - 1)
pub below_greatest : (n : ℕ) (f : ℕ → ℤ) → 0 < n → Greatest (Below n) (λ x. f x.place) (max_below n f)
unfolding max_below
below_greatest n f h =
    let xs = run_of f 1 0 n in
    let e : length xs ≡ n = length_run f 1 0 n in
    let some : 0 < length xs = rw e h in
    carried_over (Below (length xs)) (Below n) (picked xs) (λ x. f x.place) (max_of xs) (meets xs refl e) (list_greatest xs some)
  where
    same : (i : ℕ) → i < n → f i ≡ get_or (run_of f 1 0 n) i (pos 0)
    same i k = let e : 0 + 1 * i ≡ i = omega (arith, one-mul i) in sym (run_at f 1 0 n i (pos 0) k ∙ ap f e)

    meets : (xs : List ℤ) → xs ≡ run_of f 1 0 n → length xs ≡ n → Meets (Below (length xs)) (Below n) (picked xs) (λ x. f x.place)
    meets xs q e =
        record {
          to = λ a. record { place = a.place; inside = rw (← e) a.inside };
          to_same = λ a. rw q (same a.place (rw (← e) a.inside));
          from = λ b. record { place = b.place; inside = rw e b.inside };
          from_above = λ b. rw (q, ← same b.place b.inside) (le_z_refl (f b.place));
        }

-- where all are 0, 0
module _ (f : ℕ → ℤ) (zeros : (k : ℕ) → f k ≡ pos 0) where
  from_zeros : (a n : ℕ) → max_from (pos 0) (run_of f 1 a n) ≡ pos 0
  unfolding run_of max_from
  from_zeros a zero = refl
  from_zeros a (suc n) = rw (zeros a) (from_zeros (a + 1) n)

  pub below_zeros : (n : ℕ) → max_below n f ≡ pos 0
  unfolding max_below run_of max_of
  below_zeros zero = refl
  below_zeros (suc n) = rw (zeros 0) (from_zeros (0 + 1) n)

-- ---- of f 0 0 .. f (n - 1) (m - 1), row by row
pub record Spot (n m : ℕ) : Type 0 where
  pub row : Below n
  pub column : Below m

pub spots_greatest : (n m : ℕ) (f : ℕ → ℕ → ℤ) → 0 < n → 0 < m →
    Greatest (Spot n m) (λ s. f s.row.place s.column.place) (max_below n (λ i. max_below m (f i)))
spots_greatest n m f h k =
    let g = below_greatest n (λ (i : ℕ). max_below m (f i)) h in
    let b = below_greatest m (f g.at.place) k in
    record {
      at = record { row = g.at; column = b.at };
      attained = b.attained ∙ g.attained;
      above = λ s.
          le_z_trans (f s.row.place s.column.place) (max_below m (f s.row.place)) (max_below n (λ i. max_below m (f i)))
          ((below_greatest m (f s.row.place) k).above s.column) (g.above s.row);
    }

-- the same, pair after pair
pub pairs_greatest : (n m : ℕ) (f : ℕ → ℕ → ℤ) → 0 < n → 0 < m →
    Greatest (Spot n m) (λ s. f s.row.place s.column.place) (max_below (n * m) (λ k. f (k / m) (k % m)))
pairs_greatest n m f h k =
    carried_over (Below (n * m)) (Spot n m) (λ x. f (x.place / m) (x.place % m)) (λ s. f s.row.place s.column.place) _ meets
    (below_greatest (n * m) (λ (k : ℕ). f (k / m) (k % m)) (mul-pos h k))
  where
    quotient : (i j : ℕ) → j < m → (i * m + j) / m ≡ i
    quotient i j l = omega (arith, mul-add-div_right k i j, div-eq_of_lt l)

    rest : (i j : ℕ) → j < m → (i * m + j) % m ≡ j
    rest i j l = mul-add-mod_self_right i m j ∙ mod-eq_of_lt l

    pair_below : (i j : ℕ) → i < n → j < m → i * m + j < n * m
    pair_below i j a b = omega (arith, mul-le-mul_right m a, add-mul i 1 m, one-mul m)

    meets : Meets (Below (n * m)) (Spot n m) (λ x. f (x.place / m) (x.place % m)) (λ s. f s.row.place s.column.place)
    meets =
        record {
          to = λ x.
              record {
                row = record { place = x.place / m; inside = (div-lt_iff_lt-mul k).1 x.inside };
                column = record { place = x.place % m; inside = mod-lt x.place k };
              };
          to_same = λ x. refl;
          from = λ s.
              record {
                place = s.row.place * m + s.column.place;
                inside = pair_below s.row.place s.column.place s.row.inside s.column.inside;
              };
          from_above = λ s.
              let i = s.row.place in
              let j = s.column.place in
              let l = s.column.inside in
              rw (quotient i j l, rest i j l) (le_z_refl (f i j));
        }

-- ---- as a loop finds it: the greatest of what is behind i, and the rest, make the whole
abbrev pub Folded : (ℕ → ℤ) → ℕ → ℕ → ℤ → Type 0
Folded f n i best = max_from best (run_of f 1 i (n - i)) ≡ max_below n f

pub fold_start : (f : ℕ → ℤ) (n : ℕ) (best : ℤ) → 1 ≤ n → best ≡ f 0 → Folded f n 1 best
unfolding max_below run_of max_of
fold_start f zero best h e = absurd (not-suc-le-zero h)
fold_start f (suc n) best h e = let q : suc n - 1 ≡ n = omega arith in rw (e, q)

module _ (f : ℕ → ℤ) (n : ℕ) where
  pub fold_step : (i : ℕ) (best next found : ℤ) → Folded f n i best → i < n → next ≡ f i → found ≡ greater_of best next →
      Folded f n (i + 1) found
  unfolding max_from
  fold_step i best next found s h e g =
      let more : max_from best (run_of f 1 i (n - i)) ≡ max_from (greater_of best (f i)) (run_of f 1 (i + 1) (n - (i + 1))) = rw
      (run_next f 1 i n i h) in
      rw (g, e) (sym more ∙ s)

  pub fold_end : (i : ℕ) (best : ℤ) → Folded f n i best → n ≤ i → best ≡ max_below n f
  unfolding max_from
  fold_end i best s h = let e : max_from best (run_of f 1 i (n - i)) ≡ best = rw (run_over f 1 i n i h) in sym e ∙ s
