-- Loops that fill a list place by place, or part by part; and the scaled values of a line.
-- Assumes nothing.
use mathlib.Core.Path.{◌≡◌, refl, sym, ap, ◌∙◌, subst}
use mathlib.Core.Logic.{⊎_elim}
use mathlib.Core.List.{List, ◌++◌}
use Prim.Native.Nat.{ℕ, ◌+◌, ◌-◌, ◌*◌, ◌/◌, ◌%◌, ◌≤◌, ◌<◌, min}
use native.Mathlib.Nat.{ne_of_lt, mul-add, add_assoc, add-mul, mul-le-mul_right}
use native.Mathlib.Omega.{arith}
use lib.IntN.{ℤ, pos, nat_abs, ◌+ℤ◌, +ℤ_idr}
use lib.Ieee.{Float, nan, binary64, add}
use lib.ListN.{length, get_or, set, take, drop, replicate, length-take, get_or-append, get_or-eq_default}
use lib.Seq.{get_or-set_same, get_or-set_other, get_or-append-add, get_or-take, get_or-drop, length-take-le}
use Rattle.std.proofs.lemmas.Grind.{div_ceil_times}
use mir.Syntax.{w32, w64}
use mir.Val.{SFits, to_z, of_z}
use mir.Facts.{to_z-of_z}
use Rattle.reading.specs.Bytes.{part}
use Rattle.reading.specs.Number.{number_of}
use Rattle.reading.specs.declared.number.Order.{Order}
use Rattle.reading.proofs.Magnitude.{mag_le, nat_abs_add, sfits64}
use Rattle.reading.proofs.Wholes.{le_or_lt}
use Rattle.levels.specs.Facts.Black.{most_black, Small}
use Rattle.levels.specs.Level.{difference_of, level_of, scaled_of}
use Rattle.levels.specs.Facts.Reciprocal.{of_parts}
use Rattle.levels.proofs.Fills.{zeros_at}
use Rattle.levels.proofs.Runs.{through_none}
use Rattle.levels.proofs.Values.{add_parts}
use Rattle.samples.specs.Facts.Line.{Filled, number_at, line_value, LineIn, Levelled, Celled, Repeating}
use Rattle.samples.specs.declared.line.Line.{Line}

-- ---- what signed locals hold
pub back : (z : ℤ) → nat_abs z < 0x1_0000_0000 → to_z w64 (of_z w64 z) ≡ z
back z h = to_z-of_z (sfits64 z (omega arith))

pub sfits32 : (z : ℤ) → nat_abs z ≤ most_black → SFits w32 (to_z w64 (of_z w64 z))
sfits32 z h = rw (back z (omega arith)) (record { sfits = omega (arith, mag_le z) })

pub back32 : (z : ℤ) → nat_abs z ≤ most_black → to_z w32 (of_z w32 z) ≡ z
back32 z h = to_z-of_z {w = w32} (record { sfits = omega (arith, mag_le z) })

pub held_short : (z : ℤ) → nat_abs z ≤ most_black → to_z w32 (of_z w32 (to_z w64 (of_z w64 z))) ≡ z
held_short z h = to_z-of_z (sfits32 z h) ∙ back z (omega arith)

pub sfits64_of32 : (z : ℤ) → nat_abs z ≤ most_black → SFits w64 (to_z w32 (of_z w32 z))
sfits64_of32 z h = rw (back32 z h) (sfits64 z (omega arith))

pub held_long : (z : ℤ) → nat_abs z ≤ most_black → to_z w64 (of_z w64 (to_z w32 (of_z w32 z))) ≡ z
held_long z h = to_z-of_z (sfits64_of32 z h) ∙ back32 z h

-- ---- a list that has as many numbers as another
pub fits : (n m k : ℕ) → k ≡ m → n ≤ m → n ≤ k
fits n m k e h = omega arith

-- ---- a part of a list that is replaced
module _ {A : Type 0} (d : A) (a n : ℕ) (xs ys : List A) where
  abbrev replaced : List A
  replaced = take a xs ++ (ys ++ drop n (drop a xs))

  pub put_before : (k : ℕ) → a ≤ length xs → k < a → get_or replaced k d ≡ get_or xs k d
  put_before k h b =
      let e : length (take a xs) ≡ a = length-take-le a xs h in
      get_or-append (take a xs) (ys ++ drop n (drop a xs)) d k (omega arith) ∙ get_or-take a xs k d b

  pub put_inside : (k : ℕ) → a ≤ length xs → k < length ys → get_or replaced (a + k) d ≡ get_or ys k d
  put_inside k h b =
      let e : a + k ≡ length (take a xs) + k = ap (λ (z : ℕ). z + k) (sym (length-take-le a xs h)) in
      ap (λ (z : ℕ). get_or replaced z d) e ∙ get_or-append-add (take a xs) (ys ++ drop n (drop a xs)) k d
      ∙ get_or-append ys (drop n (drop a xs)) d k b

-- ---- place by place, and part by part
module _ {A : Type 0} (d : A) (g : ℕ → A) where
  pub filled_none : (xs : List A) → Filled d g 0 xs
  filled_none xs k h = absurd (omega arith)

  pub filled_more : (j : ℕ) (xs : List A) (v : A) → j < length xs → Filled d g j xs → v ≡ g j → Filled d g (j + 1) (set xs j v)
  filled_more j xs v h w e k l =
      ⊎_elim (λ b. let q : j ≡ k = omega arith in subst (λ (n : ℕ). get_or (set xs j v) n d ≡ g n) q (get_or-set_same xs j v d h ∙ e))
      (λ b. get_or-set_other xs j k v d (ne_of_lt b) ∙ w k b) (le_or_lt j k)

  pub filled_part :
      (a e : ℕ) (xs ys : List A) → a ≤ e → e ≤ length xs → length ys ≡ e - a → Filled d g a xs → Filled d (λ k. g (a + k)) (e - a) ys
      → Filled d g e (take a xs ++ (ys ++ drop (e - a) (drop a xs)))
  filled_part a e xs ys ae el m w v k l =
      ⊎_elim
      (λ b. let j : a + (k - a) ≡ k = omega arith in
      ap (λ (z : ℕ). get_or (take a xs ++ (ys ++ drop (e - a) (drop a xs))) z d) (sym j)
      ∙ put_inside d a (e - a) xs ys (k - a) (omega arith) (omega arith) ∙ v (k - a) (omega arith) ∙ ap g j)
      (λ b. put_before d a (e - a) xs ys k (omega arith) b ∙ w k b)
      (le_or_lt a k)

-- rows of q each, one behind the other
pub rows_more : {A : Type 0} (d : A) (g : ℕ → ℕ → A) (q r a : ℕ) (xs ys : List A) → a ≡ r * q → a + q ≤ length xs → length ys ≡ q
    → ((s k : ℕ) → s < r → k < q → get_or xs (s * q + k) d ≡ g s k) → Filled d (g r) q ys
    → (s k : ℕ) → s < r + 1 → k < q → get_or (take a xs ++ (ys ++ drop (a + q - a) (drop a xs))) (s * q + k) d ≡ g s k
rows_more d g q r a xs ys e l m w v s k h b =
    ⊎_elim
    (λ i. let j : r ≡ s = omega arith in
    let t : s * q + k ≡ a + k = ap (λ (z : ℕ). z * q + k) (sym j) ∙ ap (λ (z : ℕ). z + k) (sym e) in
    ap (λ (z : ℕ). get_or (take a xs ++ (ys ++ drop (a + q - a) (drop a xs))) z d) t
    ∙ put_inside d a (a + q - a) xs ys k (omega arith) (omega arith) ∙ v k b ∙ ap (λ (z : ℕ). g z k) j)
    (λ i. let n : (s + 1) * q ≤ r * q = mul-le-mul_right q (omega arith) in
    put_before d a (a + q - a) xs ys (s * q + k) (omega arith) (omega (arith, add-mul s 1 q)) ∙ w s k i b)
    (le_or_lt r s)

-- group by group, n to a group
module _ (n len count g : ℕ) (some : 1 ≤ n) (q : count ≡ len / n + min 1 (len % n)) where
  times : (len ≤ count * n) × (count * n < len + n)
  times = rw q (div_ceil_times len n some)

  pub groups_told : g < count → g * n < len
  groups_told h = let m : (g + 1) * n ≤ count * n = mul-le-mul_right n (omega arith) in omega (arith, add-mul g 1 n, times)

  pub groups_whole : count ≤ g → len ≤ g * n
  groups_whole h = let m : count * n ≤ g * n = mul-le-mul_right n h in omega (arith, times)

-- the numbers of a part of a list
pub part_at : {A : Type 0} (d : A) (a n k : ℕ) (xs : List A) → k < n → get_or (take n (drop a xs)) k d ≡ get_or xs (a + k) d
part_at d a n k xs h = get_or-take n (drop a xs) k d h ∙ get_or-drop a xs k d

-- ---- a line
pub value_is : (f : List ℕ) (l : Line) (black span : ℕ → ℤ) (k : ℕ) (x : Float) (v : ℕ) → v ≡ number_at f l k
    → x ≡ scaled_of (level_of (difference_of v (black k)) (span k)) → x ≡ line_value f l black span k
unfolding line_value
value_is f l black span k x v e h = h ∙ ap (λ (n : ℕ). scaled_of (level_of (difference_of n (black k)) (span k))) e

-- a sample of b bytes, without a table
abbrev pub plain_number : List ℕ → Order → ℕ → ℕ → ℕ → ℕ
plain_number f o b at k = number_of o (part f (at + b * k) b)

abbrev pub plain_value : List ℕ → Order → ℕ → ℕ → (ℕ → ℤ) → (ℕ → ℤ) → ℕ → Float
plain_value f o b at black span k = scaled_of (level_of (difference_of (plain_number f o b at k) (black k)) (span k))

pub plain_inside : (f : List ℕ) (l : Line) (n b k : ℕ) → LineIn f l n → l.bytes ≡ b → k < n → l.place + b * k + b ≤ length f
plain_inside f l n b k w e h = subst (λ (m : ℕ). l.place + m * k + m ≤ length f) e (w.inside k h)

pub plain_number_law : (f : List ℕ) (l : Line) (b k : ℕ) → l.bytes ≡ b → l.count ≡ 0 →
    plain_number f l.order b l.place k ≡ number_at f l k
plain_number_law f l b k e z =
    let v : ℕ → ℕ = λ m. plain_number f l.order m l.place k in
    ap v (sym e) ∙ sym (through_none (λ (p : ℕ). number_of l.order (part f p 2)) 2 l.table l.count (v l.bytes) z)

pub plain_value_law : (f : List ℕ) (l : Line) (b : ℕ) (black span : ℕ → ℤ) (k : ℕ) → l.bytes ≡ b → l.count ≡ 0
    → plain_value f l.order b l.place black span k ≡ line_value f l black span k
plain_value_law f l b black span k e z = value_is f l black span k _ (plain_number f l.order b l.place k) (plain_number_law f l b k e z) refl

-- the same line from its i-th sample on
abbrev pub from : Line → ℕ → Line
from l i =
    record { order = l.order; bytes = l.bytes; place = l.place + l.bytes * i; table = l.table; count = l.count; down = l.down }

place_from : (l : Line) (i k : ℕ) → l.place + l.bytes * i + l.bytes * k ≡ l.place + l.bytes * (i + k)
place_from l i k = omega (arith, mul-add l.bytes i k)

pub line_from : (f : List ℕ) (l : Line) (i n m : ℕ) → i + n ≤ m → LineIn f l m → LineIn f (from l i) n
line_from f l i n m h w =
    record {
      inside = λ k b. rw (place_from l i k) (w.inside (i + k) (omega arith));
      some = w.some;
      few = w.few;
      table = w.table;
    }

pub value_from : (f : List ℕ) (l : Line) (black black' span span' : ℕ → ℤ) (i k : ℕ) → black' k ≡ black (i + k) → span' k ≡ span (i + k)
    → line_value f (from l i) black' span' k ≡ line_value f l black span (i + k)
unfolding line_value
value_from f l black black' span span' i k b s = rw (place_from l i k, b, s)

-- ---- B from its cell and its deltas
part_sum : (a b : ℤ) (x y : Float) (m n : ℕ) → nat_abs a ≤ m → nat_abs b ≤ n → m + n ≤ 50330880 → x ≡ of_parts a → y ≡ of_parts b
    → (nat_abs (a +ℤ b) ≤ m + n) × (add binary64 x y ≡ of_parts (a +ℤ b))
part_sum a b x y m n h k s e q = (
  omega (arith, nat_abs_add a b),
  ap (λ (z : Float). add binary64 z y) e ∙ ap (add binary64 (of_parts a)) q
      ∙ add_parts a b (omega arith) (omega arith),
)

module _ (cell span : ℕ → ℤ) (down : ℤ) (cells inverses : List Float) (y : Float) (n : ℕ) (c : Celled cell span down cells inverses y n)
  where
    -- no column has a delta
    pub levelled_plain : (m : ℕ) (delta : ℕ → ℤ) → m ≤ n → ((k : ℕ) → delta k ≡ pos 0) →
        Levelled (λ k. cell k +ℤ delta k +ℤ down) span cells inverses y m
    levelled_plain m delta h z =
        record {
          black_is = λ k b.
              let w = c.cell_is k (omega arith) in
              let e : cell k +ℤ delta k ≡ cell k = ap (λ (t : ℤ). cell k +ℤ t) (z k) ∙ +ℤ_idr (cell k) in
              let s = part_sum (cell k) down _ y most_black most_black w.small c.down_is.small (omega arith) w.number
              c.down_is.number in
              rw e (record { small = omega (arith, s.0); number = s.1 });
          inverse_is = λ k b. c.inverse_is k (omega arith);
        }

    -- the columns' deltas are in the sums
    pub levelled_sums : (m : ℕ) (delta : ℕ → ℤ) (sums : List Float) → m ≤ n → ((k : ℕ) → nat_abs (delta k) ≤ most_black)
        → Filled nan (λ k. add binary64 (get_or cells k nan) (of_parts (delta k))) m sums →
        Levelled (λ k. cell k +ℤ delta k +ℤ down) span sums inverses y m
    levelled_sums m delta sums h z f =
        record {
          black_is = λ k b.
              let w = c.cell_is k (omega arith) in
              let s = part_sum (cell k) (delta k) _ _ most_black most_black w.small (z k) (omega arith) w.number refl in
              let t = part_sum (cell k +ℤ delta k) down _ y 33553920 most_black s.0 c.down_is.small (omega arith) (f k b ∙ s.1)
              c.down_is.number in
              record { small = t.0; number = t.1 };
          inverse_is = λ k b. c.inverse_is k (omega arith);
        }

-- ---- piece after piece: cells and S are those of the first
module _ (cell span : ℕ → ℤ) (q len : ℕ) (r : Repeating cell span q len) where
  pub record Same (i : ℕ) : Type 0 where
    pub cells : i < len → (k : ℕ) → cell (i + k) ≡ cell k
    pub spans : i < len → (k : ℕ) → span (i + k) ≡ span k

  pub same_start : Same 0
  same_start = record { cells = λ h k. ap cell (omega arith); spans = λ h k. ap span (omega arith) }

  -- a piece of q samples, or the last
  pub same_next : (i e : ℕ) → (e < len → e ≡ i + q) → Same i → Same e
  same_next i e h s =
      record {
        cells = λ l k. let j : e ≡ i + q = h l in ap (λ (n : ℕ). cell (n + k)) j ∙ ap cell (add_assoc i q k)
            ∙ s.cells (omega arith) (q + k)
            ∙ r.cell_again (omega arith) k;
        spans = λ l k. let j : e ≡ i + q = h l in ap (λ (n : ℕ). span (n + k)) j ∙ ap span (add_assoc i q k)
            ∙ s.spans (omega arith) (q + k)
            ∙ r.span_again (omega arith) k;
      }

-- ---- zeros
pub zeros_part : (m n : ℕ) → Small (take m (replicate n (pos 0)))
zeros_part m n k =
    ⊎_elim (λ h. rw (get_or-eq_default (take m (replicate n (pos 0))) (pos 0) {n = k}
    (omega (arith, length-take m (replicate n (pos 0))))) (omega arith))
    (λ h. rw (get_or-take m (replicate n (pos 0)) k (pos 0) h, zeros_at n k) (omega arith)) (le_or_lt m k)
