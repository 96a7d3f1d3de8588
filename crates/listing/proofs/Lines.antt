-- Words put behind one another make the lines.
-- Assumes nothing.
use mathlib.Core.Path.{◌≡◌, refl, sym, ap, ◌∙◌}
use mathlib.Core.List.{List, [], ◌∷◌, ◌++◌, map, append-nil, append_assoc}
use Prim.Native.Nat.{ℕ, suc, ◌+◌, ◌-◌, ◌*◌, ◌≤◌, ◌<◌}
use native.Mathlib.Nat.{suc-mul, add-mul, one-mul, zero-mul, sub-zero, mul-le-mul_right}
use native.Mathlib.Omega.{arith}
use lib.Ieee.{Float, nan}
use lib.ListN.{length, get_or, take, drop, length-append, length-drop, length-take, drop_of_length-le, replicate, length-replicate}
use lib.Seq.{paste, drop-cons, drop-drop, take-paste, length-paste, take-length, get_or-take, get_or-drop}
use Rattle.opcodes.specs.declared.grid.Size.{Size}
use Rattle.rows.specs.Facts.Part.{AllInUnit}
use Rattle.listing.specs.Text.{decimal_of, value_text, end_text, values_text, refused_word, frame_word, refused_text, frame_text}
use Rattle.listing.specs.Facts.Body.{Puts, lines_text}
use Rattle.listing.proofs.Numerals.{value_length, decimal_short}

-- a whole word copied
pub pasted : (old word new : List ℕ) (at n : ℕ) → new ≡ paste old at word n → n ≡ length word → at + length word ≤ length old →
    Puts old at word new (at + n)
pasted old word new at n e k h =
    let m : n ≤ length word = omega arith in
    let w : take n word ≡ word = ap (λ (i : ℕ). take i word) k ∙ take-length word in
    let s : at ≤ length old = omega arith in (
      ap (λ (i : ℕ). at + i) k,
      ap (λ (xs : List ℕ). take (at + n) xs) e ∙ take-paste old at word n s m ∙ ap (λ (xs : List ℕ). take at old ++ xs) w,
      ap length e ∙ length-paste old at word n (omega arith) m,
    )

-- one word behind another
pub puts_two :
    (old mid new u w : List ℕ) (at p q : ℕ) → Puts old at u mid p → Puts mid p w new q → Puts old at (u ++ w) new q
puts_two old mid new u w at p q a b =
    let l = length-append u w in (
      omega (arith, a.0, b.0, l),
      b.1 ∙ ap (λ (xs : List ℕ). xs ++ w) a.1 ∙ append_assoc (take at old) u w,
      b.2 ∙ a.2,
    )

-- a word put at the start is the text
pub puts_whole : (old new w : List ℕ) (q : ℕ) → Puts old 0 w new q → (q ≤ length new) × (take q new ≡ w)
puts_whole old new w q p =
    let l : length (take q new) ≡ length w = ap length p.1 in
    let k = length-take q new in
    (omega (arith, p.0, l, k), p.1)

-- ---- a line of values
end_length : (xs : List Float) → length (end_text (map value_text xs)) ≡ 17 * length xs + 1
end_length [] = refl
end_length (x ∷ xs) =
    let e = end_length xs in
    let v = value_length x in
    length-append (32 ∷ value_text x) (end_text (map value_text xs)) ∙ omega (arith, e, v)

pub line_length : (xs : List Float) → 1 ≤ length xs → length (values_text xs) ≡ 17 * length xs
line_length [] h = absurd (omega arith)
line_length (x ∷ xs) h =
    let e = end_length xs in
    let v = value_length x in
    length-append (value_text x) (end_text (map value_text xs)) ∙ omega (arith, e, v)

-- ---- the first line is short
numbers_short : (ns : List ℕ) → length (end_text (map decimal_of ns)) ≤ 21 * length ns + 1
numbers_short [] = omega arith
numbers_short (n ∷ ns) =
    let a = length-append (32 ∷ decimal_of n) (end_text (map decimal_of ns)) in
    omega (arith, a, numbers_short ns, decimal_short n)

pub refused_short : (n d : ℕ) → length (refused_text n d) ≤ 50
refused_short n d =
    let ns : List ℕ = n ∷ d ∷ [] in
    let a : length (refused_text n d) ≡ 7 + length (end_text (map decimal_of ns)) = length-append refused_word (end_text (map decimal_of ns)) in
    omega (arith, a, numbers_short ns)

pub frame_short : (z : Size) → length (frame_text z) ≤ 69
frame_short z =
    let ns : List ℕ = z.rows ∷ z.columns ∷ z.samples ∷ [] in
    let a : length (frame_text z) ≡ 5 + length (end_text (map decimal_of ns)) = length-append frame_word (end_text (map decimal_of ns)) in
    omega (arith, a, numbers_short ns)

-- ---- a line's values, one by one
-- the first i values are put; `old` has the first one, to `start`
pub record Lined (xs : List Float) (old : List ℕ) (start i : ℕ) (text : List ℕ) (end : ℕ) : Type 0 where
  pub some : 1 ≤ i
  pub most : i ≤ length xs
  pub place : end + 17 ≡ start + 17 * i
  pub same : length text ≡ length old
  pub line : take end text ++ end_text (map value_text (drop i xs)) ≡ take start old ++ end_text (map value_text (drop 1 xs))

module _ (xs : List Float) where
  pub lined_start : (old : List ℕ) (start : ℕ) → 1 ≤ length xs → Lined xs old start 1 old start
  lined_start old start h = record { some = omega arith; most = h; place = omega arith; same = refl; line = refl }

  pub lined_next :
      (old : List ℕ) (start i : ℕ) (text mid new : List ℕ) (end p q : ℕ) → Lined xs old start i text end → i < length xs
      → Puts text end (32 ∷ []) mid p → Puts mid p (value_text (get_or xs i nan)) new q → Lined xs old start (i + 1) new q
  lined_next old start i text mid new end p q l h a b =
      let v = value_length (get_or xs i nan) in
      let word : List ℕ = 32 ∷ value_text (get_or xs i nan) in
      let rest = end_text (map value_text (drop (suc i) xs)) in
      let s : suc i ≡ i + 1 = omega arith in
      let t = puts_two text mid new (32 ∷ []) (value_text (get_or xs i nan)) end p q a b in
      let d : drop i xs ≡ get_or xs i nan ∷ drop (suc i) xs = drop-cons xs i nan h in
      let e : word ++ rest ≡ end_text (map value_text (drop i xs)) = sym (ap (λ (ys : List Float). end_text (map value_text ys)) d) in
      record {
        some = omega arith;
        most = omega arith;
        place = omega (arith, t.0, v, l.place);
        same = t.2 ∙ l.same;
        line = ap (λ (k : ℕ). take q new ++ end_text (map value_text (drop k xs))) (sym s) ∙ ap (λ (ys : List ℕ). ys ++ rest) t.1
            ∙ append_assoc (take end text) word rest ∙ ap (λ (ys : List ℕ). take end text ++ ys) e ∙ l.line;
      }

  pub lined_end :
      (old mid text new : List ℕ) (at start i end q : ℕ) → 1 ≤ length xs → Puts old at (value_text (get_or xs 0 nan)) mid start
      → Lined xs mid start i text end → length xs ≤ i → Puts text end (10 ∷ []) new q → Puts old at (values_text xs) new q
  lined_end old mid text new at start i end q g p l h b =
      let v = value_length (get_or xs 0 nan) in
      let n : length xs ≡ i = omega (arith, l.most) in
      let k = line_length xs g in
      let first = value_text (get_or xs 0 nan) in
      let rest = end_text (map value_text (drop 1 xs)) in
      let d : drop i xs ≡ [] = drop_of_length-le xs h in
      let e : end_text (map value_text (drop i xs)) ≡ 10 ∷ [] = ap (λ (ys : List Float). end_text (map value_text ys)) d in
      let x : xs ≡ get_or xs 0 nan ∷ drop 1 xs = drop-cons xs 0 nan g in
      let y : first ++ rest ≡ values_text xs = sym (ap values_text x) in (
        omega (arith, b.0, l.place, k, n, p.0, v),
        b.1 ∙ ap (λ (ys : List ℕ). take end text ++ ys) (sym e) ∙ l.line ∙ ap (λ (ys : List ℕ). ys ++ rest) p.1
            ∙ append_assoc (take at old) first rest ∙ ap (λ (ys : List ℕ). take at old ++ ys) y,
        b.2 ∙ l.same ∙ p.2,
      )

-- those behind the first, as a slice
pub rest_length : (xs : List Float) → length (take (length xs - 1) (drop 1 xs)) ≡ length xs - 1
rest_length xs = simp (length-take, length-drop) (omega arith)

pub rest_at : (xs : List Float) (k : ℕ) → k + 1 < length xs → get_or (take (length xs - 1) (drop 1 xs)) k nan ≡ get_or xs (k + 1) nan
rest_at xs k h =
    let e : 1 + k ≡ k + 1 = omega arith in
    get_or-take (length xs - 1) (drop 1 xs) k nan (omega arith) ∙ get_or-drop 1 xs k nan ∙ ap (λ (i : ℕ). get_or xs i nan) e

-- ---- lines
pub units_part : (xs : List Float) (a m : ℕ) → a + m ≤ length xs → AllInUnit xs → AllInUnit (take m (drop a xs))
units_part xs a m h u k b =
    let l : length (take m (drop a xs)) ≡ m = simp (length-take, length-drop) (omega arith) in
    let e : get_or (take m (drop a xs)) k nan ≡ get_or xs (a + k) nan = get_or-take m (drop a xs) k nan (omega arith) ∙ get_or-drop a xs k nan in
    rw e (u (a + k) (omega arith))

-- i of h lines are put
pub record Lines (xs : List Float) (m h : ℕ) (old : List ℕ) (i a : ℕ) (text : List ℕ) (end : ℕ) : Type 0 where
  pub most : i ≤ h
  pub values : a ≡ i * m
  pub place : end ≡ 17 * a
  pub same : length text ≡ length old
  pub lines : take end text ++ lines_text m (h - i) (drop a xs) ≡ lines_text m h xs

module _ (xs : List Float) (m h : ℕ) (old : List ℕ) where
  pub lines_start : Lines xs m h old 0 0 old 0
  lines_start = record {
    most = omega arith;
    values = sym (zero-mul m);
    place = refl;
    same = refl;
    lines = ap (λ (j : ℕ). lines_text m j xs)
        (sub-zero h);
  }

  -- the next line's values, and those that are put
  pub lines_inside : (i a : ℕ) (text : List ℕ) (end : ℕ) → Lines xs m h old i a text end → length xs ≡ h * m → i < h → a + m ≤ length xs
  lines_inside i a text end l n b = omega (arith, n, l.values, suc-mul i m, mul-le-mul_right m b)

  pub lines_put : (i a : ℕ) (text : List ℕ) (end : ℕ) → Lines xs m h old i a text end → length xs ≡ h * m → a ≤ length xs
  lines_put i a text end l n = omega (arith, n, l.values, mul-le-mul_right m l.most)

  pub lines_next :
      (i a e w : ℕ) (text new : List ℕ) (end q : ℕ) → Lines xs m h old i a text end → i < h → 1 ≤ m → length xs ≡ h * m → e ≡ a + m → w ≡ m
      → Puts text end (values_text (take w (drop a xs))) new q → Lines xs m h old (i + 1) e new q
  unfolding lines_text
  lines_next i a e w text new end q l b s n ea ew p =
      let o = suc-mul i m in
      let g = lines_inside i a text end l n b in
      let k : length (take w (drop a xs)) ≡ m = simp (ew, length-take, length-drop) (omega arith) in
      let ln : length (values_text (take w (drop a xs))) ≡ 17 * length (take w (drop a xs)) = line_length (take w (drop a xs)) (omega arith)
      in
      let r : h - i ≡ suc (h - (i + 1)) = omega arith in
      let d : drop m (drop a xs) ≡ drop e xs = drop-drop m a xs ∙ ap (λ (j : ℕ). drop j xs) (sym ea) in
      let line = values_text (take w (drop a xs)) in
      let rest = lines_text m (h - (i + 1)) (drop e xs) in
      let t : line ++ rest ≡ lines_text m (h - i) (drop a xs) =
      sym (ap (λ (j : ℕ). lines_text m j (drop a xs)) r
      ∙ ap (λ (j : ℕ). values_text (take j (drop a xs)) ++ lines_text m (h - (i + 1)) (drop m (drop a xs))) (sym ew)
      ∙ ap (λ (ys : List Float). line ++ lines_text m (h - (i + 1)) ys) d) in
      record {
        most = omega arith;
        values = omega (arith, ea, l.values, o, add-mul i 1 m, one-mul m);
        place = omega (arith, p.0, ln, k, l.place, ea);
        same = p.2 ∙ l.same;
        lines = ap (λ (ys : List ℕ). ys ++ rest) p.1 ∙ append_assoc (take end text) line rest
            ∙ ap (λ (ys : List ℕ). take end text ++ ys) t ∙ l.lines;
      }

  pub lines_end : (i a : ℕ) (text : List ℕ) (end : ℕ) → Lines xs m h old i a text end → h ≤ i → take end text ≡ lines_text m h xs
  unfolding lines_text
  lines_end i a text end l b =
      let z : h - i ≡ 0 = omega arith in
      let e : lines_text m (h - i) (drop a xs) ≡ [] = ap (λ (j : ℕ). lines_text m j (drop a xs)) z in
      sym (append-nil (take end text)) ∙ ap (λ (ys : List ℕ). take end text ++ ys) (sym e) ∙ l.lines

-- an array of n zeros
pub space : (n : ℕ) → n ≡ length {A = ℕ} (replicate n 0)
space n = sym (length-replicate n 0)
