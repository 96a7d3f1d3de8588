-- The blocks of a mosaic: their colour from two rows of samples, and the half window's answer.
-- Assumes nothing.
use mathlib.Core.Path.{◌≡◌, refl, sym, ap, ◌∙◌, subst}
use mathlib.Core.Bool.{Bool, true, false}
use mathlib.Core.List.{List, ◌++◌, append_assoc}
use Prim.Native.Nat.{ℕ, ◌+◌, ◌*◌, ◌/◌, ◌%◌, ◌≤◌, ◌<◌}
use native.Mathlib.Nat.{one-mul, mul-one, mul_assoc, mul-le-mul_right, zero-lt-suc, div-lt_iff_lt-mul, div-add-mod', mod-lt}
use native.Mathlib.Omega.{arith}
use lib.Dec.{eqb}
use lib.Ieee.{Float, nan}
use lib.ListN.{length, take, drop, get_or, set, get_or-append}
use lib.Seq.{drop-drop}
use borrow.Author.Tests.{eq-eqb, ne_eqb, eqb-true, eqb-false}
use Rattle.reading.specs.Reading.{run, pick}
use Rattle.reading.proofs.Reading.{run_answer, pick_yes, pick_no}
use Rattle.directory.specs.Out.{Out, Out.refused, Out.is}
use Rattle.directory.proofs.Outs.{bind_refused, bind_is, bind_inverse, same_value, not_refused}
use Rattle.levels.specs.Run.{run_of}
use Rattle.levels.proofs.Runs.{run_same, run_at, length_run}
use Rattle.levels.proofs.Unit.{unit, in_unit, unit_plain}
use Rattle.rawtags.specs.Pattern.{pattern_reading}
use Rattle.rawtags.specs.Facts.Pattern.{PatternIn}
use Rattle.raw.specs.declared.front.Picture.{Picture}
use Rattle.rawtags.specs.declared.pattern.Pattern.{Pattern}
use Rattle.rawtags.proofs.PatternLaws.{pattern_below}
use Rattle.colour.specs.Facts.Bounds.{All, Plus, Developed, Finite}
use Rattle.colour.specs.Pixel.{xyz_of, mean_of}
use Rattle.colour.specs.Tags.{colour_reading}
use Rattle.colour.specs.Facts.Tags.{ColourWithin}
use Rattle.colour.specs.declared.Colour.{Colour}
use Rattle.colour.specs.declared.pixel.Xyz.{Xyz}
use Rattle.colour.proofs.Passes.{three_of, three_stored}
use Rattle.colour.proofs.FinitePixel.{xyz_finite}
use Rattle.colour.proofs.Mean.{mean_developed}
use Rattle.opcodes.specs.Frame.{standing}
use Rattle.opcodes.specs.declared.grid.Size.{Size}
use Rattle.rows.specs.Facts.Part.{SizedIn}
use Rattle.std.specs.Prelude.{Result, Ok, Err}
use Rattle.directory.specs.declared.refusal.Refusal.{Refusal}
use Rattle.develop.specs.Calls.{Opened, size_of, frame_of, inside, joined, values_of, window_with, filled_of, channel_of, developed_in, alone_in}
use Rattle.half.specs.Half.{half_for, blocks_of, block_at, block_xyz, block_in, halved_of, half_window_of, half_window_call}
use Rattle.develop.specs.Facts.View.{Viewed}
use Rattle.develop.specs.Facts.Fill.{window_test}
use Rattle.half.specs.Facts.Half.{BlocksIn, pair_of, block_row}
use Rattle.develop.specs.declared.View.{View}
use Rattle.half.specs.declared.half_window.Half.{Half}
use Rattle.develop.proofs.Answers.{developed_alone, alone_is_unit, values_same, inside_fits}
use Rattle.develop.proofs.Called.{passed_inside, filled_passed, filled_refused, size_is}
use Rattle.develop.proofs.Windows.{joined_at, Rows, length_rows, rows_next, window_length, values_at_law, viewed_sized}

-- the k-th number of the r-th of some rows of blocks, three to a block
abbrev pub value : (f : List ℕ) (v : View) → Half → Viewed f v → ℕ → ℕ → ℕ → ℕ → Float
value f v m q top left r k = block_in m (alone_in f q.file) (top + r) (left + k / 3) (k % 3)

-- ---- a block depends on its own four samples
module _ (m : Half) (h : PatternIn m.pattern) (x y : ℕ → ℕ → ℕ → Float) where
  pub block_same : (i j a b : ℕ) → ((k : ℕ) → k < 4 → block_at x i j k ≡ block_at y a b k) → block_xyz m x i j ≡ block_xyz m y a b
  block_same i j a b e =
      let p = m.pattern in
      rw (e p.red h.red, e p.green1 h.green1, e p.green2 h.green2, e p.blue h.blue) refl

-- as code works it out
pub block_is :
    (m : Half) (x : ℕ → ℕ → ℕ → Float) (i j : ℕ) (r g1 g2 g b : Float) →
    r ≡ block_at x i j m.pattern.red → g1 ≡ block_at x i j m.pattern.green1 → g2 ≡ block_at x i j m.pattern.green2 →
    b ≡ block_at x i j m.pattern.blue → g ≡ mean_of g1 g2 → xyz_of m.colour r g b ≡ block_xyz m x i j
block_is m x i j r g1 g2 g b er e1 e2 eb eg = rw (er, eg, e1, e2, eb) refl

-- X, Y and Z of a block of developed values are finite
pub block_finite :
    (m : Half) → ColourWithin m.colour → PatternIn m.pattern → (x : ℕ → ℕ → ℕ → Float) (i j : ℕ) →
    ((k : ℕ) → k < 4 → Developed (block_at x i j k)) → All Finite (block_xyz m x i j).x (block_xyz m x i j).y (block_xyz m x i j).z
block_finite m c h x i j d =
    let p = m.pattern in
    let green = mean_developed _ _ (d p.green1 h.green1) (d p.green2 h.green2) in
    xyz_finite m.colour _ _ _ c (record { first = (d p.red h.red).0; second = green.0; third = (d p.blue h.blue).0 })

-- ---- two rows of samples, as code has them
pub pair_at : (xs : List Float) (w r c p : ℕ) → pair_of xs w r c p ≡ get_or xs (r * w + c) nan
unfolding pair_of
pair_at xs w r c p = refl

-- the two rows of a window of two, at the start of a list
module _ (x : ℕ → ℕ → ℕ → Float) (t l w : ℕ) (xs rest : List Float) (e : xs ≡ values_of x t l 2 w 1 ++ rest) where
  pair_values : (r c : ℕ) → r < 2 → c < w → pair_of xs w r c 0 ≡ x (t + r) (l + c) 0
  pair_values r c hr hc =
      let i : r * w + c ≡ r * (w * 1) + (c * 1 + 0) = ap (λ (n : ℕ). r * n + c) (sym (mul-one w)) ∙ omega (arith, mul-one c) in
      let m : r * w ≤ 1 * w = mul-le-mul_right w (omega arith) in
      let b : r * w + c < length (values_of x t l 2 w 1) = omega (arith, m, window_length x t l 2 w 1, mul-one w) in
      pair_at xs w r c 0 ∙ ap (λ (ys : List Float). get_or ys (r * w + c) nan) e
      ∙ get_or-append (values_of x t l 2 w 1) rest nan (r * w + c) b
      ∙ ap (λ (n : ℕ). get_or (values_of x t l 2 w 1) n nan) i ∙ values_at_law x t l 2 w 1 r c 0 nan hr hc (omega arith)

-- their blocks are those of the window
pub pair_blocks :
    (m : Half) → PatternIn m.pattern → (x : ℕ → ℕ → ℕ → Float) (i l n : ℕ) (xs rest : List Float) →
    xs ≡ values_of x (2 * i) (2 * l) 2 (2 * n) 1 ++ rest → block_row (block_in m (pair_of xs (2 * n))) 0 n 0 ≡ block_row (block_in m x) l n i
pair_blocks m h x i l n xs rest e = ap joined (run_same _ _ 1 1 0 l n (λ j b. ap (λ (v : Xyz). run_of (channel_of v) 1 0 3) (one j b)))
  where
    one : (j : ℕ) → j < n → block_xyz m (pair_of xs (2 * n)) 0 (0 + 1 * j) ≡ block_xyz m x i (l + 1 * j)
    one j b = block_same m h (pair_of xs (2 * n)) x 0 (0 + 1 * j) i (l + 1 * j) (λ k c.
        let r : 2 * i + (2 * 0 + k / 2) ≡ 2 * i + k / 2 = omega arith in
        let s : 2 * l + (2 * (0 + 1 * j) + k % 2) ≡ 2 * (l + 1 * j) + k % 2 = omega arith in
        pair_values x (2 * i) (2 * l) (2 * n) xs rest e (2 * 0 + k / 2) (2 * (0 + 1 * j) + k % 2) (omega arith) (omega (arith, one-mul j))
        ∙ ap (λ (n : ℕ). x n (2 * l + (2 * (0 + 1 * j) + k % 2)) 0) r ∙ ap (λ (n : ℕ). x (2 * i + k / 2) n 0) s)

-- ---- three values of each block
pub block_length : (x : ℕ → ℕ → ℕ → Float) (r c : ℕ) → length (run_of (x r c) 1 0 3) ≡ 3
block_length x r c = length_run (x r c) 1 0 3

three_is : (v : Xyz) → three_of v ≡ run_of (channel_of v) 1 0 3
unfolding run_of pick
three_is v = refl

pub block_stored :
    (m : Half) (x : ℕ → ℕ → ℕ → Float) (j a : ℕ) (old new : List Float) (v : Xyz) →
    Rows (λ (c : ℕ). run_of (block_in m x 0 c) 1 0 3) 3 0 j a old new → a + 3 ≤ length old → v ≡ block_xyz m x 0 j →
    Rows (λ (c : ℕ). run_of (block_in m x 0 c) 1 0 3) 3 0 (j + 1) (a + 3) old (set (set (set new a v.x) (a + 1) v.y) (a + 2) v.z)
block_stored m x j a old new v w h e =
    let z : 0 + j ≡ j = omega arith in
    rows_next _ 3 0 (λ c. block_length (block_in m x) 0 c) j a 3 old new (three_of v) _ w
    (three_is v ∙ ap (λ (u : Xyz). run_of (channel_of u) 1 0 3) e ∙ ap (λ (n : ℕ). run_of (block_in m x 0 n) 1 0 3) (sym z)) h refl
    (three_stored new a v (omega (arith, w.same)) ∙ append_assoc (take a new) (three_of v) (drop (a + 3) new)
    ∙ ap (λ (l : List Float). take a new ++ (three_of v ++ l)) (sym (drop-drop 3 a new)))

-- its numbers, by block and channel
pub block_row_at : (x : ℕ → ℕ → ℕ → Float) (l w r k : ℕ) → k < w * 3 → get_or (block_row x l w r) k nan ≡ x r (l + k / 3) (k % 3)
block_row_at x l w r k h =
    let c : k / 3 < w = (div-lt_iff_lt-mul (zero-lt-suc 2)).1 h in
    let p : k % 3 < 3 = mod-lt k (zero-lt-suc 2) in
    let z : 0 + 1 * (k % 3) ≡ k % 3 = omega (arith, one-mul (k % 3)) in
    ap (λ (n : ℕ). get_or (block_row x l w r) n nan) (sym (div-add-mod' k 3))
    ∙ joined_at (λ (c : ℕ). run_of (x r c) 1 0 3) 3 (block_length x r) l w (k / 3) (k % 3) nan c p
    ∙ run_at (x r (l + k / 3)) 1 0 3 (k % 3) nan p
    ∙ ap (x r (l + k / 3)) z

pub block_row_length : (x : ℕ → ℕ → ℕ → Float) (l w r : ℕ) → length (block_row x l w r) ≡ w * 3
block_row_length x l w r = length_rows (λ (c : ℕ). run_of (x r c) 1 0 3) 3 l (block_length x r) w l

-- ---- the tags of a half window
module _ (f : List ℕ) (p : Picture) where
  pub half_not : (p.raw.tags.frame.samples ≡ 1 → ⊥) → refused 15 0 ≡ run f (half_for p)
  unfolding half_for
  half_not e = simp (ne_eqb _ 1 e, pick_no, run_answer)

  module _ (e : p.raw.tags.frame.samples ≡ 1) where
    pub half_uncoloured : (n d : ℕ) → refused n d ≡ run f (colour_reading p.first) → refused n d ≡ run f (half_for p)
    unfolding half_for
    half_uncoloured n d h = rw (eq-eqb _ 1 e, pick_yes) (bind_refused f _ _ n d h)

    module _ (m : Colour) (em : is m ≡ run f (colour_reading p.first)) where
      pub half_unpatterned : (n d : ℕ) → refused n d ≡ run f (pattern_reading p.directory) → refused n d ≡ run f (half_for p)
      unfolding half_for
      half_unpatterned n d h = rw (eq-eqb _ 1 e, pick_yes) (bind_refused f _ _ n d h ∙ sym (bind_is f _ _ m em))

      pub half_is : (x : Pattern) → is x ≡ run f (pattern_reading p.directory) →
          is (record { colour = m; pattern = x }) ≡ run f (half_for p)
      unfolding half_for
      half_is x ex = rw (eq-eqb _ 1 e, pick_yes) (sym (bind_is f _ _ m em ∙ bind_is f _ _ x ex ∙ run_answer f _))

-- they are of a mosaic, and the pattern's places lie in the block
pub half_inverse : (f : List ℕ) (p : Picture) (m : Half) → is m ≡ run f (half_for p) → (p.raw.tags.frame.samples ≡ 1)
    × PatternIn m.pattern
unfolding half_for
half_inverse f p m e = go (eqb p.raw.tags.frame.samples 1) refl
  where
    go : (b : Bool) → eqb p.raw.tags.frame.samples 1 ≡ b → (p.raw.tags.frame.samples ≡ 1) × PatternIn m.pattern
    go true t =
        let c = bind_inverse f (colour_reading p.first) _ m (rw (t, pick_yes) at e) in
        let q = bind_inverse f (pattern_reading p.directory) _ m c.2 in
        let v : m ≡ record { colour = c.0; pattern = q.0 } = same_value m _ (q.2 ∙ run_answer f _) in
        (eqb-true _ _ t, rw v (pattern_below f p.directory q.0 q.1))
    go false t = absurd (not_refused m 15 0 (e ∙ sym (half_not f p (eqb-false _ _ t))))

-- the colour of a whole block, from samples each worked out alone
pub block_alone :
    (f : List ℕ) (o : Opened) (m : Half) → is m ≡ run f (half_for o.picture) →
    (i j : ℕ) → i < (blocks_of (size_of o.picture)).rows → j < (blocks_of (size_of o.picture)).columns → (k : ℕ) →
    block_in m (developed_in f o) i j k ≡ block_in m (alone_in f o) i j k
block_alone f o m em i j a b k =
    let h = half_inverse f o.picture m em in
    ap (λ (v : Xyz). channel_of v k) (block_same m h.1 (developed_in f o) (alone_in f o) i j i j (λ n hn.
    developed_alone f o _ _ 0 (record { row = omega arith; column = omega arith; plane = omega (arith, h.0) })))

-- ---- no answer shows a NaN
unit_developed : (x : Float) → unit x → Developed x
unit_developed x u =
    let i = in_unit x u in
    ((i.low, i.high), subst Plus (sym (unit_plain x u).2) tt)

-- X, Y and Z of every whole block are finite
pub half_finite :
    (f : List ℕ) (o : Opened) (m : Half) → is m ≡ run f (half_for o.picture) → ColourWithin m.colour →
    (i j : ℕ) → i < (blocks_of (size_of o.picture)).rows → j < (blocks_of (size_of o.picture)).columns →
    let v = block_xyz m (developed_in f o) i j in All Finite v.x v.y v.z
half_finite f o m e c i j a b =
    let h = half_inverse f o.picture m e in
    block_finite m c h.1 (developed_in f o) i j (λ k n.
    let d = developed_alone f o (2 * i + k / 2) (2 * j + k % 2) 0
    (record { row = omega arith; column = omega arith; plane = omega (arith, h.0) }) in
    subst Developed (sym d) (unit_developed _ (alone_is_unit f o (2 * i + k / 2) (2 * j + k % 2) 0)))

-- ---- the half window's answer
module _ (f : List ℕ) (v : View) (q : Viewed f v) (t l h w : ℕ) (old : List Float) where
  abbrev file : Opened
  file = q.file

  blocks_is : blocks_of (size_of file.picture) ≡ blocks_of v.size
  blocks_is = ap blocks_of (size_is f v q t l h w old)

  pub blocks_sized : SizedIn (blocks_of v.size)
  blocks_sized =
      let s = viewed_sized f v q in
      record { rows = omega (arith, s.rows); columns = omega (arith, s.columns); some = omega arith; few = omega arith }

  module _ (one : v.size.samples ≡ 1) where
    pub blocks_in : Ok tt ≡ window_test (blocks_of v.size) 3 t l h w (length old) →
        BlocksIn f v (record { top = t; left = l; height = h; width = w }) old
    blocks_in e =
        let k = passed_inside (blocks_of v.size) t l h w 3 (length old) e in
        let i = inside_fits (blocks_of v.size) t l h w k.0 in
        record { file = q; mosaic = one; rows = i.0; columns = i.1; length_is = k.1 ∙ mul_assoc h w 3 }

    module _ (m : Half) (p : PatternIn m.pattern) where
      blocks_alone : inside (blocks_of v.size) t l h w ≡ true →
          values_of (block_in m (alone_in f file)) t l h w 3 ≡ values_of (block_in m (standing (frame_of f file))) t l h w 3
      blocks_alone i =
          let k = inside_fits (blocks_of v.size) t l h w i in
          let z = size_is f v q t l h w old in
          let zr : (size_of file.picture).rows ≡ v.size.rows = ap (λ (z : Size). z.rows) z in
          let zc : (size_of file.picture).columns ≡ v.size.columns = ap (λ (z : Size). z.columns) z in
          let zs : (size_of file.picture).samples ≡ v.size.samples = ap (λ (z : Size). z.samples) z in
          values_same _ _ t l h w 3 (λ a b n ha hb ia ib hn.
          ap (λ (u : Xyz). channel_of u n) (block_same m p (alone_in f file) (standing (frame_of f file)) a b a b (λ c hc.
          sym (developed_alone f file _ _ 0 (record { row = omega (arith, k.0); column = omega (arith, k.1); plane = omega arith })))))

      pub halved_passed :
          (new : List Float) → Ok tt ≡ window_test (blocks_of v.size) 3 t l h w (length old) →
          new ≡ values_of (block_in m (alone_in f file)) t l h w 3 →
          window_with (Ok tt) new ≡ halved_of f t l h w old file (is m)
      halved_passed new e d =
          let k = passed_inside (blocks_of v.size) t l h w 3 (length old) e in
          let x = block_in m (standing (frame_of f file)) in
          filled_passed (blocks_of v.size) t l h w 3 old x new e (d ∙ blocks_alone k.0)
          ∙ ap (λ (z : Size). filled_of z 3 t l h w old x) (sym blocks_is)

  pub halved_refused : (m : Half) (r : Refusal) → Err r ≡ window_test (blocks_of v.size) 3 t l h w (length old) →
      window_with (Err r) old ≡ halved_of f t l h w old file (is m)
  halved_refused m r e =
      let x = block_in m (standing (frame_of f file)) in
      filled_refused (blocks_of v.size) t l h w 3 old x r e ∙ ap (λ (z : Size). filled_of z 3 t l h w old x) (sym blocks_is)

  pub half_called : (x : Out Half) → x ≡ run f (half_for v.picture) → halved_of f t l h w old file x ≡ half_window_call f t l h w old
  half_called x e =
      ap (halved_of f t l h w old file) (e ∙ ap (λ (p : Picture). run f (half_for p)) (sym q.picture))
      ∙ ap (half_window_of f t l h w old) q.accepted
