-- The calls on an accepted file, from what the code holds of it.
-- Assumes nothing.
use mathlib.Core.Path.{◌≡◌, refl, sym, ap, ◌∙◌}
use mathlib.Core.Bool.{Bool, true, false, ◌&&◌}
use mathlib.Core.List.{List}
use Prim.Native.Nat.{ℕ, ◌+◌, ◌*◌}
use native.Mathlib.Nat.{mul_assoc}
use native.Mathlib.Omega.{arith}
use lib.Dec.{leb, eqb}
use lib.Ieee.{Float}
use lib.ListN.{length}
use borrow.Author.Tests.{leb-true, eqb-true, eq-eqb, ne_eqb}
use Rattle.reading.specs.Bytes.{some_inside}
use Rattle.reading.specs.Reading.{run, pick}
use Rattle.reading.proofs.Reading.{pick_yes, pick_no}
use Rattle.directory.specs.Out.{Out, Out.is}
use Rattle.raw.specs.Sample.{ActiveIn}
use Rattle.raw.specs.declared.front.Picture.{Picture}
use Rattle.colour.specs.Tags.{colour_reading}
use Rattle.colour.specs.Facts.Pass.{pass_of}
use Rattle.colour.specs.declared.Colour.{Colour}
use Rattle.opcodes.specs.Frame.{standing, alone}
use Rattle.opcodes.specs.declared.grid.Size.{Size}
use Rattle.opcodes.proofs.OpcodeLists.{and-true}
use Rattle.samples.specs.Facts.Line.{scaled_from}
use Rattle.std.specs.Prelude.{Result, Ok, Err}
use Rattle.std.specs.Result.{is_ok}
use Rattle.directory.specs.declared.refusal.Refusal.{Refusal}
use Rattle.directory.specs.declared.refusal.Refusal.TheVariants as refusal
use Rattle.develop.specs.Calls.{Opened, size_of, frame_of, within, refused_spot, spot_of, spot_call, inside, values_of, window_with, alone_in}
use Rattle.develop.specs.Calls.{refused_window, filled_of}
use Rattle.develop.specs.Calls.{window_of, window_call, colour_for, pixel_in, coloured_of, colour_window_of, colour_window_call}
use Rattle.develop.specs.Facts.View.{Viewed}
use Rattle.develop.specs.Facts.Fill.{FillIn, window_test}
use Rattle.develop.specs.declared.View.{View}
use Rattle.develop.proofs.Answers.{developed_alone, within_active, inside_fits, values_same}
use Rattle.develop.proofs.Windows.{viewed_alone}
use Rattle.develop.proofs.Colours.{fifteen_first, pass_values}

-- ---- spot
module _ (f : List ℕ) (v : View) (h : Viewed f v) (r c p : ℕ) where
  abbrev o : Opened
  o = h.file

  -- the file's size is the code's
  pub within_is : within (size_of o.picture) r c p ≡ within v.size r c p
  within_is = ap (λ (z : Size). within z r c p) (ap size_of h.picture ∙ sym h.size)

  pub viewed_active : within v.size r c p ≡ true → ActiveIn v.picture.raw.tags r c p
  viewed_active t = within_active v.picture r c p (ap (λ (z : Size). within z r c p) (sym h.size) ∙ t)

  pub spot_viewed :
      within v.size r c p ≡ true → (y : Float) →
      y ≡ alone o.opcodes r c p (scaled_from f v.picture.order v.picture.raw.tags r c p) →
      record { number = 0; detail = 0; value = y } ≡ spot_call f r c p
  spot_viewed t y e =
      let a : ActiveIn o.picture.raw.tags r c p = within_active o.picture r c p (within_is ∙ t) in
      let d : y ≡ standing (frame_of f o) r c p = e ∙ sym (viewed_alone f v h r c p) ∙ sym (developed_alone f o r c p a) in
      let s : spot_of f r c p (is o) ≡ record { number = 0; detail = 0; value = standing (frame_of f o) r c p } = simp
      (within_is, t, pick_yes) in
      ap (λ (x : Float). record { number = 0; detail = 0; value = x }) d ∙ sym s ∙ ap (spot_of f r c p) h.accepted

  pub spot_outside : within v.size r c p ≡ false → refused_spot 13 0 ≡ spot_call f r c p
  spot_outside t =
      let s : spot_of f r c p (is o) ≡ refused_spot 13 0 = simp (within_is, t, pick_no) in
      sym s ∙ ap (spot_of f r c p) h.accepted

-- ---- 13 and 14
outside : (a b c d : Bool) → (a && c) ≡ false → (a && (b && (c && d))) ≡ false
outside true true true d e = absurd (let k : true ≡ false = e in cc)
outside true true false d e = refl
outside true false c d e = refl
outside false b c d e = refl

passed_not_refused : (r : Refusal) → ◌≡◌ {A = Result (Unit {0}) Refusal} (Ok tt) (Err r) → ⊥
passed_not_refused r e = let k : true ≡ false = ap is_ok e in cc

module _ (z : Size) (t l h w : ℕ) where
  module _ (n len : ℕ) where
    pub test_passed : inside z t l h w ≡ true → len ≡ h * w * n → Ok tt ≡ window_test z n t l h w len
    unfolding window_test
    test_passed a e = sym (simp (a, eq-eqb len (h * w * n) e, pick_yes))

    pub test_length : inside z t l h w ≡ true → (len ≡ h * w * n → ⊥) → Err refusal.SliceLength ≡ window_test z n t l h w len
    unfolding window_test
    test_length a e = sym (simp (a, ne_eqb len (h * w * n) e, pick_yes, pick_no))

    pub test_outside : inside z t l h w ≡ false → Err refusal.Outside ≡ window_test z n t l h w len
    unfolding window_test
    test_outside a = sym (simp (a, pick_no))

    -- rows that are none, or do not lie in the active area
    pub test_rows : some_inside t h z.rows ≡ false → Err refusal.Outside ≡ window_test z n t l h w len
    test_rows e = test_outside (outside (leb 1 h) (leb 1 w) (leb (t + h) z.rows) (leb (l + w) z.columns) e)

    pub passed_inside : Ok tt ≡ window_test z n t l h w len → (inside z t l h w ≡ true) × (len ≡ h * w * n)
    unfolding window_test pick
    passed_inside e = go (inside z t l h w) (eqb len (h * w * n)) refl refl e
      where
        go : (a b : Bool) → inside z t l h w ≡ a → eqb len (h * w * n) ≡ b →
            ◌≡◌ {A = Result (Unit {0}) Refusal} (Ok tt) (pick a (pick b (Ok tt) (Err refusal.SliceLength)) (Err refusal.Outside)) →
            (inside z t l h w ≡ true) × (len ≡ h * w * n)
        go true true ea eb k = (ea, eqb-true len (h * w * n) eb)
        go true false ea eb k = absurd (passed_not_refused _ k)
        go false b ea eb k = absurd (passed_not_refused _ k)

  -- the whole answer from the test's
  module _ (n : ℕ) (old : List Float) (x : ℕ → ℕ → ℕ → Float) where
    pub filled_passed : (new : List Float) → Ok tt ≡ window_test z n t l h w (length old) → new ≡ values_of x t l h w n →
        window_with (Ok tt) new ≡ filled_of z n t l h w old x
    unfolding filled_of
    filled_passed new e q =
        let k = passed_inside n (length old) e in
        ap (window_with (Ok tt)) q ∙ sym (simp (k.0, eq-eqb (length old) (h * w * n) k.1, pick_yes))

    pub filled_refused : (r : Refusal) → Err r ≡ window_test z n t l h w (length old) → window_with (Err r) old ≡ filled_of z n t l h w old x
    unfolding window_test filled_of pick
    filled_refused r e = go (inside z t l h w) (eqb (length old) (h * w * n)) e
      where
        go : (a b : Bool) → ◌≡◌ {A = Result (Unit {0}) Refusal} (Err r) (pick a (pick b (Ok tt) (Err refusal.SliceLength)) (Err refusal.Outside)) →
            window_with (Err r) old ≡ pick a
            (pick b (record { number = 0; detail = 0; slice = values_of x t l h w n }) (refused_window 14 0 old)) (refused_window 13 0 old)
        go true true q = absurd (passed_not_refused r (sym q))
        go true false q = ap (λ (a : Result (Unit {0}) Refusal). window_with a old) q
        go false b q = ap (λ (a : Result (Unit {0}) Refusal). window_with a old) q

-- ---- window
module _ (f : List ℕ) (v : View) (q : Viewed f v) (t l h w : ℕ) (old : List Float) where
  abbrev file : Opened
  file = q.file

  pub size_is : size_of file.picture ≡ v.size
  size_is = ap size_of q.picture ∙ sym q.size

  unfoldable pub fill_in : (n : ℕ) → n ≡ v.size.samples → Ok tt ≡ window_test v.size n t l h w (length old)
      → FillIn f v (record { top = t; left = l; height = h; width = w }) old
  fill_in n en e =
      let k = passed_inside v.size t l h w n (length old) e in
      let i = inside_fits v.size t l h w k.0 in
      let a = and-true (leb 1 h) _ k.0 in
      let b = and-true (leb 1 w) _ a.1 in
      record {
        file = q;
        some_rows = leb-true 1 h a.0;
        some_columns = leb-true 1 w b.0;
        rows = i.0;
        columns = i.1;
        length_is = k.1 ∙ mul_assoc h w n ∙ ap (λ (m : ℕ). h * (w * m)) en;
      }

  -- inside, each value of the frame is that of its sample alone
  values_alone : (n : ℕ) → n ≡ v.size.samples → inside v.size t l h w ≡ true →
      values_of (alone_in f file) t l h w n ≡ values_of (standing (frame_of f file)) t l h w n
  values_alone n en i =
      let k = inside_fits v.size t l h w i in
      let zr : (size_of file.picture).rows ≡ v.size.rows = ap (λ (z : Size). z.rows) size_is in
      let zc : (size_of file.picture).columns ≡ v.size.columns = ap (λ (z : Size). z.columns) size_is in
      let zs : (size_of file.picture).samples ≡ v.size.samples = ap (λ (z : Size). z.samples) size_is in
      values_same _ _ t l h w n (λ r c p a b d e g.
      sym (developed_alone f file r c p (record { row = omega arith; column = omega arith; plane = omega arith })))

  pub window_passed :
      (new : List Float) → Ok tt ≡ window_test v.size v.size.samples t l h w (length old) →
      new ≡ values_of (alone_in f file) t l h w v.size.samples →
      window_with (Ok tt) new ≡ window_call f t l h w old
  window_passed new e d =
      let k = passed_inside v.size t l h w v.size.samples (length old) e in
      filled_passed v.size t l h w v.size.samples old (standing (frame_of f file)) new e
      (d ∙ values_alone v.size.samples refl k.0)
      ∙ ap (λ (z : Size). filled_of z z.samples t l h w old (standing (frame_of f file))) (sym size_is)
      ∙ ap (window_of f t l h w old) q.accepted

  pub window_refused : (r : Refusal) → Err r ≡ window_test v.size v.size.samples t l h w (length old) →
      window_with (Err r) old ≡ window_call f t l h w old
  window_refused r e =
      filled_refused v.size t l h w v.size.samples old (standing (frame_of f file)) r e
      ∙ ap (λ (z : Size). filled_of z z.samples t l h w old (standing (frame_of f file))) (sym size_is)
      ∙ ap (window_of f t l h w old) q.accepted

-- ---- colour window
module _ (f : List ℕ) (v : View) (q : Viewed f v) (t l h w : ℕ) (old : List Float) where
  module _ (m : Colour) (three : v.size.samples ≡ 3) where
    sized : (x : ℕ → ℕ → ℕ → Float) → filled_of v.size 3 t l h w old x ≡ filled_of (size_of q.file.picture) 3 t l h w old x
    sized x = ap (λ (z : Size). filled_of z 3 t l h w old x) (sym (size_is f v q t l h w old))

    pub coloured_passed :
        (mid new : List Float) → Ok tt ≡ window_test v.size 3 t l h w (length old) →
        mid ≡ values_of (alone_in f q.file) t l h w v.size.samples → new ≡ pass_of m mid →
        window_with (Ok tt) new ≡ coloured_of f t l h w old q.file (is m)
    coloured_passed mid new e d p =
        let k = passed_inside v.size t l h w 3 (length old) e in
        filled_passed v.size t l h w 3 old (pixel_in m (frame_of f q.file)) new e
        (p ∙ ap (pass_of m) (d ∙ ap (values_of (alone_in f q.file) t l h w) three ∙ values_alone f v q t l h w old 3 (sym three) k.0)
        ∙ pass_values m (frame_of f q.file) t l h w)
        ∙ sized (pixel_in m (frame_of f q.file))

    pub coloured_refused : (r : Refusal) → Err r ≡ window_test v.size 3 t l h w (length old) →
        window_with (Err r) old ≡ coloured_of f t l h w old q.file (is m)
    coloured_refused r e = filled_refused v.size t l h w 3 old (pixel_in m (frame_of f q.file)) r e
        ∙ sized (pixel_in m (frame_of f q.file))

  samples_is : v.size.samples ≡ q.file.picture.raw.tags.frame.samples
  samples_is = sym (ap (λ (z : Size). z.samples) (size_is f v q t l h w old))

  -- the colour tags are read where there are three samples
  pub colour_tags : v.size.samples ≡ 3 → (x : Out Colour) → x ≡ run f (colour_reading v.picture.first) →
      coloured_of f t l h w old q.file x ≡ colour_window_call f t l h w old
  colour_tags e x d =
      let s : run f (colour_for q.file.picture) ≡ run f (colour_reading q.file.picture.first) = simp
      (eq-eqb _ 3 (sym samples_is ∙ e), pick_yes) in
      let e = d ∙ ap (λ (p : Picture). run f (colour_reading p.first)) (sym q.picture) ∙ sym s in
      ap (coloured_of f t l h w old q.file) e ∙ ap (colour_window_of f t l h w old) q.accepted

  pub colour_mosaic : (v.size.samples ≡ 3 → ⊥) → refused_window 15 0 old ≡ colour_window_call f t l h w old
  colour_mosaic e =
      let s = fifteen_first f q.file.picture (λ b. e (samples_is ∙ b)) in
      sym (ap (coloured_of f t l h w old q.file) s) ∙ ap (colour_window_of f t l h w old) q.accepted
