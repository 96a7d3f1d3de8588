-- The lines of a window's values are those of the crop's rows.
-- Assumes nothing.
use Rattle.std.specs.Prelude.{Result, Ok, Err}
use mathlib.Core.Path.{◌≡◌, refl, sym, ap, ◌∙◌, subst}
use mathlib.Core.Bool.{Bool, true}
use mathlib.Core.List.{List, [], ◌∷◌, ◌++◌, map, append-nil, append_assoc}
use Prim.Native.Nat.{ℕ, zero, suc, ◌+◌, ◌-◌, ◌*◌, ◌/◌, ◌≤◌, ◌<◌}
use native.Mathlib.Nat.{zero-add, zero-mul, one-mul, suc-mul, mul_assoc, mul-le-mul, mul-le-mul_right}
use native.Mathlib.Nat.{le-div_iff_mul-le, div-mul-le_self}
use native.Mathlib.Omega.{arith}
use lib.Ieee.{Float, nan}
use lib.ListN.{length, take, drop, length-append}
use lib.Seq.{take_at, drop_at}
use borrow.Author.Tests.{le-leb, lt-leb}
use Rattle.reading.specs.Reading.{pick}
use Rattle.reading.proofs.Reading.{pick_yes, pick_no}
use Rattle.directory.specs.Out.{Out, Out.refused, Out.is}
use Rattle.levels.specs.Run.{run_of}
use Rattle.levels.proofs.Runs.{length_run, run_at, run_same, run_over}
use Rattle.levels.proofs.Unit.{unit}
use Rattle.opcodes.specs.Frame.{Frame, framed, standing}
use Rattle.opcodes.specs.declared.grid.Size.{Size}
use Rattle.rows.specs.Facts.Part.{AllInUnit, SizedIn}
use Rattle.rawtags.specs.Facts.Crop.{CropWithin}
use Rattle.rawtags.specs.Raw.{active_rows, active_columns}
use Rattle.rawtags.specs.declared.crop.Crop.{Crop}
use Rattle.raw.specs.declared.front.Picture.{Picture}
use Rattle.develop.specs.Calls.{Opened, opened, size_of, tags_of, frame_of, joined, values_of, inside, Window, window_with, window_of, window_call, alone_in}
use Rattle.develop.specs.Facts.View.{Viewed, OpeningIs}
use Rattle.develop.specs.declared.View.{View}
use Rattle.directory.specs.declared.refusal.Refusal.{Refusal}
use Rattle.develop.proofs.Answers.{frame_alone, developed_alone, values_same, alone_is_unit}
use Rattle.develop.proofs.Called.{test_passed, filled_passed}
use Rattle.listing.specs.Text.{values_text, rows_text, refused_text, frame_text, crop_size, cropped_frame, listed_of, head_text, body_text}
use Rattle.listing.specs.Text.{listing_of}
use Rattle.listing.specs.Facts.Body.{lines_text, Listed, ListedIs, rows_from}
use Rattle.listing.proofs.Lines.{line_length, refused_short, frame_short}

-- ---- the values of a row
module _ (z : Size) (q : SizedIn z) where
  pub width_some : 1 ≤ z.columns → 1 ≤ z.columns * z.samples
  width_some h = let a : 1 * 1 ≤ z.columns * z.samples = mul-le-mul h q.some in omega (arith, a)

  pub width_most : z.columns * z.samples ≤ 49152
  width_most = let a : z.columns * z.samples ≤ 16384 * 3 = mul-le-mul q.columns q.few in omega (arith, a)

-- so many rows fit in a block
pub rows_some : (w : ℕ) → 1 ≤ w → w ≤ 49152 → 1 ≤ 49152 / w
rows_some w a b = (le-div_iff_mul-le a).1 (omega (arith, one-mul w))

pub rows_fit : (h w : ℕ) → h ≤ 49152 / w → h * w ≤ 49152
rows_fit h w a = omega (arith, mul-le-mul_right w a, div-mul-le_self 49152 w)

-- ---- runs
run_drop : {A : Type 0} (g : ℕ → A) (t i n : ℕ) → drop t (run_of g 1 i n) ≡ run_of g 1 (i + t) (n - t)
unfolding run_of
run_drop g zero i n =
    let a : i + 0 ≡ i = omega arith in
    let b : n - 0 ≡ n = omega arith in
    rw (a, b) refl
run_drop g (suc t) i zero =
    let b : 0 - suc t ≡ 0 = omega arith in
    rw b refl
run_drop {A} g (suc t) i (suc n) =
    let a : i + 1 + t ≡ i + suc t = omega arith in
    let b : n - t ≡ suc n - suc t = omega arith in
    run_drop g t (i + 1) n ∙ ap (λ (k : ℕ). run_of g 1 k (n - t)) a ∙ ap (λ (k : ℕ). run_of g 1 (i + suc t) k) b

run_take : {A : Type 0} (g : ℕ → A) (i n m : ℕ) → n ≤ m → take n (run_of g 1 i m) ≡ run_of g 1 i n
unfolding run_of
run_take g i zero m h = refl
run_take g i (suc n) zero h = absurd (omega arith)
run_take {A} g i (suc n) (suc m) h = ap (λ (xs : List A). g i ∷ xs) (run_take g (i + 1) n m (omega arith))

-- n from place a on
run_part : {A : Type 0} (g : ℕ → A) (a n m : ℕ) → a + n ≤ m → take n (drop a (run_of g 1 0 m)) ≡ run_of g 1 a n
run_part {A} g a n m h =
    ap (λ (xs : List A). take n xs) (run_drop g a 0 m) ∙ run_take g (0 + a) n (m - a) (omega arith)
    ∙ ap (λ (k : ℕ). run_of g 1 k n) (zero-add a)

run_map : {A B : Type 0} (k : A → B) (g : ℕ → A) (i n : ℕ) → map k (run_of g 1 i n) ≡ run_of (λ (j : ℕ). k (g j)) 1 i n
unfolding run_of
run_map k g i zero = refl
run_map {A} {B} k g i (suc n) = ap (λ (xs : List B). k (g i) ∷ xs) (run_map k g (i + 1) n)

joined_length : {A : Type 0} (g : ℕ → List A) (m : ℕ) → ((r : ℕ) → length (g r) ≡ m) → (i n : ℕ) → length (joined (run_of g 1 i n)) ≡ n * m
unfolding run_of
joined_length g m e i zero = sym (zero-mul m)
joined_length g m e i (suc n) =
    length-append (g i) (joined (run_of g 1 (i + 1) n)) ∙ omega (arith, e i, joined_length g m e (i + 1) n, suc-mul n m)

-- ---- the lines of rows
module _ (row : ℕ → List (List Float)) (m : ℕ) (e : (r : ℕ) → length (joined (row r)) ≡ m) where
  lines_rows :
      (h t k : ℕ) → lines_text m h (joined (run_of (λ (r : ℕ). joined (row r)) 1 t h)) ++ rows_text (run_of row 1 (t + h) k) ≡ rows_text
      (run_of row 1 t (h + k))
  unfolding run_of lines_text
  lines_rows zero t k =
      let a : t + 0 ≡ t = omega arith in
      let b : 0 + k ≡ k = omega arith in
      rw (a, b) refl
  lines_rows (suc h) t k =
      let a : t + suc h ≡ t + 1 + h = omega arith in
      let b : suc h + k ≡ suc (h + k) = omega arith in
      let first = joined (row t) in
      let others = joined (run_of (λ (r : ℕ). joined (row r)) 1 (t + 1) h) in
      let x : take m (first ++ others) ≡ first = take_at first others m (e t) in
      let y : drop m (first ++ others) ≡ others = drop_at first others m (e t) in
      let last = rows_text (run_of row 1 (t + suc h) k) in
      ap (λ (xs : List Float). (values_text xs ++ lines_text m h (drop m (first ++ others))) ++ last) x
      ∙ ap (λ (xs : List Float). (values_text first ++ lines_text m h xs) ++ last) y
      ∙ append_assoc (values_text first) (lines_text m h others) last
      ∙ ap (λ (j : ℕ). values_text first ++ (lines_text m h others ++ rows_text (run_of row 1 j k))) a
      ∙ ap (λ (xs : List ℕ). values_text first ++ xs) (lines_rows h (t + 1) k)
      ∙ ap (λ (j : ℕ). rows_text (run_of row 1 t j)) (sym b)

  rows_length : 1 ≤ m → (t n : ℕ) → length (rows_text (run_of row 1 t n)) ≡ n * (17 * m)
  unfolding run_of
  rows_length s t zero = sym (zero-mul (17 * m))
  rows_length s t (suc n) =
      let first = joined (row t) in
      let k : 1 ≤ length first = omega (arith, e t) in
      length-append (values_text first) (rows_text (run_of row 1 (t + 1) n))
      ∙ omega (arith, e t, line_length first k, rows_length s (t + 1) n, suc-mul n (17 * m))

-- ---- an accepted file
-- the crop lies inside the active area
abbrev HasCrop : Picture → Type 0
HasCrop p = CropWithin (active_rows p.raw.tags.area) (active_columns p.raw.tags.area) p.raw.tags.crop

module _ (f : List ℕ) (o : Opened) (crop : HasCrop o.picture) where
  abbrev c : Crop
  c = (tags_of o).crop

  abbrev n : ℕ
  n = (tags_of o).frame.samples

  abbrev width : ℕ
  width = c.columns * n

  abbrev row : ℕ → List (List Float)
  row r = run_of (λ (x : ℕ). run_of (λ (p : ℕ). alone_in f o r x p) 1 0 n) 1 c.left c.columns

  row_length : (r : ℕ) → length (joined (row r)) ≡ width
  row_length r = joined_length _ n (λ x. length_run _ 1 0 n) c.left c.columns

  cropped_rows : cropped_frame c (frame_of f o) ≡ run_of row 1 c.top c.rows
  unfolding framed
  cropped_rows =
      let whole : ℕ → List (List Float) =
      λ (r : ℕ). run_of (λ (x : ℕ). run_of (λ (p : ℕ). alone_in f o r x p) 1 0 n) 1 0 (active_columns (tags_of o).area) in
      let columns : List (List Float) → List (List Float) = λ (xs : List (List Float)). take c.columns (drop c.left xs) in
      ap (cropped_frame c) (frame_alone f o)
      ∙ ap (map columns) (run_part whole c.top c.rows (active_rows (tags_of o).area) crop.bottom)
      ∙ run_map columns whole c.top c.rows
      ∙ run_same _ row 1 1 c.top c.top c.rows (λ i h. run_part _ c.left c.columns (active_columns (tags_of o).area) crop.right)

  rows_from_law : (t : ℕ) → drop t (cropped_frame c (frame_of f o)) ≡ run_of row 1 (c.top + t) (c.rows - t)
  rows_from_law t = ap (λ (q : Frame). drop t q) cropped_rows ∙ run_drop row t c.top c.rows

  -- the lines of a block of rows and those of the rows after it
  pub body_next :
      (t h : ℕ) → t + h ≤ c.rows → (xs : List Float) → xs ≡ values_of (alone_in f o) (c.top + t) c.left h c.columns n
      → lines_text width h xs ++ body_text f (t + h) (is o) ≡ body_text f t (is o)
  body_next t h b xs e =
      let k : h + (c.rows - (t + h)) ≡ c.rows - t = omega arith in
      let j : c.top + (t + h) ≡ c.top + t + h = omega arith in
      let lines : List ℕ = lines_text width h (values_of (alone_in f o) (c.top + t) c.left h c.columns n) in
      ap (λ (ys : List Float). lines_text width h ys ++ body_text f (t + h) (is o)) e
      ∙ ap (λ (q : Frame). lines ++ rows_text q) (rows_from_law (t + h))
      ∙ ap (λ (i : ℕ). lines ++ rows_text (run_of row 1 i (c.rows - (t + h)))) j
      ∙ lines_rows row width row_length h (c.top + t) (c.rows - (t + h))
      ∙ ap (λ (i : ℕ). rows_text (run_of row 1 (c.top + t) i)) k
      ∙ ap rows_text (sym (rows_from_law t))

  pub body_end : (t : ℕ) → c.rows ≤ t → body_text f t (is o) ≡ []
  body_end t b = ap rows_text (rows_from_law t ∙ run_over row 1 (c.top + t) c.rows t b)

  pub body_length : 1 ≤ width → length (body_text f 0 (is o)) ≡ c.rows * (17 * width)
  body_length s =
      ap (λ (q : Frame). length (rows_text q)) cropped_rows ∙ rows_length row width row_length s c.top c.rows

-- ---- numbers from 0 to 1
units_append : (xs ys : List Float) → AllInUnit xs → AllInUnit ys → AllInUnit (xs ++ ys)
units_append [] ys a b k h = b k h
units_append (x ∷ xs) ys a b zero h = a 0 (omega arith)
units_append (x ∷ xs) ys a b (suc k) h = units_append xs ys (λ j l. a (suc j) (omega arith)) b k (omega arith)

units_joined : (g : ℕ → List Float) → ((r : ℕ) → AllInUnit (g r)) → (i n : ℕ) → AllInUnit (joined (run_of g 1 i n))
unfolding run_of
units_joined g u i zero k h = absurd (omega arith)
units_joined g u i (suc n) k h = units_append (g i) (joined (run_of g 1 (i + 1) n)) (u i) (λ j l. units_joined g u (i + 1) n j l) k h

units_run : (g : ℕ → Float) → ((k : ℕ) → unit (g k)) → (i n : ℕ) → AllInUnit (run_of g 1 i n)
units_run g u i n k h =
    let b : k < n = omega (arith, length_run g 1 i n) in
    rw (run_at g 1 i n k nan b) (u (i + 1 * k))

pub values_units : (f : List ℕ) (o : Opened) (t l h w n : ℕ) → AllInUnit (values_of (alone_in f o) t l h w n)
values_units f o t l h w n = units_joined _ (λ r. units_joined _ (λ c. units_run _ (alone_is_unit f o r c) 0 n) l w) t h

-- ---- what the window's promise says of a block of rows
slice_back : (a : Result (Unit {0}) Refusal) (xs : List Float) → (window_with a xs).slice ≡ xs
slice_back (Ok u) xs = refl
slice_back (Err r) xs = refl

module _ (f : List ℕ) (t h : ℕ) (old new : List Float) (a : Result (Unit {0}) Refusal) where
  -- its values are numbers from 0 to 1, and its lines come next in the listing
  abbrev pub Block : Picture → Type 0
  Block p =
      let c = p.raw.tags.crop in
      let m = c.columns * p.raw.tags.frame.samples in
      1 ≤ h → t + h ≤ c.rows → length old ≡ h * m → window_with a new ≡ window_call f (c.top + t) c.left h c.columns old →
      AllInUnit new × (lines_text m h new ++ body_text f (t + h) (listed_of f) ≡ body_text f t (listed_of f))

  module _ (o : Opened) (crop : HasCrop o.picture) (accepted : is o ≡ opened f) where
    abbrev w : Crop
    w = (tags_of o).crop

    abbrev z : Size
    z = size_of o.picture

    block_values :
        1 ≤ h → t + h ≤ w.rows → length old ≡ h * (w.columns * z.samples) →
        window_with a new ≡ window_call f (w.top + t) w.left h w.columns old →
        new ≡ values_of (alone_in f o) (w.top + t) w.left h w.columns z.samples
    block_values s b l e =
        let x : ℕ → ℕ → ℕ → Float = standing (frame_of f o) in
        let y : inside z (w.top + t) w.left h w.columns ≡ true =
        rw (
          le-leb 1 h s,
          le-leb 1 w.columns crop.some_columns,
          le-leb (w.top + t + h) z.rows (omega (arith, crop.bottom)),
          le-leb (w.left + w.columns) z.columns crop.right,
        ) refl in
        let m : length old ≡ h * w.columns * z.samples = l ∙ sym (mul_assoc h w.columns z.samples) in
        let g = test_passed z (w.top + t) w.left h w.columns z.samples (length old) y m in
        let d = e ∙ ap (window_of f (w.top + t) w.left h w.columns old) (sym accepted)
        ∙ sym (filled_passed z (w.top + t) w.left h w.columns z.samples old x _ g refl) in
        sym (slice_back a new) ∙ ap (λ (y : Window). y.slice) d
        ∙ values_same _ _ (w.top + t) w.left h w.columns z.samples (λ i j k u₁ u₂ u₃ u₄ l.
        developed_alone f o i j k (record { row = omega (arith, crop.bottom); column = omega (arith, crop.right); plane = l }))

    block_of : is o ≡ listed_of f → Block o.picture
    block_of listed s b l e =
        let v = block_values s b l e in (
          subst AllInUnit (sym v) (values_units f o (w.top + t) w.left h w.columns z.samples),
          ap (λ (y : Out Opened). lines_text (w.columns * z.samples) h new ++ body_text f (t + h) y) (sym listed)
              ∙ body_next f o crop t h b new v ∙ ap (λ (y : Out Opened). body_text f t y) listed,
        )

-- ---- the crop of a file that was opened
pub crop_inside_law : (f : List ℕ) (v : View) → Viewed f v → HasCrop v.picture
crop_inside_law f v q = q.picture_in.raw.tags.crop

pub crop_sized : (f : List ℕ) (v : View) → Viewed f v → SizedIn (crop_size v.picture)
crop_sized f v q =
    let t = q.picture_in.raw.tags in
    record {
      rows = omega (arith, t.crop.bottom, t.area.bottom, t.frame.rows);
      columns = omega (arith, t.crop.right, t.area.right, t.frame.columns);
      some = t.frame.some_samples;
      few = t.frame.samples;
    }

module _ (f : List ℕ) (v : View) (q : Listed f v) where
  abbrev o : Opened
  o = q.viewed.file

  file_inside : HasCrop o.picture
  file_inside = subst HasCrop (sym q.viewed.picture) (crop_inside_law f v q.viewed)

  pub block_listed : (t h : ℕ) (old new : List Float) (a : Result (Unit {0}) Refusal) → Block f t h old new a v.picture
  block_listed t h old new a =
      subst (Block f t h old new a) q.viewed.picture (block_of f t h old new a o file_inside q.viewed.accepted q.listed)

-- ---- the file that is listed
pub listed_over : (f : List ℕ) → 65536 < length f → refused 1 0 ≡ listed_of f
unfolding listed_of
listed_over f h = sym (ap (λ (b : Bool). pick b (opened f) (refused 1 0)) (lt-leb (length f) 65536 h) ∙ pick_no (opened f) (refused 1 0))

pub listed_in : (f : List ℕ) → length f ≤ 65536 → opened f ≡ listed_of f
unfolding listed_of
listed_in f h = sym (ap (λ (b : Bool). pick b (opened f) (refused 1 0)) (le-leb (length f) 65536 h) ∙ pick_yes (opened f) (refused 1 0))

pub viewed_listed : (f : List ℕ) (v : View) → Viewed f v → length f ≤ 65536 → Listed f v
viewed_listed f v q h = record { viewed = q; listed = q.accepted ∙ listed_in f h }

pub opening_listed : (f : List ℕ) (r : Result View Refusal) → length f ≤ 65536 → OpeningIs f r → ListedIs f r
opening_listed f (Ok v) h q = viewed_listed f v q h
opening_listed f (Err r) h q = q ∙ listed_in f h

-- no row comes behind the crop's last one
pub rows_none : (f : List ℕ) (v : View) → Listed f v → (t : ℕ) → (crop_size v.picture).rows ≤ t → rows_from f t ≡ []
rows_none f v q t b =
    let s = subst (λ (p : Picture). (crop_size p).rows ≤ t) (sym q.viewed.picture) b in
    sym (ap (body_text f t) q.listed) ∙ body_end f q.viewed.file (file_inside f v q) t s

-- ---- the listing's length is a 64-bit number
abbrev length_of : List ℕ → Out Opened → ℕ
length_of f o = length (head_text o ++ body_text f 0 o)

pub short_refused : (f : List ℕ) (n d : ℕ) → refused n d ≡ listed_of f → length (listing_of f) < 18446744073709551616
short_refused f n d e =
    let a : length_of f (refused n d) ≡ length (refused_text n d) = ap length (append-nil (refused_text n d)) in
    let b : length_of f (refused n d) < 18446744073709551616 = omega (arith, a, refused_short n d) in
    subst (λ (o : Out Opened). length_of f o < 18446744073709551616) e b

pub short_listed : (f : List ℕ) (v : View) → Listed f v → length (listing_of f) < 18446744073709551616
short_listed f v q =
    let o = q.viewed.file in
    let y = crop_size o.picture in
    let s : SizedIn y = subst (λ (p : Picture). SizedIn (crop_size p)) (sym q.viewed.picture) (crop_sized f v q.viewed) in
    let inside = file_inside f v q in
    let m = y.columns * y.samples in
    let w : 17 * m ≤ 835584 = omega (arith, width_most y s) in
    let r : y.rows * (17 * m) ≤ 16384 * 835584 = mul-le-mul s.rows w in
    let a : length_of f (is o) ≡ length (frame_text y) + length (body_text f 0 (is o)) = length-append (frame_text y) (body_text f 0 (is o)) in
    let l = body_length f o inside (width_some y s inside.some_columns) in
    let b : length_of f (is o) < 18446744073709551616 = omega (arith, a, frame_short y, l, r) in
    subst (λ (x : Out Opened). length_of f x < 18446744073709551616) q.listed b

-- ---- the first line, and what is behind it
module _ (f : List ℕ) (line : List ℕ) where
  pub line_refused : (n d : ℕ) → refused n d ≡ listed_of f → line ≡ refused_text n d → line ++ [] ≡ listing_of f
  line_refused n d e q = ap (λ (xs : List ℕ). xs ++ []) q ∙ ap (λ (o : Out Opened). head_text o ++ body_text f 0 o) e

  pub line_frame : (v : View) → Listed f v → line ≡ frame_text (crop_size v.picture) → line ++ rows_from f 0 ≡ listing_of f
  line_frame v q e =
      ap (λ (xs : List ℕ). xs ++ rows_from f 0)
      (e ∙ ap (λ (x : Picture). frame_text (crop_size x)) (sym q.viewed.picture) ∙ ap head_text q.listed)
