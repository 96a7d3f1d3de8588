-- The frame of whatever the raw directory's tests accept, and its active area, by the definitions alone.
-- Assumes nothing.
use Rattle.directory.specs.Names.{active_area, image_length, image_width, photometric_interpretation, samples_per_pixel}
use mathlib.Core.Path.{◌≡◌, refl, sym, subst, ◌∙◌}
use mathlib.Core.Bool.{Bool, true, false}
use mathlib.Core.List.{List}
use mathlib.Core.Logic.{◌⊎◌, inl, inr, ⊎_elim}
use Prim.Native.Nat.{ℕ, ◌+◌, ◌*◌, ◌≤◌}
use native.Mathlib.Omega.{arith}
use lib.Dec.{eqb, leb, ltb}
use borrow.Author.Tests.{eq-eqb, ne_eqb, eqb-true, eqb-false, leb-true, ltb-true}
use Rattle.reading.specs.Bytes.{part}
use Rattle.reading.specs.Number.{number_of}
use Rattle.reading.specs.Reading.{Reading.answer, pick, run}
use Rattle.reading.specs.declared.number.Order.{Order}
use Rattle.reading.proofs.Reading.{running, run_answer}
use Rattle.directory.specs.Out.{Out, Out.refused, Out.is}
use Rattle.directory.specs.Tag.{values_reading, one_reading, required, optional, range}
use Rattle.directory.specs.declared.Ifd.{Ifd}
use Rattle.directory.specs.declared.tag.Kinds.TheVariants as kinds
use Rattle.directory.specs.declared.tag.Values.{Values}
use Rattle.directory.proofs.Outs.{bind_inverse, not_refused, same_value}
use Rattle.directory.proofs.Accepted.{one_in}
use Rattle.rawtags.specs.Frame.{dimension_range, dimension_reading, samples_of, planes_reading, frame_reading}
use Rattle.rawtags.specs.Area.{area, area_of, four_reading, area_reading}
use Rattle.rawtags.specs.Facts.Frame.{DimensionsWithin}
use Rattle.rawtags.specs.Facts.Area.{AreaWithin}
use Rattle.rawtags.specs.Raw.{tags_reading}
use Rattle.rawtags.specs.declared.Tags.{Tags}
use Rattle.rawtags.specs.declared.frame.Dimensions.{Dimensions}
use Rattle.rawtags.specs.declared.area.Area.{Area}
use Rattle.rawtags.proofs.TagsLaws.{tags_read}

area_of_in : (v : Dimensions) (x a : Area) → is a ≡ area_of v x → AreaWithin v a
unfolding area_of pick
area_of_in v x a =
    go (ltb x.top x.bottom) (leb x.bottom v.length) (ltb x.left x.right) (leb x.right v.width) refl refl refl refl
  where
    no : Out Area
    no = refused 4 active_area

    go :
        (s t y z : Bool) → ltb x.top x.bottom ≡ s → leb x.bottom v.length ≡ t → ltb x.left x.right ≡ y → leb x.right v.width ≡ z →
        is a ≡ pick s (pick t (pick y (pick z (is x) no) no) no) no → AreaWithin v a
    go false t y z p q g h e = absurd (not_refused a 4 active_area e)
    go true false y z p q g h e = absurd (not_refused a 4 active_area e)
    go true true false z p q g h e = absurd (not_refused a 4 active_area e)
    go true true true false p q g h e = absurd (not_refused a 4 active_area e)
    go true true true true p q g h e =
        subst (AreaWithin v) (sym (same_value a x e))
        (record { rows = ltb-true _ _ p; columns = ltb-true _ _ g; bottom = leb-true _ _ q; right = leb-true _ _ h })

module _ (f : List ℕ) (o : Order) (v : Dimensions) (x : Values) where
  four_whole : x.count ≡ 0 → run f (four_reading o v x) ≡ is (area 0 0 v.length v.width)
  unfolding four_reading
  four_whole e = simp (eq-eqb _ _ e, running)

  at : ℕ → ℕ
  at p = number_of o (part f p x.size)

  four_is : (x.count ≡ 0 → ⊥) → run f (four_reading o v x) ≡ area_of v
      (area (at x.place) (at (x.place + x.size)) (at (x.place + 2 * x.size)) (at (x.place + 3 * x.size)))
  unfolding four_reading at
  four_is e = simp (ne_eqb _ _ e, running)

area_in : (f : List ℕ) (d : Ifd) (v : Dimensions) → 1 ≤ v.length → 1 ≤ v.width → (a : Area) → is a ≡ run f (area_reading d v) → AreaWithin v a
unfolding area_reading
area_in f d v rows columns a e =
    let i = bind_inverse f (values_reading d (optional active_area kinds.ShortOrLong 4)) (four_reading d.order v) a e in
    go i.0 i.2 (eqb i.0.count 0) refl
  where
    go : (x : Values) → is a ≡ run f (four_reading d.order v x) → (b : Bool) → eqb x.count 0 ≡ b → AreaWithin v a
    go x q true z =
        subst (AreaWithin v) (sym (same_value a (area 0 0 v.length v.width) (q ∙ four_whole f d.order v x (eqb-true _ _ z))))
        (record { rows = omega arith; columns = omega arith; bottom = omega arith; right = omega arith })
    go x q false z = area_of_in v _ a (q ∙ four_is f d.order v x (eqb-false _ _ z))

-- none, one plane or three
samples_known : (p : ℕ) → (samples_of p ≡ 0) ⊎ ((samples_of p ≡ 1) ⊎ (samples_of p ≡ 3))
unfolding samples_of pick
samples_known p = go (eqb p 32803) (eqb p 34892)
  where
    go : (a b : Bool) →
        let n : ℕ = pick a 1 (pick b 3 0) in (n ≡ 0) ⊎ ((n ≡ 1) ⊎ (n ≡ 3))
    go true b = inr (inl refl)
    go false true = inr (inr refl)
    go false false = inl refl

-- samples that are those of an interpretation, and not none
pub samples_in : (p s : ℕ) → s ≡ samples_of p → (s ≡ 0 → ⊥) → (s ≡ 1) ⊎ (s ≡ 3)
samples_in p s e z =
    subst (λ (n : ℕ). (n ≡ 1) ⊎ (n ≡ 3)) (sym e) (⊎_elim (λ q. absurd (z (e ∙ q))) (λ q. q) (samples_known p))

planes_in_law : (f : List ℕ) (d : Ifd) (s : ℕ) → is s ≡ run f (planes_reading d) → (s ≡ 1) ⊎ (s ≡ 3)
unfolding planes_reading pick
planes_in_law f d s e =
    let i = bind_inverse f (one_reading d (required photometric_interpretation kinds.Short 1) 0 (range 0 0 65535)) _ s e in
    go i.0 (eqb (samples_of i.0) 0) refl i.2
  where
    go :
        (p : ℕ) (b : Bool) → eqb (samples_of p) 0 ≡ b →
        is s ≡ run f (pick b (answer (refused 8 photometric_interpretation))
        (one_reading d (optional samples_per_pixel kinds.Short 1) 1 (range 0 (samples_of p) (samples_of p)))) →
        (s ≡ 1) ⊎ (s ≡ 3)
    go p true q h = absurd (not_refused s 8 photometric_interpretation (h ∙ run_answer f _))
    go p false q h =
        let i = one_in f d (optional samples_per_pixel kinds.Short 1) 1 (range 0 (samples_of p) (samples_of p)) s h in
        let n : s ≡ samples_of p = omega (arith, i.from, i.to) in
        samples_in p s n (λ z. eqb-false _ _ q (sym n ∙ z))

pub frame_in : (f : List ℕ) (d : Ifd) (v : Dimensions) → is v ≡ run f (frame_reading d) → DimensionsWithin v
unfolding frame_reading dimension_reading
frame_in f d v e =
    let a = bind_inverse f (dimension_reading d image_width) _ v e in
    let b = bind_inverse f (dimension_reading d image_length) _ v a.2 in
    let c = bind_inverse f (planes_reading d) _ v b.2 in
    let columns = one_in f d (required image_width kinds.ShortOrLong 1) 0 dimension_range a.0 a.1 in
    let rows = one_in f d (required image_length kinds.ShortOrLong 1) 0 dimension_range b.0 b.1 in
    let planes : (c.0 ≡ 1) ⊎ (c.0 ≡ 3) = planes_in_law f d c.0 c.1 in
    subst DimensionsWithin (sym (same_value v _ (c.2 ∙ run_answer f _)))
    (record {
      some_columns = columns.from;
      columns = columns.to;
      some_rows = rows.from;
      rows = rows.to;
      some_samples = ⊎_elim (λ e. omega arith) (λ e. omega arith) planes;
      samples = ⊎_elim (λ e. omega arith) (λ e. omega arith) planes;
      planes = planes;
    })

pub tags_frame : (f : List ℕ) (size : ℕ) (d : Ifd) (t : Tags) → is t ≡ run f (tags_reading size d) →
    DimensionsWithin t.frame × AreaWithin t.frame t.area
tags_frame f size d t e =
    let r = tags_read f size d t e in
    let h = frame_in f d t.frame r.frame in
    (h, area_in f d t.frame h.some_rows h.some_columns t.area r.area)
