-- The tags of the raw directory, step by step.
-- Assumes nothing.
use mathlib.Core.Path.{◌≡◌, sym, subst, ◌∙◌}
use mathlib.Core.List.{List}
use Prim.Native.Nat.{ℕ}
use Rattle.reading.specs.Reading.{run}
use Rattle.reading.proofs.Reading.{run_answer}
use Rattle.directory.specs.Out.{Out.is}
use Rattle.directory.specs.declared.Ifd.{Ifd}
use Rattle.directory.proofs.Outs.{bind_inverse, same_value}
use Rattle.rawtags.specs.Frame.{frame_reading}
use Rattle.rawtags.specs.Layout.{layout_reading}
use Rattle.rawtags.specs.Strips.{strips_reading}
use Rattle.rawtags.specs.Area.{area_reading}
use Rattle.rawtags.specs.LevelTags.{level_tags_reading}
use Rattle.rawtags.specs.Crop.{crop_reading}
use Rattle.rawtags.specs.Lists.{list_tag_reading}
use Rattle.rawtags.specs.Raw.{active_rows, active_columns, tags_reading}
use Rattle.rawtags.specs.declared.Tags.{Tags}

-- what each step read, of tags that none refused
pub record TagsRead (f : List ℕ) (len : ℕ) (d : Ifd) (t : Tags) : Type 0 where
  pub frame : is t.frame ≡ run f (frame_reading d)
  pub layout : is t.layout ≡ run f (layout_reading d t.frame.samples)
  pub strips : is t.strips ≡ run f (strips_reading len d t.frame t.layout)
  pub area : is t.area ≡ run f (area_reading d t.frame)
  pub levels : is t.levels ≡ run f (level_tags_reading d t.frame.samples (active_rows t.area) (active_columns t.area))
  pub crop : is t.crop ≡ run f (crop_reading d (active_rows t.area) (active_columns t.area))
  pub list : is t.list ≡ run f (list_tag_reading d)

pub tags_read : (f : List ℕ) (len : ℕ) (d : Ifd) (t : Tags) → is t ≡ run f (tags_reading len d) → TagsRead f len d t
unfolding tags_reading
tags_read f len d t e =
    let v = bind_inverse f (frame_reading d) _ t e in
    let l = bind_inverse f (layout_reading d v.0.samples) _ t v.2 in
    let s = bind_inverse f (strips_reading len d v.0 l.0) _ t l.2 in
    let a = bind_inverse f (area_reading d v.0) _ t s.2 in
    let x = bind_inverse f (level_tags_reading d v.0.samples (active_rows a.0) (active_columns a.0)) _ t a.2 in
    let c = bind_inverse f (crop_reading d (active_rows a.0) (active_columns a.0)) _ t x.2 in
    let o = bind_inverse f (list_tag_reading d) _ t c.2 in
    subst (TagsRead f len d) (sym (same_value t _ (o.2 ∙ run_answer f _)))
    (record { frame = v.1; layout = l.1; strips = s.1; area = a.1; levels = x.1; crop = c.1; list = o.1 })
