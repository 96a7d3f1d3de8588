-- What holds of an accepted value.
use Rattle.std.specs.Prelude.{List, ℕ, length, Result, Ok, Err}
use Rattle.reading.specs.declared.number.Order.{Order}
use Rattle.directory.specs.Facts.Tag.{PlacedValues, PlacedValues-prop}
use Rattle.rawtags.specs.Facts.Frame.{DimensionsWithin, DimensionsWithin-prop}
use Rattle.rawtags.specs.Facts.Layout.{LayoutWithin, LayoutWithin-prop}
use Rattle.rawtags.specs.Facts.Strips.{StripsWithin, StripsWithin-prop}
use Rattle.rawtags.specs.Facts.Area.{AreaWithin, AreaWithin-prop}
use Rattle.rawtags.specs.Facts.LevelTags.{LevelTagsWithin, LevelTagsWithin-prop}
use Rattle.rawtags.specs.Facts.Crop.{CropWithin, CropWithin-prop}
use Rattle.rawtags.specs.Lists.{list_rule}
use Rattle.rawtags.specs.declared.Tags.{Tags}
use Rattle.rawtags.specs.Raw.{active_rows, active_columns}
use Rattle.directory.specs.declared.refusal.Refusal.{Refusal}

pub record TagsWithin (f : List ℕ) (o : Order) (r : Tags) : Type 0 where
  pub frame : DimensionsWithin r.frame
  pub layout : LayoutWithin r.layout
  pub strips : StripsWithin f o r.frame r.layout r.strips
  pub area : AreaWithin r.frame r.area
  pub levels : LevelTagsWithin f o r.frame.samples (active_rows r.area) (active_columns r.area) r.levels
  pub crop : CropWithin (active_rows r.area) (active_columns r.area) r.crop
  pub list : PlacedValues (length f) list_rule r.list

pub TagsWithin-prop : (f : List ℕ) (o : Order) (r : Tags) → IsProp (TagsWithin f o r)
TagsWithin-prop f o r x y = λ i.
    record {
      frame = DimensionsWithin-prop r.frame x.frame y.frame i;
      layout = LayoutWithin-prop r.layout x.layout y.layout i;
      strips = StripsWithin-prop f o r.frame r.layout r.strips x.strips y.strips i;
      area = AreaWithin-prop r.frame r.area x.area y.area i;
      levels = LevelTagsWithin-prop f o r.frame.samples (active_rows r.area) (active_columns r.area) r.levels x.levels y.levels i;
      crop = CropWithin-prop (active_rows r.area) (active_columns r.area) r.crop x.crop y.crop i;
      list = PlacedValues-prop (length f) list_rule r.list x.list y.list i;
    }

abbrev pub TagsIn : List ℕ → Order → Result Tags Refusal → Type 0
TagsIn f o (Err e) = Unit {0}
TagsIn f o (Ok r) = TagsWithin f o r
