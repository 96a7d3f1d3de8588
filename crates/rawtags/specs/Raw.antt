-- The tags of the raw directory, in order of test.
use Rattle.std.specs.Prelude.{ℕ, ◌-◌}
use Rattle.reading.specs.Reading.{Reading, Reading.answer}
use Rattle.directory.specs.Out.{Out, Out.is, bind}
use Rattle.directory.specs.declared.Ifd.{Ifd}
use Rattle.rawtags.specs.Frame.{frame_reading}
use Rattle.rawtags.specs.Layout.{layout_reading}
use Rattle.rawtags.specs.Strips.{strips_reading}
use Rattle.rawtags.specs.Area.{area_reading}
use Rattle.rawtags.specs.LevelTags.{level_tags_reading}
use Rattle.rawtags.specs.Crop.{crop_reading}
use Rattle.rawtags.specs.Lists.{list_tag_reading}
use Rattle.rawtags.specs.declared.area.Area.{Area}
use Rattle.rawtags.specs.declared.Tags.{Tags}

abbrev pub active_rows : Area → ℕ
active_rows a = a.bottom - a.top

abbrev pub active_columns : Area → ℕ
active_columns a = a.right - a.left

unfoldable pub tags_reading : ℕ → Ifd → Reading (Out Tags)
tags_reading len d =
    bind (frame_reading d) (λ f.
    bind (layout_reading d f.samples) (λ l.
    bind (strips_reading len d f l) (λ s.
    bind (area_reading d f) (λ a.
    bind (level_tags_reading d f.samples (active_rows a) (active_columns a)) (λ v.
    bind (crop_reading d (active_rows a) (active_columns a)) (λ c.
    bind (list_tag_reading d) (λ o.
    answer (is (record { frame = f; layout = l; strips = s; area = a; levels = v; crop = c; list = o })))))))))
