-- What the raw directory's tags, the strips, the spans and the pattern refuse: each detail is 0 or a tag's number.
-- Assumes nothing.
use Prim.Native.Nat.{ℕ, zero, suc, ◌+◌, ◌-◌, min}
use lib.Dec.{lit<}
use Rattle.reading.specs.declared.number.Order.{Order}
use Rattle.levels.specs.Levels.{Levels}
use Rattle.std.specs.Prelude.{Result, Ok, Err}
use Rattle.levels.specs.declared.black.BlackFault.{BlackFault}
use Rattle.levels.specs.declared.black.BlackFault.TheVariants as black
use Rattle.levels.specs.declared.black.BlackKind.{BlackKind}
use Rattle.directory.specs.declared.Ifd.{Ifd}
use Rattle.directory.specs.declared.tag.Kinds.{Kinds}
use Rattle.directory.proofs.Refusals.{SmallRefusal, SmallDetail, SmallRefusals, smalls, small_then, small_pick}
use Rattle.directory.proofs.Refusals.{values_small, not_carried_small, judged_small, one_small, each_small, all_small, tree_small}
use Rattle.rawtags.specs.Frame.{dimension_reading, planes_reading, frame_reading}
use Rattle.rawtags.specs.Layout.{depth_from, depth_reading, only_one, format_reading, strip_rows_reading, layout_reading}
use Rattle.rawtags.specs.Strips.{strip_from, strips_reading}
use Rattle.rawtags.specs.Area.{area_of, four_reading, area_reading}
use Rattle.rawtags.specs.Repeat.{side_reading, pair_reading, repeat_reading}
use Rattle.rawtags.specs.Black.{black_out, blacks_test, black_reading, delta_reading}
use Rattle.rawtags.specs.White.{table_reading, white_reading}
use Rattle.rawtags.specs.LevelTags.{level_tags_reading}
use Rattle.rawtags.specs.Whole.{whole_number_of, whole_number_reading, both_reading, lengths_reading}
use Rattle.rawtags.specs.Crop.{crop_of, crop_reading}
use Rattle.rawtags.specs.Lists.{list_tag_reading}
use Rattle.rawtags.specs.Raw.{tags_reading}
use Rattle.raw.specs.Spans.{spanned_of}
use Rattle.raw.specs.Front.{raw_reading, front_reading}
use Rattle.rawtags.specs.Pattern.{places_of, four_colours_reading, plane_color_of, three_colours_reading, cfa_pattern_reading, plane_color_reading}
use Rattle.rawtags.specs.Pattern.{pattern_reading}
use Rattle.rawtags.specs.declared.area.Area.{Area}
use Rattle.rawtags.specs.declared.whole.Lengths.{Lengths}
use Rattle.rawtags.specs.declared.crop.Crop.{Crop}
use Rattle.rawtags.specs.declared.frame.Dimensions.{Dimensions}
use Rattle.rawtags.specs.declared.layout.Layout.{Layout}
use Rattle.rawtags.specs.declared.repeat.Repeat.{Repeat}

-- a tag's rule, by what it is made of
ruleset tags = (smalls, values_small, not_carried_small, judged_small, one_small, each_small, all_small)

-- ---- frame and layout

planes_small : (d : Ifd) → SmallRefusals (planes_reading d)
unfolding planes_reading
planes_small d = search tags depth 8

frame_small : (d : Ifd) → SmallRefusals (frame_reading d)
unfolding frame_reading dimension_reading
frame_small d = search (tags, planes_small) depth 10

depth_small : (d : Ifd) (s : ℕ) → SmallRefusals (depth_reading d s)
unfolding depth_reading depth_from
depth_small d s = search tags depth 10

only_one_small : (d : Ifd) (tag : ℕ) (k : Kinds) (legal : ℕ) → SmallDetail tag → SmallRefusals (only_one d tag k legal)
unfolding only_one
only_one_small d tag k legal small = search tags

layout_small : (d : Ifd) (s : ℕ) → SmallRefusals (layout_reading d s)
unfolding layout_reading format_reading strip_rows_reading
layout_small d s = search (tags, depth_small, only_one_small) depth 14

-- ---- strips and area

strip_small : (size : ℕ) (o : Order) (wide broad rows row n p q rest : ℕ) → SmallRefusals (strip_from size o wide broad rows row n p q rest)
unfolding strip_from
strip_small size o wide broad rows row zero p q rest = search smalls
strip_small size o wide broad rows row (suc n) p q rest =
    small_then _ _ (λ b. small_pick _ _ _
    (small_then _ _ (λ a. small_pick _ _ _
    (strip_small size o wide broad rows row n (p + wide) (q + broad) (rest - min rows rest)) (search smalls))) (search smalls))

strips_small : (size : ℕ) (d : Ifd) (f : Dimensions) (l : Layout) → SmallRefusals (strips_reading size d f l)
unfolding strips_reading
strips_small size d f l = search (tags, strip_small) depth 10

area_of_small : (f : Dimensions) (a : Area) → SmallRefusal (area_of f a)
unfolding area_of
area_of_small f a = search smalls depth 8

area_small : (d : Ifd) (f : Dimensions) → SmallRefusals (area_reading d f)
unfolding area_reading four_reading
area_small d f = search (tags, area_of_small) depth 10

-- ---- levels

repeat_small : (d : Ifd) → SmallRefusals (repeat_reading d)
unfolding repeat_reading pair_reading side_reading
repeat_small d = search tags depth 10

module _ (tag : ℕ) (small : SmallDetail tag) where
  black_out_law : (b : Result (Unit {0}) BlackFault) → SmallRefusal (black_out tag b)
  black_out_law (Ok u) = tt
  black_out_law (Err black.Illegal) = (lit< tt, small)
  black_out_law (Err black.NotCarried) = (lit< tt, small)

  blacks_small : (o : Order) (k : BlackKind) (size n p : ℕ) → SmallRefusals (blacks_test o tag k size n p)
  unfolding blacks_test
  blacks_small o k size n p = search (smalls, black_out_law)

black_small : (d : Ifd) (r : Repeat) (s : ℕ) → SmallRefusals (black_reading d r s)
unfolding black_reading
black_small d r s = search (tags, blacks_small) depth 8

delta_small : (d : Ifd) (tag n : ℕ) → SmallDetail tag → SmallRefusals (delta_reading d tag n)
unfolding delta_reading
delta_small d tag n small = search (tags, blacks_small) depth 8

level_tags_small : (d : Ifd) (s rows columns : ℕ) → SmallRefusals (level_tags_reading d s rows columns)
unfolding level_tags_reading table_reading white_reading
level_tags_small d s rows columns = search (tags, repeat_small, black_small, delta_small) depth 14

-- ---- the crop

lengths_small : (d : Ifd) (tag : ℕ) (default : Lengths) → SmallDetail tag → SmallRefusals (lengths_reading d tag default)
unfolding lengths_reading both_reading whole_number_reading whole_number_of
lengths_small d tag default small = search tags depth 14

crop_of_small : (rows columns : ℕ) (c : Crop) → SmallRefusal (crop_of rows columns c)
unfolding crop_of
crop_of_small rows columns c = search smalls depth 8

crop_small : (d : Ifd) (rows columns : ℕ) → SmallRefusals (crop_reading d rows columns)
unfolding crop_reading
crop_small d rows columns = search (smalls, lengths_small, crop_of_small) depth 10

-- ---- all of them

list_small : (d : Ifd) → SmallRefusals (list_tag_reading d)
unfolding list_tag_reading
list_small d = search tags depth 8

tags_small : (size : ℕ) (d : Ifd) → SmallRefusals (tags_reading size d)
unfolding tags_reading
tags_small size d = search (smalls, frame_small, layout_small, strips_small, area_small, level_tags_small, crop_small, list_small) depth 16

spanned_small : (l : Levels) → SmallRefusal (spanned_of l)
unfolding spanned_of
spanned_small l = search smalls depth 8

raw_small : (size : ℕ) (d : Ifd) → SmallRefusals (raw_reading size d)
unfolding raw_reading
raw_small size d = search (smalls, tags_small, spanned_small) depth 8

pub front_small : (size : ℕ) → SmallRefusals (front_reading size)
unfolding front_reading
front_small size = search (smalls, tree_small, raw_small) depth 8

-- ---- the pattern

colours_small : (d : Ifd) → SmallRefusals (cfa_pattern_reading d)
unfolding cfa_pattern_reading four_colours_reading places_of
colours_small d = search tags depth 10

plane_color_small : (d : Ifd) → SmallRefusals (plane_color_reading d)
unfolding plane_color_reading three_colours_reading plane_color_of
plane_color_small d = search tags depth 10

pub pattern_small : (d : Ifd) → SmallRefusals (pattern_reading d)
unfolding pattern_reading
pattern_small d = search (tags, colours_small, plane_color_small) depth 10
