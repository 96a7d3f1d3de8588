-- A small file that meets what demand 3 asks of both changes: two of its opcodes change places, and each of its stored samples may
-- change, two of them inside a skipped opcode's parameters. A half window of it is accepted.
use mathlib.Core.Path.{◌≡◌, refl, sym, ap, ◌∙◌}
use mathlib.Core.Bool.{Bool, true, false, ◌&&◌, ◌||◌, and-false}
use mathlib.Core.List.{List, [], ◌∷◌, ◌++◌}
use Prim.Native.Nat.{ℕ, zero, suc, ◌+◌, ◌*◌, ◌/◌, ◌≤◌, ◌<◌}
use native.Mathlib.Omega.{arith}
use lib.Dec.{leb, ltb}
use lib.IntN.{pos, negsuc}
use lib.Ieee.{Float, fin, of_bits, of_int, div, round}
use lib.ListN.{length, get_or}
use borrow.Author.Tests.{leb-true, ltb-true, lt-leb, le-ltb}
use Rattle.reading.specs.Bytes.{replaced}
use Rattle.reading.specs.Number.{number_of, little_of, big_of}
use Rattle.reading.specs.Fraction.{fraction_of}
use Rattle.reading.specs.Real.{real_of}
use Rattle.reading.specs.Reading.{Reading, Stretch, run, trace, and_then, pick, reads, covers, number_at, trace_whole}
use Rattle.reading.specs.declared.number.Order.TheVariants.{Little}
use Rattle.directory.specs.Out.{Out, Out.is, bind}
use Rattle.directory.specs.Widths.{classic}
use Rattle.directory.specs.declared.entry.Kind.TheVariants as entryKind
use Rattle.directory.specs.Entry.{kind_of, plain_of, kind_width, entry_of}
use Rattle.directory.specs.Shape.{place_test, entry_reading, order_test, shape_from, ifd, ifd_reading}
use Rattle.directory.specs.Tag.{find_from, no_values, whole_reading, value_reading, tested_reading, absent_of, values_reading, not_carried}
use Rattle.directory.specs.Tag.{range_fault, judged_of, first_reading, one_reading, each_reading, all_reading}
use Rattle.directory.specs.Tree.{look_reading, backward_reading, version_reading, walk_reading, root_reading, offset_reading, big_tiff_reading}
use Rattle.directory.specs.Tree.{tree_reading}
use Rattle.levels.specs.Run.{run_of}
use Rattle.levels.specs.Black.{value_of, black_of, black_at, first_refused}
use Rattle.levels.specs.Plain.{plain}
use Rattle.levels.specs.Levels.{max_from, max_of, max_below, cell_for, black_for, greatest_black, span_of}
use Rattle.rawtags.specs.Frame.{dimension_reading, samples_of, planes_reading, frame_reading}
use Rattle.rawtags.specs.Layout.{bytes_per, depth_from, depth_reading, only_one, format_reading, strip_rows_reading, layout_reading}
use Rattle.rawtags.specs.Strips.{strip_from, strips_reading}
use Rattle.rawtags.specs.Area.{area, area_of, four_reading, area_reading}
use Rattle.rawtags.specs.Repeat.{pair_reading, repeat_reading}
use Rattle.rawtags.specs.Black.{kind_for, blacks_test, black_reading, delta_reading}
use Rattle.rawtags.specs.White.{table_reading, white_reading}
use Rattle.rawtags.specs.LevelTags.{level_tags_reading}
use Rattle.rawtags.specs.Whole.{whole_number_of, whole_number_reading, both_reading, lengths_reading}
use Rattle.rawtags.specs.Crop.{crop_of, crop_reading}
use Rattle.rawtags.specs.Lists.{list_tag_reading}
use Rattle.rawtags.specs.Raw.{tags_reading}
use Rattle.raw.specs.Stored.{Stored, numbers_reading, blacks_reading, whites_reading, levels_reading, stored_reading}
use Rattle.raw.specs.Spans.{spans, spanned_of}
use Rattle.raw.specs.Sample.{cell_of, ActiveIn}
use Rattle.rawtags.specs.Pattern.{one_of, first_of, last_of, places_of, four_colours_reading, plane_color_of, three_colours_reading}
use Rattle.rawtags.specs.Pattern.{cfa_pattern_reading, plane_color_reading, pattern_reading}
use Rattle.raw.specs.Front.{raw_with, raw_reading, picture_of, front_reading}
use Rattle.rawtags.specs.declared.Tags.{Tags}
use Rattle.raw.specs.declared.front.Picture.{Picture}
use Rattle.opcodes.specs.Grid.{every_of, on_of, grid_of, fits_of}
use Rattle.opcodes.specs.Opcode.{row, Opcode, skipped, kept, scale, polynomial}
use Rattle.opcodes.specs.Frame.{Apart}
use Rattle.opcodes.specs.OpcodeList as OpcodeList
use Rattle.opcodes.specs.Swap.{exchange, swapped_file}
use Rattle.opcodes.specs.declared.grid.Grid.{Grid}
use Rattle.opcodes.proofs.OpcodeLists.{and-true}
use Rattle.colour.specs.Value as Value
use Rattle.colour.specs.Value.{quotient_reading, triple_reading}
use Rattle.colour.specs.Tags.{matrix_reading, neutral_kind, neutral_reading, colour_reading}
use Rattle.develop.specs.Calls.{Opened, opened, opcodes_of, colour_for, scaled_in, filled_of, developed_in}
use Rattle.half.specs.Half.{half_for, halved_of, half_window_of, half_window_call}
use Rattle.half.specs.declared.half_window.Half.{Half}
use Rattle.demand.specs.Demand.{opcode_start, stored_place, NotInTags, UnreadButList, UnreadButSample, SameAnswers}
use Rattle.demand.specs.Demand.{SameElsewhere, Demand3}
use Rattle.develop.proofs.Views.{open_is}
use Rattle.demand.proofs.Linear as linear
use Rattle.demand.proofs.Table as table
use Rattle.demand.proofs.Linear.{unit_matrix, unit_colour}
use Rattle.demand.proofs.Demands.{meets_demand_3}

-- a LONG of the list, below 256
abbrev long : ℕ → List ℕ
long n = 0 ∷ 0 ∷ 0 ∷ n ∷ []

-- an opcode's header: version 1.3.0.0
abbrev header : ℕ → ℕ → ℕ → List ℕ
header id flags size = long id ++ (1 ∷ 3 ∷ 0 ∷ 0 ∷ []) ++ long flags ++ long size

-- the grid of one active column, in row 0 and plane 0
abbrev column : ℕ → List ℕ
column c = long 0 ++ long c ++ long 1 ++ long (suc c) ++ long 0 ++ long 1 ++ long 1 ++ long 1

-- An 8-bit mosaic of 4 columns and 2 rows. IFD 0 is the raw one: 256 (4), 257 (2), 258 (8), 262 (32803), 273 (392), 279 (8), 33421 (2, 2),
-- 33422 (0, 1, 1, 2), 50706 (1.4.0.0), 50728 (1, 1, 1: at 178), 50829 (0, 1, 2, 4: at 170, behind the next offset), 50964 (the unit
-- matrix: at 184), 51009 (at 256). The list: ScalePerRow 0.5 on column 0, MapPolynomial 0.25 on column 1, both in row 0, and an opcode that
-- is skipped, with two bytes of parameters. With these two the strip begins
abbrev file : List ℕ
file =
    (0x49 ∷ 0x49 ∷ 0x2A ∷ 0 ∷ 8 ∷ 0 ∷ 0 ∷ 0 ∷ 13 ∷ 0
    ∷ 0 ∷ 1 ∷ 3 ∷ 0 ∷ 1 ∷ 0 ∷ 0 ∷ 0 ∷ 4 ∷ 0 ∷ 0 ∷ 0
    ∷ 1 ∷ 1 ∷ 3 ∷ 0 ∷ 1 ∷ 0 ∷ 0 ∷ 0 ∷ 2 ∷ 0 ∷ 0 ∷ 0
    ∷ 2 ∷ 1 ∷ 3 ∷ 0 ∷ 1 ∷ 0 ∷ 0 ∷ 0 ∷ 8 ∷ 0 ∷ 0 ∷ 0
    ∷ 6 ∷ 1 ∷ 3 ∷ 0 ∷ 1 ∷ 0 ∷ 0 ∷ 0 ∷ 0x23 ∷ 0x80 ∷ 0 ∷ 0
    ∷ 0x11 ∷ 1 ∷ 3 ∷ 0 ∷ 1 ∷ 0 ∷ 0 ∷ 0 ∷ 0x88 ∷ 1 ∷ 0 ∷ 0
    ∷ 0x17 ∷ 1 ∷ 3 ∷ 0 ∷ 1 ∷ 0 ∷ 0 ∷ 0 ∷ 8 ∷ 0 ∷ 0 ∷ 0
    ∷ 0x8D ∷ 0x82 ∷ 3 ∷ 0 ∷ 2 ∷ 0 ∷ 0 ∷ 0 ∷ 2 ∷ 0 ∷ 2 ∷ 0
    ∷ 0x8E ∷ 0x82 ∷ 1 ∷ 0 ∷ 4 ∷ 0 ∷ 0 ∷ 0 ∷ 0 ∷ 1 ∷ 1 ∷ 2
    ∷ 0x12 ∷ 0xC6 ∷ 1 ∷ 0 ∷ 4 ∷ 0 ∷ 0 ∷ 0 ∷ 1 ∷ 4 ∷ 0 ∷ 0
    ∷ 0x28 ∷ 0xC6 ∷ 3 ∷ 0 ∷ 3 ∷ 0 ∷ 0 ∷ 0 ∷ 178 ∷ 0 ∷ 0 ∷ 0
    ∷ 0x8D ∷ 0xC6 ∷ 3 ∷ 0 ∷ 4 ∷ 0 ∷ 0 ∷ 0 ∷ 170 ∷ 0 ∷ 0 ∷ 0
    ∷ 0x14 ∷ 0xC7 ∷ 10 ∷ 0 ∷ 9 ∷ 0 ∷ 0 ∷ 0 ∷ 184 ∷ 0 ∷ 0 ∷ 0
    ∷ 0x41 ∷ 0xC7 ∷ 7 ∷ 0 ∷ 138 ∷ 0 ∷ 0 ∷ 0 ∷ 0 ∷ 1 ∷ 0 ∷ 0
    ∷ 0 ∷ 0 ∷ 0 ∷ 0 ∷ 0 ∷ 0 ∷ 1 ∷ 0 ∷ 2 ∷ 0 ∷ 4 ∷ 0 ∷ 1 ∷ 0 ∷ 1 ∷ 0 ∷ 1 ∷ 0 ∷ [])
    ++ unit_matrix
    ++ long 3
    ++ header 12 0 40 ++ column 0 ++ long 1 ++ (0x3F ∷ 0 ∷ 0 ∷ 0 ∷ [])
    ++ header 8 0 44 ++ column 1 ++ long 0 ++ (0x3F ∷ 0xD0 ∷ 0 ∷ 0 ∷ 0 ∷ 0 ∷ 0 ∷ 0 ∷ [])
    ++ header 99 1 2 ++ (255 ∷ 255 ∷ 51 ∷ 102 ∷ 0 ∷ 85 ∷ 170 ∷ 204 ∷ [])

-- ---- it is accepted
abbrev found : Tags
found =
    record {
      frame = record { width = 4; length = 2; samples = 1 };
      layout = record { bytes = 1; rows = 4294967295 };
      strips = record { place = 66; kind = entryKind.Short; size = 2; count = 1 };
      area = area 0 1 2 4;
      levels = linear.level_tags no_values;
      crop = record { left = 0; top = 0; columns = 3; rows = 2 };
      list = record { place = 256; kind = entryKind.Undefined; size = 1; count = 138 };
    }

abbrev picture : Picture
picture = picture_of (ifd classic Little 13 10) (ifd classic Little 13 10) (raw_with found (spans (pos 65280) (pos 0) (pos 0)))

-- the grid of an active column
abbrev grid_at : ℕ → Grid
grid_at c = record { top = 0; left = c; bottom = 1; right = suc c; plane = 0; planes = 1; row_pitch = 1; column_pitch = 1 }

abbrev opcodes : List Opcode
opcodes =
    kept (grid_at 0) (scale row (fin false 1 (negsuc 0) ∷ [])) ∷ kept (grid_at 1) (polynomial (fin false 1 (negsuc 1) ∷ [])) ∷ skipped ∷ []

abbrev stored : Stored
stored = record { offsets = 392 ∷ []; levels = plain 2 3 [] 255 }

abbrev held : Opened
held = record { picture = picture; opcodes = opcodes; stored = stored }

-- no stretch has a byte from lo up to hi
abbrev pub clear : ℕ → ℕ → List Stretch → Bool
clear lo hi [] = true
clear lo hi (t ∷ ts) = (leb (t.start + t.count) lo || leb hi t.start) && clear lo hi ts

-- what a reading answers, and that it reads no byte from lo up to hi
pub record Computed {A : Type 0} (f : List ℕ) (p : Reading A) (a : A) (lo hi : ℕ) : Type 0 where
  pub answer : a ≡ run f p
  pub unread : clear lo hi (trace f p) ≡ true

-- from 256 on, the list and the samples, no byte is read for the tags; of the LinearRaw file, from 218 on, the samples; of the one with a
-- table, from 110 on
pub fronts :
    Computed file (front_reading (length file)) (is picture) 256 400
    × Computed linear.file (front_reading (length linear.file)) (is linear.picture) 218 230
    × ((t u : ℕ) → Computed (table.file t u) (front_reading (length (table.file t u))) (is table.picture) 110 112)
unfolding trace run and_then pick number_at number_of little_of big_of fraction_of value_of bind kind_of plain_of kind_width entry_of place_test
    entry_reading
    order_test shape_from ifd_reading find_from whole_reading value_reading tested_reading absent_of values_reading not_carried range_fault judged_of
    first_reading
    one_reading each_reading all_reading look_reading backward_reading version_reading walk_reading root_reading offset_reading big_tiff_reading
    tree_reading
    run_of black_of black_at first_refused max_from max_of max_below cell_for black_for greatest_black span_of dimension_reading samples_of planes_reading
    frame_reading bytes_per depth_from depth_reading only_one format_reading strip_rows_reading layout_reading strip_from strips_reading area_of
    four_reading
    area_reading pair_reading repeat_reading kind_for blacks_test black_reading delta_reading table_reading white_reading level_tags_reading
    whole_number_of whole_number_reading both_reading lengths_reading crop_of crop_reading list_tag_reading
    tags_reading numbers_reading blacks_reading whites_reading levels_reading spanned_of raw_reading front_reading
fronts = (record { answer = refl; unread = refl }, record { answer = refl; unread = refl }, λ t u. record { answer = refl; unread = refl })

-- the skipped opcode's parameters are not read; the other two files have no list
pub lists :
    Computed file (opcodes_of picture) (is opcodes) 392 400
    × Computed linear.file (opcodes_of linear.picture) (is []) 218 230
    × ((t u : ℕ) → Computed (table.file t u) (opcodes_of table.picture) (is []) 110 112)
unfolding trace run pick bind and_then number_of big_of run_of real_of of_bits grid_of fits_of OpcodeList.header_of OpcodeList.class_of
    OpcodeList.form_of
    OpcodeList.refused_in OpcodeList.plain_fault OpcodeList.opcode_fault OpcodeList.opcode_kind OpcodeList.parameters_of OpcodeList.list_from
    OpcodeList.list_reading
lists = (record { answer = refl; unread = refl }, record { answer = refl; unread = refl }, λ t u. record { answer = refl; unread = refl })

pub values :
    Computed file (stored_reading Little found) stored 256 400
    × Computed linear.file (stored_reading Little linear.found) linear.stored 218 230
    × ((t u : ℕ) → Computed (table.file t u) (stored_reading Little table.found) (table.stored t u) 110 112)
unfolding trace run and_then pick number_of little_of fraction_of value_of run_of black_of black_at kind_for numbers_reading blacks_reading
    whites_reading
    levels_reading stored_reading
values = (record { answer = refl; unread = refl }, record { answer = refl; unread = refl }, λ t u. record { answer = refl; unread = refl })

-- red, green, green, blue; the unit matrix and a neutral of ones
abbrev half : Half
half = record { colour = unit_colour; pattern = record { red = 0; green1 = 1; green2 = 2; blue = 3 } }

pub colours :
    Computed file (half_for picture) (is half) 256 400 × Computed linear.file (colour_for linear.picture) (is unit_colour) 218 230
unfolding trace run and_then pick number_at number_of little_of bind kind_of plain_of kind_width entry_of find_from whole_reading value_reading
    tested_reading
    absent_of values_reading not_carried range_fault judged_of first_reading one_reading each_reading all_reading fraction_of of_int div round
    Value.legal_quotient
    quotient_reading triple_reading matrix_reading neutral_kind neutral_reading colour_reading one_of first_of last_of places_of four_colours_reading
    plane_color_of
    three_colours_reading cfa_pattern_reading plane_color_reading pattern_reading half_for
colours = (record { answer = refl; unread = refl }, record { answer = refl; unread = refl })

pub accepted : is held ≡ opened file
accepted =
    ap {B = Out Opened} (λ (s : Stored). is (record { picture = picture; opcodes = opcodes; stored = s })) values.0.answer
    ∙ open_is file picture fronts.0.answer opcodes lists.0.answer

-- ---- what is not read
off : (lo hi : ℕ) (t : Stretch) (i : ℕ) → lo ≤ i → i < hi → (leb (t.start + t.count) lo || leb hi t.start) ≡ true → covers t i ≡ false
off lo hi t i a b = go (leb (t.start + t.count) lo) refl
  where
    go : (x : Bool) → leb (t.start + t.count) lo ≡ x → (x || leb hi t.start) ≡ true → covers t i ≡ false
    go true e h = let k = leb-true (t.start + t.count) lo e in rw (le-ltb i (t.start + t.count) (omega arith))
        (and-false (leb t.start i))
    go false e h = let k = leb-true hi t.start h in rw (lt-leb t.start i (omega arith))

pub unread_in : (lo hi : ℕ) (ts : List Stretch) → clear lo hi ts ≡ true → (i : ℕ) → lo ≤ i → i < hi → reads ts i ≡ false
unfolding reads
unread_in lo hi [] e i a b = refl
unread_in lo hi (t ∷ ts) e i a b =
    let s = and-true (leb (t.start + t.count) lo || leb hi t.start) (clear lo hi ts) e in
    rw (off lo hi t i a b s.0, unread_in lo hi ts s.1 i a b)

pub missed : (t : Stretch) (i : ℕ) → (t.start ≤ i → i < t.start + t.count → ⊥) → covers t i ≡ false
missed t i h = go (leb t.start i) (ltb i (t.start + t.count)) refl refl
  where
    go : (x y : Bool) → leb t.start i ≡ x → ltb i (t.start + t.count) ≡ y → (x && y) ≡ false
    go false y a b = refl
    go true false a b = refl
    go true true a b = absurd (h (leb-true _ _ a) (ltb-true _ _ b))

no_colour : (i : ℕ) → reads (trace file (colour_for picture)) i ≡ false
unfolding pick trace reads
no_colour i = refl

not_in_tags : (i : ℕ) → 256 ≤ i → i < 400 → NotInTags file held i
not_in_tags i a b = (
  unread_in 256 400 (trace_whole file front_reading) fronts.0.unread i a b,
  unread_in 256 400 (trace file (stored_reading Little found)) values.0.unread i a b,
  no_colour i,
  unread_in 256 400 (trace file (half_for picture)) colours.0.unread i a b,
)

-- the stored samples, and the active ones
stored_at : (r c : ℕ) → r < 2 → stored_place held r c 0 ≡ 392 + 4 * r + c
stored_at zero c h = omega arith
stored_at (suc zero) c h = omega arith
stored_at (suc (suc r)) c h = absurd (omega arith)

active_at : (r c p : ℕ) → ActiveIn found r c p → (cell_of found stored.offsets r c p).start ≡ 393 + 4 * r + c
active_at r c p a =
    let z : 0 + r ≡ r = omega arith in
    let ep : p ≡ 0 = omega (arith, a.plane) in
    rw (z, ep) (stored_at r (1 + c) (omega (arith, a.row)) ∙ (omega arith))

elsewhere : (i r c p : ℕ) → ActiveIn found r c p → (i ≡ 393 + 4 * r + c → ⊥) → covers (cell_of found stored.offsets r c p) i ≡ false
elsewhere i r c p a n = missed _ i (λ x y. n (omega (arith, active_at r c p a, x, y)))

-- ---- the first two opcodes change places
apart : Apart (kept (grid_at 0) (scale row (fin false 1 (negsuc 0) ∷ []))) (kept (grid_at 1) (polynomial (fin false 1 (negsuc 1) ∷ [])))
unfolding on_of
apart r c p h =
    let planes : Bool = leb 0 p && ltb p 1 in
    let a = and-true (every_of 0 1 1 r) (every_of 0 1 1 c && planes) h in
    let b = and-true (every_of 0 1 1 c) planes a.1 in
    let d = and-true (leb 0 c) _ b.0 in
    let e = and-true (ltb c 1) _ d.1 in
    rw (lt-leb 1 c (omega (arith, ltb-true c 1 e.0))) (and-false (every_of 0 1 1 r))

record Starts : Type 0 where
  first : opcode_start file held 0 ≡ 260
  third : opcode_start file held 2 ≡ 376
  end : opcode_start file held 3 ≡ 394

starts : Starts
unfolding OpcodeList.header_of number_of big_of
starts = record { first = refl; third = refl; end = refl }

swap_unread : UnreadButList file held 0
swap_unread i a b =
    let lo : 260 ≤ i = rw starts.first at a in
    let hi : i < 376 = rw starts.third at b in
    (not_in_tags i (omega arith) (omega arith), λ r c p act. elsewhere i r c p act (λ e. omega arith))

pub demanded : Demand3 file held
demanded = meets_demand_3 file held accepted

pub swapped : SameAnswers file held 0 (swapped_file file 260 0)
swapped = demanded.swaps 0 (omega arith) apart swap_unread

-- where ScalePerRow's id was, there is MapPolynomial's
moved : (get_or file 263 0 ≡ 12) × (get_or (swapped_file file 260 0) 263 0 ≡ 8)
unfolding OpcodeList.header_of number_of big_of exchange
moved = (refl, refl)

-- ---- column 2 is on no grid
pub stays : developed_in file held 0 2 0 ≡ scaled_in file held 0 2 0
unfolding on_of
stays = demanded.keeps 0 2 0 (record { row = omega arith; column = omega arith; plane = omega arith }) (refl, (refl, (refl, tt)))

-- ---- a stored sample changes: those of column 0 are outside the active area, those of row 0 and columns 0 and 1 are the skipped
-- opcode's parameters, the others stand behind the list
change_unread : (r c : ℕ) → r < 2 → c < 4 → UnreadButSample file held r c 0
change_unread r₀ c₀ g h i a b =
    let e : i ≡ 392 + 4 * r₀ + c₀ = omega (arith, stored_at r₀ c₀ g, a, b) in (
      not_in_tags i (omega arith) (omega arith),
      unread_in 392 400 (trace file (opcodes_of picture)) lists.0.unread i (omega arith) (omega arith),
      λ r c p act other. elsewhere i r c p act (λ q.
          let er : r ≡ r₀ = omega (arith, act.row, act.column) in
          other ((omega arith, omega arith), omega (arith, act.plane))),
    )

in_parameters : (c : ℕ) → c < 2 → (opcode_start file held 2 + 16 ≤ stored_place held 0 c 0)
    × (stored_place held 0 c 0 < opcode_start file held 3)
in_parameters c h = let z = stored_at 0 c (omega arith) in (omega (arith, starts.third, z), omega (arith, starts.end, z))

pub changed : (r c byte : ℕ) → r < 2 → c < 4 → SameElsewhere file held r c 0 (replaced file (stored_place held r c 0) (byte ∷ []))
changed r c byte g h = demanded.changes r c 0 g h (omega arith) (byte ∷ []) refl (change_unread r c g h)

-- ---- its one block has the active columns 0 and 1: a sample of active column 2, stored column 3, is in no block
pub halved : (x y z : Float) → (half_window_call file 0 0 1 1 (x ∷ y ∷ z ∷ [])).number ≡ 0
unfolding filled_of pick
halved x y z =
    ap (λ (o : Out Opened). (half_window_of file 0 0 1 1 (x ∷ y ∷ z ∷ []) o).number) (sym accepted)
    ∙ ap (λ (m : Out Half). (halved_of file 0 0 1 1 (x ∷ y ∷ z ∷ []) held m).number) (sym colours.0.answer)

pub block_stays : (r byte : ℕ) (old : List Float) → r < 2 →
    half_window_call (replaced file (stored_place held r 3 0) (byte ∷ [])) 0 0 1 1 old ≡ half_window_call file 0 0 1 1 old
block_stays r byte old g =
    (changed r 3 byte g (omega arith)).half_windows 0 0 1 1 old
    (λ i j a b d e h. let c : h.1 / 2 ≡ j = h.3 in omega (arith, h.4.1))
