-- Small files, worked out: what is answered, and what is read for it.
use mathlib.Core.Path.{◌≡◌, refl}
use mathlib.Core.List.{List, [], ◌∷◌, ◌++◌}
use Prim.Native.Nat.{ℕ}
use lib.ListN.{take, drop}
use Rattle.reading.specs.Number.{number_of, little_of, big_of}
use Rattle.reading.specs.Reading.{run, trace, and_then, pick, number_at, run_whole, trace_whole}
use Rattle.reading.specs.declared.number.Order.TheVariants.{Little}
use Rattle.reading.proofs.Reading.{stretch}
use Rattle.directory.specs.Out.{Out.refused, Out.is, bind}
use Rattle.directory.specs.Widths.{classic, big_tiff}
use Rattle.directory.specs.Entry.{kind_of, plain_of, kind_width, entry_of}
use Rattle.directory.specs.Shape.{place_test, entry_reading, order_test, shape_from, ifd, ifd_reading}
use Rattle.directory.specs.Tag.{find_from, whole_reading, value_reading, tested_reading, absent_of, values_reading, range_fault, judged_of}
use Rattle.directory.specs.Tag.{first_reading, one_reading}
use Rattle.directory.specs.Tree.{look_reading, backward_reading, version_reading, children_reading, visit_reading, roots, walk_reading}
use Rattle.directory.specs.Tree.{root_reading, offset_reading, big_tiff_reading, tree_reading}

-- IFD 0 is the raw one: 254 (0), 256 (SHORT, in its entry), 262 (unknown type), 50706 (1.4.0.0)
abbrev one : List ℕ
one =
    0x49 ∷ 0x49 ∷ 0x2A ∷ 0 ∷ 8 ∷ 0 ∷ 0 ∷ 0 ∷ 4 ∷ 0
    ∷ 0xFE ∷ 0 ∷ 4 ∷ 0 ∷ 1 ∷ 0 ∷ 0 ∷ 0 ∷ 0 ∷ 0 ∷ 0 ∷ 0
    ∷ 0 ∷ 1 ∷ 3 ∷ 0 ∷ 1 ∷ 0 ∷ 0 ∷ 0 ∷ 7 ∷ 0 ∷ 0 ∷ 0
    ∷ 6 ∷ 1 ∷ 99 ∷ 0 ∷ 1 ∷ 0 ∷ 0 ∷ 0 ∷ 7 ∷ 7 ∷ 7 ∷ 7
    ∷ 0x12 ∷ 0xC6 ∷ 1 ∷ 0 ∷ 4 ∷ 0 ∷ 0 ∷ 0 ∷ 1 ∷ 4 ∷ 0 ∷ 0
    ∷ 0 ∷ 0 ∷ 0 ∷ 0 ∷ []

-- IFD 0 (254 is 1) whose one child is itself: offsets that circle end by refusal 6
abbrev circle : List ℕ
circle =
    0x4D ∷ 0x4D ∷ 0 ∷ 0x2A ∷ 0 ∷ 0 ∷ 0 ∷ 8 ∷ 0 ∷ 3
    ∷ 0 ∷ 0xFE ∷ 0 ∷ 4 ∷ 0 ∷ 0 ∷ 0 ∷ 1 ∷ 0 ∷ 0 ∷ 0 ∷ 1
    ∷ 1 ∷ 0x4A ∷ 0 ∷ 4 ∷ 0 ∷ 0 ∷ 0 ∷ 1 ∷ 0 ∷ 0 ∷ 0 ∷ 8
    ∷ 0xC6 ∷ 0x12 ∷ 0 ∷ 1 ∷ 0 ∷ 0 ∷ 0 ∷ 4 ∷ 1 ∷ 4 ∷ 0 ∷ 0
    ∷ 0 ∷ 0 ∷ 0 ∷ 0 ∷ []

-- ---- the 64-bit layout

-- IFD 0 is the raw one: 254 (LONG8, 0), 256 (SHORT, in its entry), 50706 (1.4.0.0)
abbrev big_one : List ℕ
big_one =
    0x49 ∷ 0x49 ∷ 0x2B ∷ 0 ∷ 8 ∷ 0 ∷ 0 ∷ 0 ∷ 0x10 ∷ 0 ∷ 0 ∷ 0 ∷ 0 ∷ 0 ∷ 0 ∷ 0
    ∷ 3 ∷ 0 ∷ 0 ∷ 0 ∷ 0 ∷ 0 ∷ 0 ∷ 0
    ∷ 0xFE ∷ 0 ∷ 0x10 ∷ 0 ∷ 1 ∷ 0 ∷ 0 ∷ 0 ∷ 0 ∷ 0 ∷ 0 ∷ 0 ∷ 0 ∷ 0 ∷ 0 ∷ 0 ∷ 0 ∷ 0 ∷ 0 ∷ 0
    ∷ 0 ∷ 1 ∷ 3 ∷ 0 ∷ 1 ∷ 0 ∷ 0 ∷ 0 ∷ 0 ∷ 0 ∷ 0 ∷ 0 ∷ 7 ∷ 0 ∷ 0 ∷ 0 ∷ 0 ∷ 0 ∷ 0 ∷ 0
    ∷ 0x12 ∷ 0xC6 ∷ 1 ∷ 0 ∷ 4 ∷ 0 ∷ 0 ∷ 0 ∷ 0 ∷ 0 ∷ 0 ∷ 0 ∷ 1 ∷ 4 ∷ 0 ∷ 0 ∷ 0 ∷ 0 ∷ 0 ∷ 0
    ∷ 0 ∷ 0 ∷ 0 ∷ 0 ∷ 0 ∷ 0 ∷ 0 ∷ 0 ∷ []

-- IFD 0 (254 is 1) whose one child, by an IFD of four bytes in an entry of eight, is itself
abbrev big_circle : List ℕ
big_circle =
    0x4D ∷ 0x4D ∷ 0 ∷ 0x2B ∷ 0 ∷ 8 ∷ 0 ∷ 0 ∷ 0 ∷ 0 ∷ 0 ∷ 0 ∷ 0 ∷ 0 ∷ 0 ∷ 0x10
    ∷ 0 ∷ 0 ∷ 0 ∷ 0 ∷ 0 ∷ 0 ∷ 0 ∷ 3
    ∷ 0 ∷ 0xFE ∷ 0 ∷ 4 ∷ 0 ∷ 0 ∷ 0 ∷ 0 ∷ 0 ∷ 0 ∷ 0 ∷ 1 ∷ 0 ∷ 0 ∷ 0 ∷ 1 ∷ 0 ∷ 0 ∷ 0 ∷ 0
    ∷ 1 ∷ 0x4A ∷ 0 ∷ 0x0D ∷ 0 ∷ 0 ∷ 0 ∷ 0 ∷ 0 ∷ 0 ∷ 0 ∷ 1 ∷ 0 ∷ 0 ∷ 0 ∷ 0x10 ∷ 0 ∷ 0 ∷ 0 ∷ 0
    ∷ 0xC6 ∷ 0x12 ∷ 0 ∷ 1 ∷ 0 ∷ 0 ∷ 0 ∷ 0 ∷ 0 ∷ 0 ∷ 0 ∷ 4 ∷ 1 ∷ 4 ∷ 0 ∷ 0 ∷ 0 ∷ 0 ∷ 0 ∷ 0
    ∷ 0 ∷ 0 ∷ 0 ∷ 0 ∷ 0 ∷ 0 ∷ 0 ∷ 0 ∷ []

-- `one`, where 254 is a LONG8: a type that the 32-bit layout does not know
abbrev one_with_long8 : List ℕ
one_with_long8 = take 12 one ++ (16 ∷ drop 13 one)

record Worked : Type 0 where
  answer : run_whole one tree_reading ≡ is (roots (ifd classic Little 4 10) (ifd classic Little 4 10))
  -- neither the value of 256 (at 30), nor that of 262 (at 42), nor the next offset (at 58) is read
  asked :
      trace_whole one tree_reading
      ≡ stretch 0 4 ∷ stretch 4 4 ∷ stretch 8 2
      ∷ stretch 10 8 ∷ stretch 22 8 ∷ stretch 34 8 ∷ stretch 46 8
      ∷ stretch 10 8 ∷ stretch 22 8 ∷ stretch 34 8 ∷ stretch 46 8 ∷ stretch 54 4
      ∷ stretch 10 8 ∷ stretch 22 8 ∷ stretch 34 8 ∷ stretch 46 8 ∷ stretch 54 2
      ∷ stretch 10 8 ∷ stretch 18 4 ∷ stretch 18 4 ∷ []
  circle_ends : run_whole circle tree_reading ≡ refused 6 0
  big_answer : run_whole big_one tree_reading ≡ is (roots (ifd big_tiff Little 3 24) (ifd big_tiff Little 3 24))
  -- neither the value of 256 (at 56) nor the next offset (at 84) is read
  big_asked :
      trace_whole big_one tree_reading
      ≡ stretch 0 4 ∷ stretch 4 2 ∷ stretch 6 2 ∷ stretch 8 8 ∷ stretch 16 8
      ∷ stretch 24 12 ∷ stretch 44 12 ∷ stretch 64 12
      ∷ stretch 24 12 ∷ stretch 44 12 ∷ stretch 64 12 ∷ stretch 76 4
      ∷ stretch 24 12 ∷ stretch 44 12 ∷ stretch 64 12 ∷ stretch 76 2
      ∷ stretch 24 12 ∷ stretch 36 8 ∷ stretch 36 8 ∷ []
  big_circle_ends : run_whole big_circle tree_reading ≡ refused 6 0
  long8_unknown : run_whole one_with_long8 tree_reading ≡ refused 4 254
  -- the header: under 16 bytes; 9 for 8; 1 for 0
  short_header : run_whole (take 15 big_one) tree_reading ≡ refused 1 0
  not_eight : run_whole (take 4 big_one ++ (9 ∷ drop 5 big_one)) tree_reading ≡ refused 2 0
  not_zero : run_whole (take 6 big_one ++ (1 ∷ drop 7 big_one)) tree_reading ≡ refused 2 0

worked : Worked
unfolding trace run and_then pick number_at number_of little_of big_of bind kind_of plain_of kind_width entry_of place_test entry_reading order_test
    shape_from
    ifd_reading find_from whole_reading value_reading tested_reading absent_of values_reading range_fault judged_of first_reading one_reading look_reading
    backward_reading version_reading children_reading visit_reading walk_reading root_reading offset_reading big_tiff_reading tree_reading
worked =
    record {
      answer = refl;
      asked = refl;
      circle_ends = refl;
      big_answer = refl;
      big_asked = refl;
      big_circle_ends = refl;
      long8_unknown = refl;
      short_header = refl;
      not_eight = refl;
      not_zero = refl;
    }
