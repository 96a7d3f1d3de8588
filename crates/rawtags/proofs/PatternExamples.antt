-- The pattern's four tags in a directory of four entries, and each refusal.
use mathlib.Core.Path.{◌≡◌, refl}
use mathlib.Core.List.{List, [], ◌∷◌}
use Prim.Native.Nat.{ℕ}
use Rattle.reading.specs.Bytes.{replaced}
use Rattle.reading.specs.Number.{number_of, little_of}
use Rattle.reading.specs.Reading.{run, and_then, pick, number_at}
use Rattle.reading.specs.declared.number.Order.TheVariants.{Little}
use Rattle.directory.specs.Out.{Out, Out.refused, Out.is, bind}
use Rattle.directory.specs.Widths.{classic}
use Rattle.directory.specs.Entry.{kind_of, plain_of, kind_width, entry_of}
use Rattle.directory.specs.Shape.{ifd}
use Rattle.directory.specs.Tag.{find_from, whole_reading, value_reading, tested_reading, absent_of, values_reading, range_fault, judged_of}
use Rattle.directory.specs.Tag.{first_reading, one_reading, each_reading, all_reading}
use Rattle.rawtags.specs.Pattern.{one_of, first_of, last_of, places_of, four_colours_reading, cfa_pattern_reading, plane_color_of}
use Rattle.rawtags.specs.Pattern.{three_colours_reading, plane_color_reading, pattern_reading}
use Rattle.rawtags.specs.declared.pattern.Pattern.{Pattern}

-- 33421: 2, 2; 33422: green, red, blue, green; 50710: 0, 1, 2; 50711: 1
abbrev entries : List ℕ
entries =
    0x8D ∷ 0x82 ∷ 3 ∷ 0 ∷ 2 ∷ 0 ∷ 0 ∷ 0 ∷ 2 ∷ 0 ∷ 2 ∷ 0
    ∷ 0x8E ∷ 0x82 ∷ 1 ∷ 0 ∷ 4 ∷ 0 ∷ 0 ∷ 0 ∷ 1 ∷ 0 ∷ 2 ∷ 1
    ∷ 0x16 ∷ 0xC6 ∷ 1 ∷ 0 ∷ 3 ∷ 0 ∷ 0 ∷ 0 ∷ 0 ∷ 1 ∷ 2 ∷ 0
    ∷ 0x17 ∷ 0xC6 ∷ 3 ∷ 0 ∷ 1 ∷ 0 ∷ 0 ∷ 0 ∷ 1 ∷ 0 ∷ 0 ∷ 0 ∷ []

-- the first so many of them
abbrev read : ℕ → List ℕ → Out Pattern
read count f = run f (pattern_reading (ifd classic Little count 0))

-- with another byte at a place
abbrev changed : ℕ → ℕ → Out Pattern
changed at byte = read 4 (replaced entries at (byte ∷ []))

abbrev found : Out Pattern
found = is (record { red = 1; green1 = 0; green2 = 3; blue = 2 })

pub record Worked : Type 0 where
  pub whole : read 4 entries ≡ found
  -- 50710 and 50711 by default
  pub defaults : read 2 entries ≡ found
  -- In order of test: no 33421; 2, 3; no 33422; two reds; 50710 as SHORT; 0, 1, 1; 50711 twice; 2
  pub refusals :
      changed 0 0 ∷ changed 10 3 ∷ changed 12 0 ∷ changed 20 0 ∷ changed 26 3 ∷ changed 34 1 ∷ changed 40 2 ∷ changed 44 2 ∷ []
      ≡ refused 5 33421 ∷ refused 8 33421 ∷ refused 5 33422 ∷ refused 8 33422 ∷ refused 4 50710
      ∷ refused 8 50710 ∷ refused 4 50711 ∷ refused 8 50711 ∷ []

pub worked : Worked
unfolding run and_then pick number_at number_of little_of bind kind_of plain_of kind_width entry_of find_from whole_reading value_reading tested_reading
    absent_of
    values_reading range_fault judged_of first_reading one_reading each_reading all_reading one_of first_of last_of places_of four_colours_reading
    cfa_pattern_reading
    plane_color_of
    three_colours_reading plane_color_reading pattern_reading
worked = record { whole = refl; defaults = refl; refusals = refl }
