-- A small LinearRaw file, and what the tests find in it; `WorkedLinear` says what holds of it.
use mathlib.Core.Bool.{false}
use mathlib.Core.List.{List, [], ◌∷◌, ◌++◌}
use Prim.Native.Nat.{ℕ}
use lib.IntN.{pos}
use lib.Ieee.{Float, fin}
use Rattle.reading.specs.declared.number.Order.TheVariants.{Little}
use Rattle.directory.specs.Widths.{classic}
use Rattle.directory.specs.Shape.{ifd}
use Rattle.directory.specs.Tag.{no_values}
use Rattle.directory.specs.declared.entry.Kind.TheVariants as entryKind
use Rattle.rawtags.specs.Area.{area}
use Rattle.raw.specs.Spans.{spans}
use Rattle.raw.specs.Stored.{Stored}
use Rattle.raw.specs.Front.{raw_with, picture_of}
use Rattle.directory.specs.declared.tag.Values.{Values}
use Rattle.rawtags.specs.declared.level_tags.LevelTags.{LevelTags}
use Rattle.rawtags.specs.declared.Tags.{Tags}
use Rattle.raw.specs.declared.front.Picture.{Picture}
use Rattle.colour.specs.declared.Colour.{Colour}
use Rattle.develop.specs.Calls.{Opened}

-- the SRATIONAL n / 1
abbrev pub fraction : ℕ → List ℕ
fraction n = n ∷ 0 ∷ 0 ∷ 0 ∷ 1 ∷ 0 ∷ 0 ∷ 0 ∷ []

-- the unit matrix; with a neutral of ones
abbrev pub unit_matrix : List ℕ
unit_matrix =
    fraction 1 ++ fraction 0 ++ fraction 0
    ++ fraction 0 ++ fraction 1 ++ fraction 0
    ++ fraction 0 ++ fraction 0 ++ fraction 1

abbrev one : Float
one = fin false 1 (pos 0)

abbrev none : Float
none = fin false 0 (pos 0)

abbrev pub unit_colour : Colour
unit_colour =
    record {
      x0 = one;
      x1 = none;
      x2 = none;
      y0 = none;
      y1 = one;
      y2 = none;
      z0 = none;
      z1 = none;
      z2 = one;
      neutral0 = one;
      neutral1 = one;
      neutral2 = one;
    }

-- 16-bit LinearRaw of 2 columns and 1 row. IFD 0 is the raw one: 256 (2), 257 (1), 258 (16, 16, 16: at 134, behind the next offset), 262
-- (34892), 273 (218), 277 (3), 279 (12), 50706 (1.4.0.0), 50728 (1, 1, 1: at 140), 50964 (the unit matrix: at 146). The strip holds the
-- pixels 256, 512, 768 and 1024, 1280, 1536
abbrev pub file : List ℕ
file =
    (0x49 ∷ 0x49 ∷ 0x2A ∷ 0 ∷ 8 ∷ 0 ∷ 0 ∷ 0 ∷ 10 ∷ 0
    ∷ 0 ∷ 1 ∷ 3 ∷ 0 ∷ 1 ∷ 0 ∷ 0 ∷ 0 ∷ 2 ∷ 0 ∷ 0 ∷ 0
    ∷ 1 ∷ 1 ∷ 3 ∷ 0 ∷ 1 ∷ 0 ∷ 0 ∷ 0 ∷ 1 ∷ 0 ∷ 0 ∷ 0
    ∷ 2 ∷ 1 ∷ 3 ∷ 0 ∷ 3 ∷ 0 ∷ 0 ∷ 0 ∷ 134 ∷ 0 ∷ 0 ∷ 0
    ∷ 6 ∷ 1 ∷ 3 ∷ 0 ∷ 1 ∷ 0 ∷ 0 ∷ 0 ∷ 0x4C ∷ 0x88 ∷ 0 ∷ 0
    ∷ 0x11 ∷ 1 ∷ 3 ∷ 0 ∷ 1 ∷ 0 ∷ 0 ∷ 0 ∷ 218 ∷ 0 ∷ 0 ∷ 0
    ∷ 0x15 ∷ 1 ∷ 3 ∷ 0 ∷ 1 ∷ 0 ∷ 0 ∷ 0 ∷ 3 ∷ 0 ∷ 0 ∷ 0
    ∷ 0x17 ∷ 1 ∷ 3 ∷ 0 ∷ 1 ∷ 0 ∷ 0 ∷ 0 ∷ 12 ∷ 0 ∷ 0 ∷ 0
    ∷ 0x12 ∷ 0xC6 ∷ 1 ∷ 0 ∷ 4 ∷ 0 ∷ 0 ∷ 0 ∷ 1 ∷ 4 ∷ 0 ∷ 0
    ∷ 0x28 ∷ 0xC6 ∷ 3 ∷ 0 ∷ 3 ∷ 0 ∷ 0 ∷ 0 ∷ 140 ∷ 0 ∷ 0 ∷ 0
    ∷ 0x14 ∷ 0xC7 ∷ 10 ∷ 0 ∷ 9 ∷ 0 ∷ 0 ∷ 0 ∷ 146 ∷ 0 ∷ 0 ∷ 0
    ∷ 0 ∷ 0 ∷ 0 ∷ 0 ∷ 16 ∷ 0 ∷ 16 ∷ 0 ∷ 16 ∷ 0 ∷ 1 ∷ 0 ∷ 1 ∷ 0 ∷ 1 ∷ 0 ∷ [])
    ++ unit_matrix
    ++ (0 ∷ 1 ∷ 0 ∷ 2 ∷ 0 ∷ 3 ∷ 0 ∷ 4 ∷ 0 ∷ 5 ∷ 0 ∷ 6 ∷ [])

-- the level tags of a file that has a table at the most
abbrev pub level_tags : Values → LevelTags
level_tags table =
    record {
      table = table;
      repeat = record { rows = 1; columns = 1 };
      black = no_values;
      column_deltas = no_values;
      row_deltas = no_values;
      white = no_values;
    }

abbrev pub found : Tags
found =
    record {
      frame = record { width = 2; length = 1; samples = 3 };
      layout = record { bytes = 2; rows = 4294967295 };
      strips = record { place = 66; kind = entryKind.Short; size = 2; count = 1 };
      area = area 0 0 1 2;
      levels = level_tags no_values;
      crop = record { left = 0; top = 0; columns = 2; rows = 1 };
      list = no_values;
    }

-- on each plane S is 256 times the default white
abbrev pub picture : Picture
picture =
    let d = ifd classic Little 10 10 in
    let s = pos 16776960 in
    picture_of d d (raw_with found (spans s s s))

abbrev pub stored : Stored
stored =
    record {
      offsets = 218 ∷ [];
      levels =
          record {
            rows = 1;
            columns = 2;
            table = [];
            repeat_rows = 1;
            repeat_columns = 1;
            samples = 3;
            cells = [];
            column_deltas = [];
            row_deltas = [];
            whites = 65535 ∷ 65535 ∷ 65535 ∷ [];
          };
    }

abbrev pub held : Opened
held = record { picture = picture; opcodes = []; stored = stored }
