-- A small file with a linearization table, and what the tests find in it; `WorkedTable` says what holds of it.
use mathlib.Core.List.{List, [], ◌∷◌}
use Prim.Native.Nat.{ℕ}
use lib.IntN.{pos}
use Rattle.reading.specs.Number.{number_of}
use Rattle.reading.specs.declared.number.Order.TheVariants.{Little}
use Rattle.directory.specs.Widths.{classic}
use Rattle.directory.specs.Shape.{ifd}
use Rattle.directory.specs.Tag.{no_values}
use Rattle.directory.specs.declared.entry.Kind.TheVariants as entryKind
use Rattle.levels.specs.Plain.{plain_through}
use Rattle.rawtags.specs.Area.{area}
use Rattle.raw.specs.Spans.{spans}
use Rattle.raw.specs.Stored.{Stored}
use Rattle.raw.specs.Front.{raw_with, picture_of}
use Rattle.rawtags.specs.declared.Tags.{Tags}
use Rattle.raw.specs.declared.front.Picture.{Picture}
use Rattle.develop.specs.Calls.{Opened}
use Rattle.demand.proofs.Linear.{level_tags}

-- An 8-bit mosaic of 2 columns and 1 row. IFD 0 is the raw one: 256 (2), 257 (1), 258 (8), 262 (32803), 273 (110), 279 (2), 50706 (1.4.0.0),
-- 50712 (t, u). The strip holds 0 and 1
abbrev pub file : ℕ → ℕ → List ℕ
file t u =
    0x49 ∷ 0x49 ∷ 0x2A ∷ 0 ∷ 8 ∷ 0 ∷ 0 ∷ 0 ∷ 8 ∷ 0
    ∷ 0 ∷ 1 ∷ 3 ∷ 0 ∷ 1 ∷ 0 ∷ 0 ∷ 0 ∷ 2 ∷ 0 ∷ 0 ∷ 0
    ∷ 1 ∷ 1 ∷ 3 ∷ 0 ∷ 1 ∷ 0 ∷ 0 ∷ 0 ∷ 1 ∷ 0 ∷ 0 ∷ 0
    ∷ 2 ∷ 1 ∷ 3 ∷ 0 ∷ 1 ∷ 0 ∷ 0 ∷ 0 ∷ 8 ∷ 0 ∷ 0 ∷ 0
    ∷ 6 ∷ 1 ∷ 3 ∷ 0 ∷ 1 ∷ 0 ∷ 0 ∷ 0 ∷ 0x23 ∷ 0x80 ∷ 0 ∷ 0
    ∷ 0x11 ∷ 1 ∷ 3 ∷ 0 ∷ 1 ∷ 0 ∷ 0 ∷ 0 ∷ 110 ∷ 0 ∷ 0 ∷ 0
    ∷ 0x17 ∷ 1 ∷ 3 ∷ 0 ∷ 1 ∷ 0 ∷ 0 ∷ 0 ∷ 2 ∷ 0 ∷ 0 ∷ 0
    ∷ 0x12 ∷ 0xC6 ∷ 1 ∷ 0 ∷ 4 ∷ 0 ∷ 0 ∷ 0 ∷ 1 ∷ 4 ∷ 0 ∷ 0
    ∷ 0x18 ∷ 0xC6 ∷ 3 ∷ 0 ∷ 2 ∷ 0 ∷ 0 ∷ 0 ∷ t ∷ 0 ∷ u ∷ 0
    ∷ 0 ∷ 0 ∷ 0 ∷ 0 ∷ 0 ∷ 1 ∷ []

abbrev pub found : Tags
found =
    record {
      frame = record { width = 2; length = 1; samples = 1 };
      layout = record { bytes = 1; rows = 4294967295 };
      strips = record { place = 66; kind = entryKind.Short; size = 2; count = 1 };
      area = area 0 0 1 2;
      levels = level_tags (record { place = 102; kind = entryKind.Short; size = 2; count = 2 });
      crop = record { left = 0; top = 0; columns = 2; rows = 1 };
      list = no_values;
    }

-- S is 256 times the default white
abbrev pub picture : Picture
picture =
    let d = ifd classic Little 8 10 in
    picture_of d d (raw_with found (spans (pos 65280) (pos 0) (pos 0)))

abbrev pub stored : ℕ → ℕ → Stored
stored t u =
    record {
      offsets = 110 ∷ [];
      levels = plain_through (number_of Little (t ∷ 0 ∷ []) ∷ number_of Little (u ∷ 0 ∷ []) ∷ []) 1 2 [] 255;
    }

abbrev pub held : ℕ → ℕ → Opened
held t u = record { picture = picture; opcodes = []; stored = stored t u }
