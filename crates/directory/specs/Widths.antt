-- How wide the fields of a directory are, and which types it knows.
use Rattle.std.specs.Prelude.{ℕ, ◌+◌}
use Rattle.directory.specs.declared.Widths.{Widths}

-- the 32-bit layout: 2-byte count, 12-byte entries, 4-byte next offset; types 1 to 13
abbrev pub classic : Widths
classic = record { entries = 2; word = 4; types = 13 }

-- the 64-bit layout (BigTIFF): 8-byte count, 20-byte entries, 8-byte next offset; types 16, 17, 18 too
abbrev pub big_tiff : Widths
big_tiff = record { entries = 8; word = 8; types = 18 }

-- an entry's tag, type and count; with its value or offset, the whole entry
abbrev pub head_width : Widths → ℕ
head_width w = 4 + w.word

abbrev pub entry_width : Widths → ℕ
entry_width w = head_width w + w.word
