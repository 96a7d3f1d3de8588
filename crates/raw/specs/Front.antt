-- From a file's bytes to its raw directory: refusals 1 to 9.
use Rattle.std.specs.Prelude.{ℕ}
use Rattle.reading.specs.Reading.{Reading, Reading.answer, and_then}
use Rattle.directory.specs.Out.{Out, Out.is, bind}
use Rattle.directory.specs.Tree.{tree_reading}
use Rattle.directory.specs.declared.Ifd.{Ifd}
use Rattle.rawtags.specs.Raw.{tags_reading}
use Rattle.raw.specs.Stored.{levels_reading}
use Rattle.raw.specs.Spans.{spanned_of}
use Rattle.rawtags.specs.declared.Tags.{Tags}
use Rattle.raw.specs.declared.spans.Spans.{Spans}
use Rattle.raw.specs.declared.front.Raw.{Raw}
use Rattle.raw.specs.declared.front.Picture.{Picture}

abbrev pub raw_with : Tags → Spans → Raw
raw_with t s = record { tags = t; spans = s }

-- "the raw tags, 9": S is worked out from the values that the tags hold
unfoldable pub raw_reading : ℕ → Ifd → Reading (Out Raw)
raw_reading len d =
    bind (tags_reading len d) (λ t.
    bind (and_then (levels_reading d.order t) (λ l. answer (spanned_of l))) (λ s.
    answer (is (raw_with t s))))

abbrev pub picture_of : Ifd → Ifd → Raw → Picture
picture_of first d r = record { first = first; directory = d; order = d.order; raw = r }

-- "1, 2, the tree, the raw tags, 9"
unfoldable pub front_reading : ℕ → Reading (Out Picture)
front_reading len =
    bind (tree_reading len) (λ roots. bind (raw_reading len roots.raw) (λ r. answer (is (picture_of roots.first roots.raw r))))
