-- The active area.
use Rattle.std.specs.Prelude.{ℕ, ◌+◌, ◌*◌, eqb, leb, ltb}
use Rattle.directory.specs.Names.{active_area}
use Rattle.reading.specs.Reading.{Reading, Reading.answer, and_then, pick, number_at}
use Rattle.reading.specs.declared.number.Order.{Order}
use Rattle.directory.specs.Out.{Out, Out.refused, Out.is, bind}
use Rattle.directory.specs.Tag.{values_reading, optional}
use Rattle.directory.specs.declared.Ifd.{Ifd}
use Rattle.directory.specs.declared.tag.Kinds.TheVariants as kinds
use Rattle.directory.specs.declared.tag.Values.{Values}
use Rattle.rawtags.specs.declared.frame.Dimensions.{Dimensions}
use Rattle.rawtags.specs.declared.area.Area.{Area}

abbrev pub area : ℕ → ℕ → ℕ → ℕ → Area
area t l b r = record { top = t; left = l; bottom = b; right = r }

-- "top < bottom <= length, left < right <= width"
unfoldable pub area_of : Dimensions → Area → Out Area
area_of f a =
    pick (ltb a.top a.bottom)
    (pick (leb a.bottom f.length)
    (pick (ltb a.left a.right)
    (pick (leb a.right f.width) (is a) (refused 4 active_area))
    (refused 4 active_area))
    (refused 4 active_area))
    (refused 4 active_area)

-- "(top, left, bottom, right) .. default the whole frame"
unfoldable pub four_reading : Order → Dimensions → Values → Reading (Out Area)
four_reading o f v =
    pick (eqb v.count 0) (answer (is (area 0 0 f.length f.width)))
    (and_then (number_at o v.place v.size) (λ t.
    and_then (number_at o (v.place + v.size) v.size) (λ l.
    and_then (number_at o (v.place + 2 * v.size) v.size) (λ b.
    and_then (number_at o (v.place + 3 * v.size) v.size) (λ r.
    answer (area_of f (area t l b r)))))))

-- ActiveArea: SHORT or LONG 4
unfoldable pub area_reading : Ifd → Dimensions → Reading (Out Area)
area_reading d f = bind (values_reading d (optional active_area kinds.ShortOrLong 4)) (four_reading d.order f)
