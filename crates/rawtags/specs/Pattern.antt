-- The mosaic's pattern: CFARepeatPatternDim, CFAPattern, CFAPlaneColor, CFALayout. Only half windows ask for it.
use Rattle.directory.specs.Names.{cfa_layout, cfa_pattern, cfa_plane_color, cfa_repeat_pattern_dim}
use Rattle.std.specs.Prelude.{◌&&◌, ℕ, ◌+◌, eqb}
use Rattle.reading.specs.Reading.{Reading, Reading.answer, and_then, pick, number_at}
use Rattle.reading.specs.declared.number.Order.{Order}
use Rattle.directory.specs.Out.{Out, Out.refused, Out.is, bind}
use Rattle.directory.specs.Tag.{values_reading, one_reading, all_reading, required, optional, range}
use Rattle.directory.specs.declared.Ifd.{Ifd}
use Rattle.directory.specs.declared.tag.Kinds.TheVariants as kinds
use Rattle.directory.specs.declared.tag.Values.{Values}
use Rattle.rawtags.specs.declared.pattern.Pattern.{Pattern}

-- 1 where two numbers are the same
unfoldable pub one_of : ℕ → ℕ → ℕ
one_of v x = pick (eqb v x) 1 0

-- how many of four numbers are x
abbrev pub times_of : ℕ → ℕ → ℕ → ℕ → ℕ → ℕ
times_of x a b c d = one_of a x + one_of b x + one_of c x + one_of d x

-- the place of the first x among four numbers that have one, and of the last
unfoldable pub first_of : ℕ → ℕ → ℕ → ℕ → ℕ
first_of x a b c = pick (eqb a x) 0 (pick (eqb b x) 1 (pick (eqb c x) 2 3))

unfoldable pub last_of : ℕ → ℕ → ℕ → ℕ → ℕ
last_of x b c d = pick (eqb d x) 3 (pick (eqb c x) 2 (pick (eqb b x) 1 0))

-- "Carried patterns hold one 0, two 1 and one 2"; the greens in row order
unfoldable pub places_of : ℕ → ℕ → ℕ → ℕ → Out Pattern
places_of a b c d =
    pick (eqb (times_of 0 a b c d) 1 && (eqb (times_of 1 a b c d) 2 && eqb (times_of 2 a b c d) 1))
    (is (record { red = first_of 0 a b c; green1 = first_of 1 a b c; green2 = last_of 1 b c d; blue = first_of 2 a b c }))
    (refused 8 cfa_pattern)

-- four BYTEs, the colours of a block row by row
unfoldable pub four_colours_reading : Order → Values → Reading (Out Pattern)
four_colours_reading o v =
    and_then (number_at o v.place 1) (λ a.
    and_then (number_at o (v.place + 1) 1) (λ b.
    and_then (number_at o (v.place + 2) 1) (λ c.
    and_then (number_at o (v.place + 3) 1) (λ d.
    answer (places_of a b c d)))))

-- "default 0, 1, 2, only that carried"
unfoldable pub plane_color_of : ℕ → ℕ → ℕ → Out ℕ
plane_color_of a b c = pick (eqb a 0 && (eqb b 1 && eqb c 2)) (is 0) (refused 8 cfa_plane_color)

unfoldable pub three_colours_reading : Order → Values → Reading (Out ℕ)
three_colours_reading o v =
    pick (eqb v.count 0) (answer (plane_color_of 0 1 2))
    (and_then (number_at o v.place 1) (λ a.
    and_then (number_at o (v.place + 1) 1) (λ b.
    and_then (number_at o (v.place + 2) 1) (λ c.
    answer (plane_color_of a b c)))))

-- CFARepeatPatternDim: "33421, SHORT 2, only 2, 2 carried"
abbrev pub repeat_dim_reading : Ifd → Reading (Out Values)
repeat_dim_reading d = all_reading d (required cfa_repeat_pattern_dim kinds.Short 2) (range 0 2 2)

-- CFAPattern: "33422, BYTE 4"
unfoldable pub cfa_pattern_reading : Ifd → Reading (Out Pattern)
cfa_pattern_reading d = bind (values_reading d (required cfa_pattern kinds.Byte 4)) (four_colours_reading d.order)

-- CFAPlaneColor: "50710, BYTE 3"
unfoldable pub plane_color_reading : Ifd → Reading (Out ℕ)
plane_color_reading d = bind (values_reading d (optional cfa_plane_color kinds.Byte 3)) (three_colours_reading d.order)

-- CFALayout: "50711, SHORT 1, default 1, only 1 carried"
abbrev pub cfa_layout_reading : Ifd → Reading (Out ℕ)
cfa_layout_reading d = one_reading d (optional cfa_layout kinds.Short 1) 1 (range 0 1 1)

-- "on each tag in turn"
unfoldable pub pattern_reading : Ifd → Reading (Out Pattern)
pattern_reading d =
    bind (repeat_dim_reading d) (λ _.
    bind (cfa_pattern_reading d) (λ p.
    bind (plane_color_reading d) (λ _.
    bind (cfa_layout_reading d) (λ _.
    answer (is p)))))
