-- The colour tags of IFD 0, in order of test.
use Rattle.directory.specs.Names.{analog_balance, as_shot_neutral, camera_calibration1, forward_matrix1, forward_matrix2}
use Rattle.std.specs.Prelude.{true, false, ℕ, ◌+◌, eqb}
use Rattle.reading.specs.Reading.{Reading, Reading.answer, pick}
use Rattle.reading.specs.declared.number.Order.{Order}
use Rattle.reading.specs.declared.fraction.FractionKind.{FractionKind}
use Rattle.reading.specs.declared.fraction.FractionKind.TheVariants as kind
use Rattle.directory.specs.Out.{Out, Out.is, bind}
use Rattle.directory.specs.Entry.{code_of}
use Rattle.directory.specs.Tag.{values_reading, not_carried, required}
use Rattle.directory.specs.declared.entry.Kind.{Kind}
use Rattle.directory.specs.declared.Ifd.{Ifd}
use Rattle.directory.specs.declared.tag.Kinds.TheVariants as kinds
use Rattle.directory.specs.declared.tag.Rule.{Rule}
use Rattle.colour.specs.Value.{triple_reading}
use Rattle.colour.specs.declared.Colour.{Colour}
use Rattle.colour.specs.declared.value.Triple.{Triple}
use Rattle.colour.specs.declared.tags.Matrix.{Matrix}

abbrev pub matrix_rule : Rule
matrix_rule = required forward_matrix1 kinds.SignedRational 9

-- a row of the forward matrix
abbrev pub row_reading : Order → ℕ → Reading (Out Triple)
row_reading o at = triple_reading o kind.SignedRational 8 forward_matrix1 false at

-- ForwardMatrix1: "SRATIONAL 9, required, denominators not 0"
unfoldable pub matrix_reading : Ifd → Reading (Out Matrix)
matrix_reading d =
    bind (values_reading d matrix_rule) (λ v.
    bind (row_reading d.order v.place) (λ x.
    bind (row_reading d.order (v.place + 24)) (λ y.
    bind (row_reading d.order (v.place + 48)) (λ z.
    answer (is (record { x = x; y = y; z = z }))))))

abbrev pub neutral_rule : Rule
neutral_rule = required as_shot_neutral kinds.ShortOrRational 3

-- SHORT or RATIONAL, by the entry's type
unfoldable pub neutral_kind : Kind → FractionKind
neutral_kind k = pick (eqb (code_of k) 3) kind.Short kind.Rational

-- AsShotNeutral: "SHORT or RATIONAL 3, required, no numerator or denominator 0"
unfoldable pub neutral_reading : Ifd → Reading (Out Triple)
neutral_reading d =
    bind (values_reading d neutral_rule) (λ v. triple_reading d.order (neutral_kind v.kind) v.size as_shot_neutral true v.place)

abbrev pub colour_of : Matrix → Triple → Colour
colour_of m n =
    record {
      x0 = m.x.first;
      x1 = m.x.second;
      x2 = m.x.third;
      y0 = m.y.first;
      y1 = m.y.second;
      y2 = m.y.third;
      z0 = m.z.first;
      z1 = m.z.second;
      z2 = m.z.third;
      neutral0 = n.first;
      neutral1 = n.second;
      neutral2 = n.third;
    }

-- "50723, 50727, 50965 present with any type: not carried"; then ForwardMatrix1 and AsShotNeutral
unfoldable pub colour_reading : Ifd → Reading (Out Colour)
colour_reading d =
    bind (not_carried d camera_calibration1) (λ _.
    bind (not_carried d analog_balance) (λ _.
    bind (not_carried d forward_matrix2) (λ _.
    bind (matrix_reading d) (λ m.
    bind (neutral_reading d) (λ n.
    answer (is (colour_of m n)))))))
