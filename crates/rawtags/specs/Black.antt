-- The black levels: BlackLevel, and the deltas BlackLevelDeltaH and BlackLevelDeltaV.
use Rattle.std.specs.Prelude.{ℕ, ◌*◌, eqb, Result, Ok, Err}
use Rattle.directory.specs.Names.{black_level}
use Rattle.reading.specs.Reading.{Reading, Reading.answer, Reading.ask, pick}
use Rattle.reading.specs.declared.number.Order.{Order}
use Rattle.levels.specs.declared.black.BlackKind.{BlackKind}
use Rattle.levels.specs.declared.black.BlackKind.TheVariants as kind
use Rattle.directory.specs.Out.{Out, Out.refused, Out.is, bind}
use Rattle.directory.specs.Tag.{values_reading, optional}
use Rattle.directory.specs.Entry.{code_of}
use Rattle.directory.specs.declared.entry.Kind.{Kind}
use Rattle.directory.specs.declared.Ifd.{Ifd}
use Rattle.directory.specs.declared.tag.Kinds.TheVariants as kinds
use Rattle.directory.specs.declared.tag.Rule.{Rule}
use Rattle.directory.specs.declared.tag.Values.{Values}
use Rattle.levels.specs.Run.{run_of}
use Rattle.levels.specs.Black.{black_at, first_refused}
use Rattle.levels.specs.declared.black.BlackFault.{BlackFault}
use Rattle.levels.specs.declared.black.BlackFault.TheVariants as black
use Rattle.rawtags.specs.declared.repeat.Repeat.{Repeat}

-- the type of a black level by its entry's: SHORT, LONG, LONG8, or else RATIONAL
unfoldable pub kind_for : Kind → BlackKind
kind_for k = pick (eqb (code_of k) 3) kind.Short (pick (eqb (code_of k) 4) kind.Long (pick (eqb (code_of k) 16) kind.Long8 kind.Rational))

-- illegal is 4, not carried is 8
abbrev pub black_out : ℕ → Result (Unit {0}) BlackFault → Out ℕ
black_out tag (Ok u) = is 0
black_out tag (Err black.Illegal) = refused 4 tag
black_out tag (Err black.NotCarried) = refused 8 tag

-- so many values of a width from a place on, in stored order: the first that is illegal or not carried refuses
unfoldable pub blacks_test : Order → ℕ → BlackKind → ℕ → ℕ → ℕ → Reading (Out ℕ)
blacks_test o tag k width n p = ask p (width * n) (λ bs. answer (black_out tag (first_refused (run_of (black_at k o bs) width 0 n))))

abbrev pub black_rule : Repeat → ℕ → Rule
black_rule r s = optional black_level kinds.ShortLongOrRational (r.rows * r.columns * s)

-- BlackLevel: "SHORT, LONG or RATIONAL, count rows x columns x samples of the repeat"
unfoldable pub black_reading : Ifd → Repeat → ℕ → Reading (Out Values)
black_reading d r s =
    bind (values_reading d (black_rule r s)) (λ v.
    bind (blacks_test d.order black_level (kind_for v.kind) v.size v.count v.place) (λ _. answer (is v)))

abbrev pub delta_rule : ℕ → ℕ → Rule
delta_rule tag n = optional tag kinds.SignedRational n

-- BlackLevelDeltaH: "SRATIONAL, one per active column". BlackLevelDeltaV: "SRATIONAL, one per active row"
unfoldable pub delta_reading : Ifd → ℕ → ℕ → Reading (Out Values)
delta_reading d tag n =
    bind (values_reading d (delta_rule tag n)) (λ v.
    bind (blacks_test d.order tag kind.SignedRational v.size v.count v.place) (λ _. answer (is v)))
