-- One tag of a directory: "presence (5), type and count (4), then each value in stored order: legal (4), then carried (8)".
use Rattle.std.specs.Prelude.{List, [], ◌∷◌, Bool, true, false, ℕ, zero, suc, ◌+◌, ltb, leb, eqb, Option, Some, None}
use mir.Val.{has_key}
use Rattle.reading.specs.Reading.{Reading, Reading.answer, Reading.ask, and_then, pick, number_at}
use Rattle.reading.specs.declared.number.Order.{Order}
use Rattle.directory.specs.Out.{Out, Out.refused, Out.is, bind}
use Rattle.directory.specs.Widths.{head_width, entry_width}
use Rattle.directory.specs.Entry.{code_of, plain_of, kind_width, bytes_of, entry_of}
use Rattle.directory.specs.declared.Ifd.{Ifd}
use Rattle.directory.specs.declared.Widths.{Widths}
use Rattle.directory.specs.declared.entry.Kind.{Kind}
use Rattle.directory.specs.declared.entry.Kind.TheVariants as kind
use Rattle.directory.specs.declared.entry.Entry.{Entry}
use Rattle.directory.specs.declared.tag.Found.{Found}
use Rattle.directory.specs.declared.tag.Kinds.{Kinds}
use Rattle.directory.specs.declared.tag.Kinds.TheVariants as kinds
use Rattle.directory.specs.declared.tag.Rule.{Rule}
use Rattle.directory.specs.declared.tag.Range.{Range}
use Rattle.directory.specs.declared.tag.Values.{Values}

-- ---- finding a tag

abbrev pub found_at : ℕ → Entry → Found
found_at p e = record { place = p; entry = e }

-- the first of so many entries with a tag, and the place of its value or offset; its bytes before that are read
unfoldable pub find_from : Widths → Order → ℕ → ℕ → ℕ → Reading (Option Found)
find_from w o zero at tag = answer None
find_from w o (suc n) at tag =
    ask at (head_width w) (λ bs.
    pick (eqb (entry_of w o bs).tag tag) (answer (Some (found_at (at + head_width w) (entry_of w o bs)))) (find_from w o n (at + entry_width w) tag))

abbrev pub found_reading : Ifd → ℕ → Reading (Option Found)
found_reading d tag = find_from d.widths d.order d.count d.at tag

-- ---- type and count

-- the types that a tag may have, by their numbers
abbrev pub codes_of : Kinds → List ℕ
codes_of kinds.Byte = 1 ∷ []
codes_of kinds.Short = 3 ∷ []
codes_of kinds.Long = 4 ∷ []
codes_of kinds.ShortOrLong = 3 ∷ 4 ∷ []
codes_of kinds.LongOrIfd = 4 ∷ 13 ∷ []
codes_of kinds.ShortOrRational = 3 ∷ 5 ∷ []
codes_of kinds.ShortLongOrRational = 3 ∷ 4 ∷ 5 ∷ []
codes_of kinds.SignedRational = 10 ∷ []
codes_of kinds.Undefined = 7 ∷ []

abbrev pub allows_of : Kinds → Kind → Bool
allows_of ks k = has_key (codes_of ks) (plain_of k)

-- where the values of an entry stand, their type, how wide each is, and how many there are; none of an absent tag
abbrev pub values_at : ℕ → Entry → Values
values_at p e = record { place = p; kind = e.kind; size = kind_width e.kind; count = e.count }

abbrev pub no_values : Values
no_values = record { place = 0; kind = kind.Unknown; size = 0; count = 0 }

-- the value of a tag that is tested is read, whole; but an opcode list (UNDEFINED) is read where its opcodes are tested,
-- and not all of it: "a skipped correction's parameters"
unfoldable pub whole_reading : ℕ → Entry → Reading (Out Values)
whole_reading p e = pick (eqb (code_of e.kind) 7) (answer (is (values_at p e))) (ask p (bytes_of e) (λ _. answer (is (values_at p e))))

-- a value that fits stands in the entry, any other where the offset says
unfoldable pub value_reading : Widths → Order → ℕ → Entry → Reading (Out Values)
value_reading w o p e = pick (leb (bytes_of e) w.word) (whole_reading p e) (and_then (number_at o p w.word) (λ q. whole_reading q e))

-- a tag that is there: its type and count (4), and its value
unfoldable pub tested_reading : Widths → Order → Rule → ℕ → Entry → Reading (Out Values)
tested_reading w o r p e =
    pick (allows_of r.kinds e.kind)
    (pick (leb r.least e.count) (pick (leb e.count r.most) (value_reading w o p e) (answer (refused 4 r.tag))) (answer (refused 4 r.tag)))
    (answer (refused 4 r.tag))

-- an absent tag: 5 where it is required
unfoldable pub absent_of : Rule → Out Values
absent_of r = pick r.required (refused 5 r.tag) (is no_values)

abbrev pub values_found : Widths → Order → Rule → Option Found → Reading (Out Values)
values_found w o r None = answer (absent_of r)
values_found w o r (Some x) = tested_reading w o r x.place x.entry

-- a tag of a directory: presence, type and count
unfoldable pub values_reading : Ifd → Rule → Reading (Out Values)
values_reading d r = and_then (found_reading d r.tag) (values_found d.widths d.order r)

abbrev pub if_absent : ℕ → Option Found → Reading (Out ℕ)
if_absent tag None = answer (is 0)
if_absent tag (Some x) = answer (refused 8 tag)

-- "if present with any type, not carried"
unfoldable pub not_carried : Ifd → ℕ → Reading (Out ℕ)
not_carried d tag = and_then (found_reading d tag) (if_absent tag)

-- ---- value by value

-- the refusal of a number by its range, or 0: legal (4), then carried (8)
unfoldable pub range_fault : Range → ℕ → ℕ
range_fault r v = pick (ltb v r.legal) 4 (pick (ltb v r.from) 8 (pick (ltb r.to v) 8 0))

unfoldable pub judged_of : ℕ → Range → ℕ → Out ℕ
judged_of tag r v = pick (eqb (range_fault r v) 0) (is v) (refused (range_fault r v) tag)

-- the first of a tag's numbers, or the default, which is judged like a value
unfoldable pub first_reading : Order → ℕ → ℕ → Range → Values → Reading (Out ℕ)
first_reading o tag default r v =
    pick (eqb v.count 0) (answer (judged_of tag r default)) (and_then (number_at o v.place v.size) (λ n. answer (judged_of tag r n)))

-- a tag that holds one number
unfoldable pub one_reading : Ifd → Rule → ℕ → Range → Reading (Out ℕ)
one_reading d r default range = bind (values_reading d r) (first_reading d.order r.tag default range)

-- so many numbers from a place on, in stored order
unfoldable pub each_reading : Order → ℕ → ℕ → Range → ℕ → ℕ → Reading (Out ℕ)
each_reading o width tag r zero p = answer (is 0)
each_reading o width tag r (suc n) p =
    bind (and_then (number_at o p width) (λ v. answer (judged_of tag r v))) (λ _. each_reading o width tag r n (p + width))

-- a tag whose numbers must all be in a range
unfoldable pub all_reading : Ifd → Rule → Range → Reading (Out Values)
all_reading d r range =
    bind (values_reading d r) (λ v. bind (each_reading d.order v.size r.tag range v.count v.place) (λ _. answer (is v)))

-- ---- rules

abbrev pub rule : Bool → ℕ → Kinds → ℕ → ℕ → Rule
rule must tag ks least most = record { tag = tag; kinds = ks; required = must; least = least; most = most }

-- exactly n values
abbrev pub required : ℕ → Kinds → ℕ → Rule
required tag ks n = rule true tag ks n n

abbrev pub optional : ℕ → Kinds → ℕ → Rule
optional tag ks n = rule false tag ks n n

-- at least legal, else 4; from one number to another, else 8
abbrev pub range : ℕ → ℕ → ℕ → Range
range legal from to = record { legal = legal; from = from; to = to }
