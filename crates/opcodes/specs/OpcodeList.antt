-- OpcodeList2. No definition of an opcode names a place in the file: an opcode is a function of its own bytes.
use Rattle.std.specs.Prelude.{ℕ, zero, suc, ◌+◌, ◌-◌, ◌*◌, ◌%◌, Bool, false, ◌&&◌, ◌||◌, List, [], ◌∷◌, length, ◌==◌, nat_le, nat_lt, Float}
use Rattle.std.specs.Prelude.{Option, is_none}
use Rattle.std.specs.Float.{binary32, binary64}
use Rattle.reading.specs.Bytes.{part}
use Rattle.reading.specs.Number.{number_of}
use Rattle.reading.specs.Reading.{Reading, Reading.answer, Reading.ask, pick}
use Rattle.reading.specs.Real.{real_of}
use Rattle.reading.specs.declared.number.Order.TheVariants.{Big}
use Rattle.levels.specs.Run.{run_of}
use Rattle.levels.specs.Table.{table_of}
use Rattle.directory.specs.Out.{Out, Out.refused, Out.is, bind}
use Rattle.opcodes.specs.Grid.{long_of, lines_of, grid_of, fits_of}
use Rattle.opcodes.specs.Step.{float_in, coefficients_of}
use Rattle.opcodes.specs.GainMap.{gain_map_of, gain_map_legal, gains_in}
use Rattle.opcodes.specs.Opcode.{row, column, OpcodeKind, table, polynomial, delta, scale, gain, Opcode, skipped, kept}
use Rattle.opcodes.specs.declared.grid.Size.{Size}
use Rattle.opcodes.specs.declared.grid.Grid.{Grid}
use Rattle.opcodes.specs.declared.list.Header.{Header}
use Rattle.opcodes.specs.declared.list.Class.{Class}
use Rattle.opcodes.specs.declared.list.Class.TheVariants as class
use Rattle.opcodes.specs.declared.list.Form.{Form}

-- ---- a header: "id, version, flags, byte length (4 bytes each)"
unfoldable pub header_of : List ℕ → Header
header_of h = record { id = long_of h 0; version = long_of h 4; flags = long_of h 8; length = long_of h 12 }

-- the ids 7 to 13
abbrev pub listed_id : ℕ → Bool
listed_id n = nat_le 7 n && nat_le n 13

-- "an id below not listed, or a version above 1.7.1.0, is skipped if flag bit 0 is set and refused by 11 if not"
unfoldable pub class_of : Header → Class
class_of h = pick (listed_id h.id && nat_le h.version 0x01070100) class.Carried (pick (h.flags % 2 == 1) class.Optional class.Compulsory)

-- ---- parameters: the grid, a LONG, and the numbers
abbrev pub count_of : List ℕ → ℕ
count_of ps = long_of ps 32

abbrev pub rows_of : Grid → ℕ
rows_of g = lines_of g.top g.bottom g.row_pitch

abbrev pub columns_of : Grid → ℕ
columns_of g = lines_of g.left g.right g.column_pitch

-- "size 1 to 65,536, that many SHORT"
abbrev pub table_form : ℕ → Form
table_form n = record { legal = nat_le 1 n && nat_le n 65536; bytes = 2 * n; width = 2; numbers = 0 }

-- "degree 0 to 8, degree + 1 DOUBLE"
abbrev pub polynomial_form : ℕ → Form
polynomial_form n = record { legal = nat_le n 8; bytes = 8 * (n + 1); width = 8; numbers = n + 1 }

-- "count, FLOATs .. Count must be the grid's rows (10, 12) or columns (11, 13)"
abbrev pub lines_form : ℕ → ℕ → Form
lines_form lines n = record { legal = (n == lines); bytes = 4 * n; width = 4; numbers = n }

-- the form that an id gives to what follows the LONG
unfoldable pub form_of : Grid → ℕ → ℕ → Form
form_of g id n =
    pick (id == 7) (table_form n)
    (pick (id == 8) (polynomial_form n) (pick (id == 10 || id == 12) (lines_form (rows_of g) n) (lines_form (columns_of g) n)))

-- a FLOAT or a DOUBLE is infinite or NaN (12)
abbrev pub refused_real : Option Float → Bool
refused_real x = is_none x

abbrev pub refused_at : ℕ → List ℕ → ℕ → Bool
refused_at w ps p =
    pick (w == 8) (refused_real (real_of binary64 (number_of Big (part ps p 8)))) (refused_real (real_of binary32 (number_of Big (part ps p 4))))

-- one of n numbers of a width from a place on is
unfoldable pub refused_in : ℕ → List ℕ → ℕ → ℕ → Bool
refused_in w ps p zero = false
refused_in w ps p (suc n) = refused_at w ps p || refused_in w ps (p + w) n

-- "The byte length must be exact."
abbrev pub exact_of : Form → ℕ → Bool
exact_of m n = m.legal && n == 36 + m.bytes

-- "then the parameters (10), then their numbers (12)"; 0 where neither refuses
abbrev pub refusal_of : Bool → Bool → ℕ
refusal_of legal wrong = pick legal (pick wrong 12 0) 10

-- of an opcode that is no GainMap
unfoldable pub plain_fault : Size → ℕ → List ℕ → ℕ
plain_fault z id ps =
    refusal_of
    (nat_le 36 (length ps) && (fits_of z (grid_of ps) && exact_of (form_of (grid_of ps) id (count_of ps)) (length ps)))
    (refused_in (form_of (grid_of ps) id (count_of ps)).width ps 36 (form_of (grid_of ps) id (count_of ps)).numbers)

-- of a GainMap: 76 bytes and 4 for each gain; four DOUBLEs and the gains
unfoldable pub gain_map_fault : Size → List ℕ → ℕ
gain_map_fault z ps =
    refusal_of
    (nat_le 76 (length ps) && (fits_of z (grid_of ps) && (gain_map_legal ps && length ps == 76 + 4 * gains_in ps)))
    (refused_in 8 ps 40 4 || refused_in 4 ps 76 (gains_in ps))

unfoldable pub opcode_fault : Size → ℕ → List ℕ → ℕ
opcode_fault z id ps = pick (id == 9) (gain_map_fault z ps) (plain_fault z id ps)

-- n FLOATs
abbrev pub floats_of : List ℕ → ℕ → ℕ → List Float
floats_of f at n = run_of (float_in f) 4 at n

unfoldable pub opcode_kind : Size → ℕ → List ℕ → OpcodeKind
opcode_kind z id ps =
    pick (id == 7) (table (table_of Big ps 36 (count_of ps)))
    (pick (id == 8) (polynomial (coefficients_of ps 36 (count_of ps + 1)))
    (pick (id == 9) (gain z (gain_map_of ps))
    (pick (id == 10) (delta row (floats_of ps 36 (count_of ps)))
    (pick (id == 11) (delta column (floats_of ps 36 (count_of ps)))
    (pick (id == 12) (scale row (floats_of ps 36 (count_of ps))) (scale column (floats_of ps 36 (count_of ps))))))))

-- a carried opcode, i-th of the list, from its id and its parameters
unfoldable pub parameters_of : Size → ℕ → ℕ → List ℕ → Out Opcode
parameters_of z i id ps = pick (opcode_fault z id ps == 0) (is (kept (grid_of ps) (opcode_kind z id ps))) (refused (opcode_fault z id ps) i)

-- ---- the list
-- one opcode, i-th of the list, whose header stands at a place; a skipped opcode's parameters are not read
abbrev pub opcode_reading : Class → Size → ℕ → ℕ → Header → Reading (Out Opcode)
opcode_reading class.Carried z i at h = ask (at + 16) h.length (λ ps. answer (parameters_of z i h.id ps))
opcode_reading class.Optional z i at h = answer (is skipped)
opcode_reading class.Compulsory z i at h = answer (refused 11 i)

-- so many opcodes, the first one the i-th of the list, in the n bytes from a place on:
-- "header and parameters inside the tag (10)"; "Bytes left at the end: 10, place = count"
unfoldable pub list_from : Size → ℕ → ℕ → ℕ → ℕ → Reading (Out (List Opcode))
list_from z zero i at n = answer (pick (n == 0) (is []) (refused 10 i))
list_from z (suc k) i at n =
    pick (nat_le 16 n)
    (ask at 16 (λ bs.
    pick (nat_le (16 + (header_of bs).length) n)
    (bind (opcode_reading (class_of (header_of bs)) z i at (header_of bs)) (λ o.
    bind (list_from z k (i + 1) (at + (16 + (header_of bs).length)) (n - (16 + (header_of bs).length))) (λ os.
    answer (is (o ∷ os)))))
    (answer (refused 10 i))))
    (answer (refused 10 i))

-- the value of OpcodeList2, n bytes from a place on: "Count over 32: refusal 11 first"; absent means no corrections
unfoldable pub list_reading : Size → ℕ → ℕ → Reading (Out (List Opcode))
list_reading z at n =
    pick (n == 0) (answer (is []))
    (ask at 4 (λ h. pick (nat_lt 32 (number_of Big h)) (answer (refused 11 32)) (list_from z (number_of Big h) 0 (at + 4) (n - 4))))

-- "corrections kept, corrections skipped"
abbrev pub kept_in : List Opcode → ℕ
kept_in [] = 0
kept_in (skipped ∷ os) = kept_in os
kept_in (kept g k ∷ os) = suc (kept_in os)

abbrev pub skipped_in : List Opcode → ℕ
skipped_in [] = 0
skipped_in (skipped ∷ os) = suc (skipped_in os)
skipped_in (kept g k ∷ os) = skipped_in os

-- where the m-th opcode of a list stands, whose first one stands at a place
abbrev pub start_of : List ℕ → ℕ → ℕ → ℕ
start_of f at zero = at
start_of f at (suc m) = start_of f (at + (16 + (header_of (part f at 16)).length)) m
