-- The directory tree: refusals 1, 2, 6, 7, and the raw directory.
use Rattle.directory.specs.Names.{dng_backward_version, dng_version, new_subfile_type, sub_ifds}
use Rattle.std.specs.Prelude.{List, [], ◌∷◌, Bool, true, false, ◌&&◌, ℕ, zero, suc, ◌+◌, ◌*◌, ltb, eqb}
use Rattle.reading.specs.Reading.{Reading, Reading.answer, Reading.ask, and_then, pick, number_at}
use Rattle.reading.specs.declared.number.Order.{Order}
use Rattle.reading.specs.declared.number.Order.TheVariants.{Little, Big}
use Rattle.directory.specs.Out.{Out, Out.refused, Out.is, bind}
use Rattle.directory.specs.Widths.{classic, big_tiff}
use Rattle.directory.specs.Shape.{ifd_reading}
use Rattle.directory.specs.Tag.{values_reading, one_reading, rule, required, optional, range}
use Rattle.directory.specs.declared.Ifd.{Ifd}
use Rattle.directory.specs.declared.Widths.{Widths}
use Rattle.directory.specs.declared.tag.Kinds.TheVariants as kinds
use Rattle.directory.specs.declared.tag.Rule.{Rule}
use Rattle.directory.specs.declared.tag.Values.{Values}
use Rattle.directory.specs.declared.tree.Roots.{Roots}

-- ---- one directory

-- what a directory is: the raw one, or one with so many children, whose offsets start at a place and have so many bytes each
pub data Seen : Type 0 where
  raw_one : Seen
  parent : ℕ → ℕ → ℕ → Seen

-- SubIFDs: "LONG or IFD, 1 to 16 of them"
abbrev pub children_rule : Rule
children_rule = rule false sub_ifds kinds.LongOrIfd 1 16

-- NewSubfileType: LONG 1, default 0; any number is legal
abbrev pub subfile_reading : Ifd → Reading (Out ℕ)
subfile_reading d = one_reading d (optional new_subfile_type kinds.Long 1) 0 (range 0 0 0xFFFF_FFFF_FFFF_FFFF)

-- the raw directory is one where NewSubfileType is 0, and otherwise SubIFDs is tested
unfoldable pub look_reading : Ifd → Reading (Out Seen)
look_reading d =
    bind (subfile_reading d) (λ t.
    pick (eqb t 0) (answer (is raw_one))
    (bind (values_reading d children_rule) (λ v. answer (is (parent v.place v.size v.count)))))

-- ---- the version, of IFD 0 only

abbrev pub version_rule : Rule
version_rule = required dng_version kinds.Byte 4

abbrev pub backward_rule : Rule
backward_rule = optional dng_backward_version kinds.Byte 4

-- DNGBackwardVersion, or its default, "50706 with its last two bytes zero": four bytes, of which the first weighs most
unfoldable pub backward_reading : Values → Values → Reading ℕ
backward_reading v b =
    pick (eqb b.count 0) (and_then (number_at Big v.place 2) (λ n. answer (n * 65536))) (number_at Big b.place 4)

-- 7 where it is above 1.7.1.0
unfoldable pub version_reading : Ifd → Reading (Out ℕ)
version_reading d =
    bind (values_reading d version_rule) (λ v.
    bind (values_reading d backward_rule) (λ b.
    and_then (backward_reading v b) (λ n. answer (pick (ltb 0x0107_0100 n) (refused 7 0) (is n)))))

-- ---- the walk

-- the raw directory, or none and so many visits left
pub data Walked : Type 0 where
  raw : Ifd → Walked
  left : ℕ → Walked

abbrev pub after_look : Ifd → (ℕ → ℕ → ℕ → Reading (Out Walked)) → Seen → Reading (Out Walked)
after_look d k raw_one = answer (is (raw d))
after_look d k (parent p s n) = k p s n

abbrev pub after_child : (ℕ → Reading (Out Walked)) → Walked → Reading (Out Walked)
after_child k (raw d) = answer (is (raw d))
after_child k (left v) = k v

-- so many children, whose offsets of so many bytes start at a place, in their order; each is visited with the visits that are left
unfoldable pub children_reading : ℕ → (ℕ → ℕ → Reading (Out Walked)) → Order → ℕ → ℕ → ℕ → Reading (Out Walked)
children_reading s visit o zero p v = answer (is (left v))
children_reading s visit o (suc n) p v =
    and_then (number_at o p s) (λ at. bind (visit at v) (after_child (λ u. children_reading s visit o n (p + s) u)))

-- a directory, with so many levels and visits left: 6 where one of them is used up, before anything of it is read
unfoldable pub visit_reading : Widths → ℕ → Order → ℕ → ℕ → ℕ → Reading (Out Walked)
visit_reading w len o zero at v = answer (refused 6 0)
visit_reading w len o (suc d) at zero = answer (refused 6 0)
visit_reading w len o (suc d) at (suc v) =
    bind (ifd_reading w len o at) (λ e.
    bind (look_reading e) (after_look e (λ p s n. children_reading s (λ a u. visit_reading w len o d a u) o n p v)))

-- the children of a directory
abbrev pub list_visit : Widths → ℕ → Order → ℕ → ℕ → ℕ → ℕ → ℕ → Reading (Out Walked)
list_visit w len o d s n p v = children_reading s (λ a u. visit_reading w len o d a u) o n p v

-- ---- the file

abbrev pub roots : Ifd → Ifd → Roots
roots first it = record { first = first; raw = it }

-- no raw directory: 6
abbrev pub after_walk : Ifd → Walked → Reading (Out Roots)
after_walk first (raw d) = answer (is (roots first d))
after_walk first (left v) = answer (refused 6 0)

-- from IFD 0, which is at depth 0 and the first of 16 visits: its children may be at depths 1 to 3
unfoldable pub walk_reading : ℕ → Ifd → Reading (Out Walked)
walk_reading len e = bind (look_reading e) (after_look e (λ p s n. list_visit e.widths len e.order 3 s n p 15))

-- IFD 0 at an offset: shape, version, then the walk
unfoldable pub root_reading : Widths → ℕ → Order → ℕ → Reading (Out Roots)
root_reading w len o at = bind (ifd_reading w len o at) (λ e. bind (version_reading e) (λ _. bind (walk_reading len e) (after_walk e)))

-- two lists of bytes are the same
abbrev pub same_bytes : List ℕ → List ℕ → Bool
same_bytes [] [] = true
same_bytes [] (y ∷ ys) = false
same_bytes (x ∷ xs) [] = false
same_bytes (x ∷ xs) (y ∷ ys) = eqb x y && same_bytes xs ys

-- 49 49 2A 00 and 4D 4D 00 2A
abbrev pub classic_mark : Order → List ℕ
classic_mark Little = 0x49 ∷ 0x49 ∷ 0x2A ∷ 0x00 ∷ []
classic_mark Big = 0x4D ∷ 0x4D ∷ 0x00 ∷ 0x2A ∷ []

-- in the 64-bit layout 49 49 2B 00 and 4D 4D 00 2B
abbrev pub big_tiff_mark : Order → List ℕ
big_tiff_mark Little = 0x49 ∷ 0x49 ∷ 0x2B ∷ 0x00 ∷ []
big_tiff_mark Big = 0x4D ∷ 0x4D ∷ 0x00 ∷ 0x2B ∷ []

-- IFD 0, whose offset stands at a place
unfoldable pub offset_reading : Widths → ℕ → Order → ℕ → Reading (Out Roots)
offset_reading w len o at = and_then (number_at o at w.word) (root_reading w len o)

-- the rest of a 64-bit header: 1 "in a file under 16 bytes; 2 for an 8 or a 0 that is wrong"
unfoldable pub big_tiff_reading : ℕ → Order → Reading (Out Roots)
big_tiff_reading len o =
    pick (ltb len 16) (answer (refused 1 0))
    (and_then (number_at o 4 2) (λ a.
    pick (eqb a 8)
    (and_then (number_at o 6 2) (λ z.
    pick (eqb z 0) (offset_reading big_tiff len o 8) (answer (refused 2 0))))
    (answer (refused 2 0))))

-- 1: "file under 8 or over 67,108,864 bytes"; 2: the first four bytes; then IFD 0, whose offset follows
unfoldable pub tree_reading : ℕ → Reading (Out Roots)
tree_reading len =
    pick (ltb len 8) (answer (refused 1 0))
    (pick (ltb 67108864 len) (answer (refused 1 0))
    (ask 0 4 (λ m.
    pick (same_bytes m (classic_mark Little)) (offset_reading classic len Little 4)
    (pick (same_bytes m (classic_mark Big)) (offset_reading classic len Big 4)
    (pick (same_bytes m (big_tiff_mark Little)) (big_tiff_reading len Little)
    (pick (same_bytes m (big_tiff_mark Big)) (big_tiff_reading len Big)
    (answer (refused 2 0))))))))
