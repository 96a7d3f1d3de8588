-- What the functions that go through the list say to each other.
use Rattle.std.specs.Prelude.{ℕ, ◌+◌, ◌≤◌, ◌≡◌, Bool, true, false, List, map, Float, length, set, Option, Some, None}
use Rattle.reading.specs.Reading.{run, pick}
use Rattle.directory.specs.Out.{Out.is}
use Rattle.directory.specs.declared.tag.Values.{Values}
use Rattle.levels.specs.Clip.{clip_of}
use Rattle.opcodes.specs.Opcode.{Opcode, opcode_at}
use Rattle.opcodes.specs.OpcodeList.{list_from, list_reading}
use Rattle.opcodes.specs.Frame.{touches, alone}
use Rattle.opcodes.specs.declared.grid.Size.{Size}
use Rattle.opcodes.specs.declared.list.Class.{Class}
use Rattle.opcodes.specs.declared.list.Class.TheVariants as class
use Rattle.rows.specs.Facts.Part.{SizedIn}
use Rattle.rows.specs.Facts.ListPart.{OpcodesRead}
use Rattle.chain.specs.Links.{opcode_id, link_of, links_of, is_skipped, places_where}
use Rattle.chain.specs.Chain.{written, id_of, before_of, after_of}
use Rattle.chain.specs.declared.links.Opcodes.{Opcodes}
use Rattle.chain.specs.declared.links.Reached.{Reached}
use Rattle.chain.specs.declared.links.Link.{Link}

-- at most 32 accepted opcodes
pub record OpcodesIn (f : List ℕ) (q : Opcodes) : Type 0 where
  pub read : OpcodesRead f q.size q.count q.at q.bytes
  pub few : q.count ≤ 32
  pub sized : SizedIn q.size

-- those of a tag's value
pub record OpcodesOf (f : List ℕ) (z : Size) (v : Values) (q : Opcodes) : Type 0 where
  pub few : q.count ≤ 32
  pub inside : q.at + q.bytes ≤ length f
  pub size : q.size ≡ z
  pub read :
      (os : List Opcode) → is os ≡ run f (list_reading z v.place v.count) → is os ≡ run f (list_from q.size q.count 0 q.at q.bytes)

-- whether an opcode covers a sample whose number is x
unfoldable pub touch_of : Opcode → ℕ → ℕ → ℕ → Float → Option Link
touch_of o r c p x = pick (touches o r c p) (Some (link_of o r c p x)) None

-- ---- the covering opcodes: what the code holds when it has come to an opcode
pub record Covered : Type 0 where
  pub index : ℕ
  pub count : ℕ
  pub value : Float
  pub places : List ℕ
  pub ids : List ℕ
  pub before : List Float
  pub after : List Float

abbrev pub reached_with : Reached → List ℕ → List ℕ → List Float → List Float → Covered
reached_with q ps ns xs ys =
    record { index = q.index; count = q.count; value = q.value; places = ps; ids = ns; before = xs; after = ys }

-- and when it has done with it: one that covers the sample, and any other
abbrev pub linked : ℕ → ℕ → ℕ → Opcode → Covered → Covered
linked r c p o s =
    record {
      index = s.index + 1;
      count = s.count + 1;
      value = opcode_at o r c p s.value;
      places = set s.places s.count s.index;
      ids = set s.ids s.count (opcode_id o);
      before = set s.before s.count s.value;
      after = set s.after s.count (opcode_at o r c p s.value);
    }

abbrev pub passed : Covered → Covered
passed s =
    record {
      index = s.index + 1;
      count = s.count;
      value = s.value;
      places = s.places;
      ids = s.ids;
      before = s.before;
      after = s.after;
    }

unfoldable pub link_into : ℕ → ℕ → ℕ → Opcode → Covered → Covered
link_into r c p o s = pick (touches o r c p) (linked r c p o s) (passed s)

-- what stays so: the value is one from 0 to 1, and the slices are as long as these
pub record Held (ps ns : List ℕ) (xs ys : List Float) (s : Covered) : Type 0 where
  pub in_unit : clip_of s.value ≡ s.value
  pub few : s.count ≤ s.index
  pub places : length s.places ≡ length ps
  pub ids : length s.ids ≡ length ns
  pub before : length s.before ≡ length xs
  pub after : length s.after ≡ length ys

-- at first
abbrev pub start_of : Float → List ℕ → List ℕ → List Float → List Float → Covered
start_of x ps ns xs ys = record { index = 0; count = 0; value = x; places = ps; ids = ns; before = xs; after = ys }

-- in the end
unfoldable pub covered_of : List Opcode → ℕ → ℕ → ℕ → Float → List ℕ → List ℕ → List Float → List Float → Covered
covered_of os r c p x ps ns xs ys =
    record {
      index = length os;
      count = length (places_where (λ (q : Opcode). touches q r c p) 0 os);
      value = alone os r c p x;
      places = written (places_where (λ (q : Opcode). touches q r c p) 0 os) ps;
      ids = written (map id_of (links_of os r c p x)) ns;
      before = written (map before_of (links_of os r c p x)) xs;
      after = written (map after_of (links_of os r c p x)) ys;
    }

-- ---- the skipped ones
abbrev pub skips_of : Class → Bool
skips_of class.Carried = false
skips_of class.Optional = true
skips_of class.Compulsory = false

pub record Marked : Type 0 where
  pub index : ℕ
  pub count : ℕ
  pub slice : List ℕ

abbrev pub marked : ℕ → ℕ → List ℕ → Marked
marked i n ks = record { index = i; count = n; slice = ks }

unfoldable pub mark_into : Bool → Marked → Marked
mark_into b s =
    pick b (marked (s.index + 1) (s.count + 1) (set s.slice s.count s.index)) (marked (s.index + 1) s.count s.slice)

unfoldable pub skipped_of : List Opcode → List ℕ → Marked
skipped_of os ks = marked (length os) (length (places_where is_skipped 0 os)) (written (places_where is_skipped 0 os) ks)
