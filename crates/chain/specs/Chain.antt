-- "Why is this sample what it is?": the chain behind a spot, and what the call answers, for every string of bytes and every argument.
use Rattle.std.specs.Prelude.{ℕ, Bool, ◌&&◌, List, ◌++◌, map, leb, Float, pos, length, drop, Result, Ok, Err}
use Rattle.reading.specs.Reading.{pick}
use Rattle.directory.specs.Out.{Out, Out.refused, Out.is}
use Rattle.levels.specs.Clip.{plus_zero}
use Rattle.levels.specs.Level.{scaled_of}
use Rattle.levels.specs.declared.LevelNumbers.{LevelNumbers}
use Rattle.raw.specs.Sample.{sample_numbers}
use Rattle.opcodes.specs.Opcode.{Opcode}
use Rattle.opcodes.specs.Frame.{touches}
use Rattle.develop.specs.Calls.{Opened, opened, size_of, tags_of, developed_in, within}
use Rattle.chain.specs.Links.{links_of, is_skipped, places_where}
use Rattle.chain.specs.declared.links.Link.{Link}
use Rattle.chain.specs.declared.SpotChain.{SpotChain}
use Rattle.directory.specs.Refusal.{number_of, detail_of}
use Rattle.directory.specs.declared.refusal.Refusal.{Refusal}

-- ---- the chain

pub record Chain : Type 0 where
  pub levels : LevelNumbers
  pub value : Float
  pub places : List ℕ  -- of the covering opcodes
  pub links : List Link
  pub skipped : List ℕ  -- the places of the skipped ones

-- of an active row, an active column and a plane of an accepted file; the first value is L's
unfoldable pub chain_of : List ℕ → Opened → ℕ → ℕ → ℕ → Chain
chain_of f o r c p =
    let n = sample_numbers f o.picture.order (tags_of o) o.stored r c p in
    record {
      levels = n;
      value = developed_in f o r c p;
      places = places_where (λ (q : Opcode). touches q r c p) 0 o.opcodes;
      links = links_of o.opcodes r c p (scaled_of n.level);
      skipped = places_where is_skipped 0 o.opcodes;
    }

-- ---- the call

pub record Slices : Type 0 where
  pub places : List ℕ
  pub ids : List ℕ
  pub before : List Float
  pub after : List Float
  pub skipped : List ℕ

abbrev pub slices : List ℕ → List ℕ → List Float → List Float → List ℕ → Slices
slices ps ns xs ys ks = record { places = ps; ids = ns; before = xs; after = ys; skipped = ks }

-- number, detail, the spot's value and the numbers behind its level; how many opcodes cover the spot, and how many are skipped
pub record ChainAnswer : Type 0 where
  pub number : ℕ
  pub detail : ℕ
  pub value : Float
  pub levels : LevelNumbers
  pub covering : ℕ
  pub skipped : ℕ

-- the answer, and the five lent slices after the call
pub record Chained : Type 0 where
  pub answer : ChainAnswer
  pub lent : Slices

-- "14 if any of the five slices has fewer than 32 places", by their lengths
abbrev pub room_for : ℕ → ℕ → ℕ → ℕ → ℕ → Bool
room_for a b c d e = leb 32 a && (leb 32 b && (leb 32 c && (leb 32 d && leb 32 e)))

abbrev pub room_in : Slices → Bool
room_in s = room_for (length s.places) (length s.ids) (length s.before) (length s.after) (length s.skipped)

-- "a refusal returns zeros"
abbrev pub no_numbers : LevelNumbers
no_numbers =
    record {
      stored = 0;
      table_value = 0;
      cell = pos 0;
      column_delta = pos 0;
      row_delta = pos 0;
      black = pos 0;
      greatest_black = pos 0;
      level = 0;
    }

abbrev pub refused_answer : ℕ → ℕ → ChainAnswer
refused_answer n d = record { number = n; detail = d; value = plus_zero; levels = no_numbers; covering = 0; skipped = 0 }

-- "and leaves the slices unchanged"
abbrev pub refused_chain : ℕ → ℕ → Slices → Chained
refused_chain n d s = record { answer = refused_answer n d; lent = s }

-- what is shown of a chain with a number and a detail
abbrev pub answer_shown : ℕ → ℕ → SpotChain → ChainAnswer
answer_shown n d a = record { number = n; detail = d; value = a.value; levels = a.levels; covering = a.covering; skipped = a.skipped }

-- the answer of a call
abbrev pub answer_of : Result SpotChain Refusal → ChainAnswer
answer_of (Ok a) = answer_shown 0 0 a
answer_of (Err r) = refused_answer (number_of r) (detail_of r)

abbrev pub chained_with : Result SpotChain Refusal → Slices → Chained
chained_with a s = record { answer = answer_of a; lent = s }

-- a slice's first places take these; "Unused places keep what they held"
abbrev pub written : {A : Type 0} → List A → List A → List A
written xs old = xs ++ drop (length xs) old

abbrev pub id_of : Link → ℕ
id_of l = l.id

abbrev pub before_of : Link → Float
before_of l = l.before

abbrev pub after_of : Link → Float
after_of l = l.after

abbrev pub shown_of : Chain → Slices → Chained
shown_of ch s =
    record {
      answer =
          record {
            number = 0;
            detail = 0;
            value = ch.value;
            levels = ch.levels;
            covering = length ch.places;
            skipped = length ch.skipped;
          };
      lent =
          slices (written ch.places s.places) (written (map id_of ch.links) s.ids) (written (map before_of ch.links) s.before)
          (written (map after_of ch.links) s.after) (written ch.skipped s.skipped);
    }

-- "Refusals: as spot; then 14"
abbrev pub chain_in : List ℕ → ℕ → ℕ → ℕ → Slices → Out Opened → Chained
chain_in f r c p s (refused n d) = refused_chain n d s
chain_in f r c p s (is o) =
    pick (within (size_of o.picture) r c p) (pick (room_in s) (shown_of (chain_of f o r c p) s) (refused_chain 14 0 s)) (refused_chain 13 0 s)

abbrev pub chain_call : List ℕ → ℕ → ℕ → ℕ → Slices → Chained
chain_call f r c p s = chain_in f r c p s (opened f)
