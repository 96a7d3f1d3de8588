-- What the readings refuse: a number below 20, with a detail that a LONG holds.
-- Assumes nothing.
use mathlib.Core.Bool.{Bool, true, false}
use mathlib.Core.List.{List}
use Prim.Native.Nat.{ℕ, zero, suc, ◌+◌, ◌<◌}
use lib.Dec.{lit<}
use Rattle.reading.specs.Reading.{Reading, Reading.answer, Reading.ask, and_then, pick, run}
use Rattle.reading.specs.declared.number.Order.{Order}
use Rattle.reading.proofs.Reading.{run_and_then}
use Rattle.directory.specs.Out.{Out, Out.refused, Out.is, onward, bind}
use Rattle.directory.specs.Widths.{entry_width}
use Rattle.directory.specs.Entry.{entry_of}
use Rattle.directory.specs.Shape.{place_test, entry_reading, order_test, shape_from, ifd_reading}
use Rattle.directory.specs.Tag.{whole_reading, value_reading, tested_reading, absent_of, values_found, values_reading}
use Rattle.directory.specs.Tag.{if_absent, not_carried, range_fault, judged_of, first_reading, one_reading, each_reading, all_reading}
use Rattle.directory.specs.Tree.{Seen, raw_one, parent, look_reading, version_reading, Walked, raw, left, after_look, after_child}
use Rattle.directory.specs.Tree.{children_reading, visit_reading, after_walk, walk_reading, root_reading, offset_reading}
use Rattle.directory.specs.Tree.{big_tiff_reading, tree_reading}
use Rattle.directory.specs.declared.Ifd.{Ifd}
use Rattle.directory.specs.declared.Widths.{Widths}
use Rattle.directory.specs.declared.entry.Entry.{Entry}
use Rattle.directory.specs.declared.tag.Found.{Found}
use Rattle.std.specs.Prelude.{Option, Some, None}
use Rattle.directory.specs.declared.tag.Rule.{Rule}
use Rattle.directory.specs.declared.tag.Range.{Range}
use Rattle.directory.specs.declared.tag.Values.{Values}

-- ---- an answer, and a reading

abbrev pub SmallDetail : ℕ → Type 0
SmallDetail d = d < 0x1_0000_0000

abbrev pub Fits : ℕ → ℕ → Type 0
Fits n d = (n < 20) × SmallDetail d

abbrev pub SmallRefusal : {A : Type 0} → Out A → Type 0
SmallRefusal (refused n d) = Fits n d
SmallRefusal (is a) = Unit {0}

-- whatever the file is
unfoldable pub SmallRefusals : {A : Type 0} → Reading (Out A) → Type 0
SmallRefusals p = (f : List ℕ) → SmallRefusal (run f p)

pub small_run : {A : Type 0} (p : Reading (Out A)) → SmallRefusals p → (f : List ℕ) → SmallRefusal (run f p)
unfolding SmallRefusals
small_run p h f = h f

pub small_answer : {A : Type 0} (r : Out A) → SmallRefusal r → SmallRefusals (answer r)
unfolding SmallRefusals run
small_answer r h f = h

pub small_ask : {A : Type 0} (s n : ℕ) (k : List ℕ → Reading (Out A)) → ((bs : List ℕ) → SmallRefusals (k bs)) → SmallRefusals (ask s n k)
unfolding SmallRefusals run
small_ask s n k h f = h _ f

module _ {A B : Type 0} where
  pub small_then : (p : Reading A) (g : A → Reading (Out B)) → ((a : A) → SmallRefusals (g a)) → SmallRefusals (and_then p g)
  unfolding SmallRefusals
  small_then p g h f = rw (run_and_then f p g) (h (run f p) f)

  pub small_bind : (p : Reading (Out A)) (k : A → Reading (Out B)) → SmallRefusals p → ((a : A) → SmallRefusals (k a)) → SmallRefusals (bind p k)
  unfolding SmallRefusals bind
  small_bind p k a b f = rw (run_and_then f p (onward k)) (go (run f p) (a f))
    where
      go : (r : Out A) → SmallRefusal r → SmallRefusal (run f (onward k r))
      go (refused n d) h = small_run _ (small_answer (refused n d) h) f
      go (is v) h = small_run (k v) (b v) f

-- of either
pub either : {A : Type 0} (P : A → Type 0) (t : Bool) (a b : A) → P a → P b → P (pick t a b)
unfolding pick
either P true a b p q = p
either P false a b p q = q

pub small_pick : {A : Type 0} (t : Bool) (a b : Reading (Out A)) → SmallRefusals a → SmallRefusals b → SmallRefusals (pick t a b)
small_pick t a b p q = either SmallRefusals t a b p q

pub small_choice : {A : Type 0} (t : Bool) (a b : Out A) → SmallRefusal a → SmallRefusal b → SmallRefusal (pick t a b)
small_choice t a b p q = either SmallRefusal t a b p q

pub ruleset smalls = (small_answer, small_ask, small_then, small_bind, small_pick, small_choice, lit<)

-- ---- the shape of a directory

pub place_small : (w : Widths) (size : ℕ) (o : Order) (at : ℕ) (e : Entry) → SmallRefusals (place_test w size o at e)
unfolding place_test
place_small w size o at e = search smalls depth 8

pub shape_small : (w : Widths) (size : ℕ) (o : Order) (n at low : ℕ) → SmallRefusals (shape_from w size o n at low)
unfolding shape_from entry_reading order_test
shape_small w size o zero at low = search smalls
shape_small w size o (suc n) at low =
    small_bind _ _ (small_ask _ _ _ (λ bs. place_small w size o at (entry_of w o bs)))
    (λ tag. small_bind _ _ (small_answer _ (search smalls)) (λ next. shape_small w size o n (at + entry_width w) next))

pub ifd_small : (w : Widths) (size : ℕ) (o : Order) (at : ℕ) → SmallRefusals (ifd_reading w size o at)
unfolding ifd_reading
ifd_small w size o at = search (smalls, shape_small) depth 12

-- ---- a tag: the detail is the tag's number

pub whole_small : (p : ℕ) (e : Entry) → SmallRefusals (whole_reading p e)
unfolding whole_reading
whole_small p e = search smalls

pub value_small : (w : Widths) (o : Order) (p : ℕ) (e : Entry) → SmallRefusals (value_reading w o p e)
unfolding value_reading
value_small w o p e = search (smalls, whole_small)

module _ (r : Rule) (small : SmallDetail r.tag) where
  found_small : (w : Widths) (o : Order) (v : Option Found) → SmallRefusals (values_found w o r v)
  unfolding tested_reading absent_of
  found_small w o None = search smalls
  found_small w o (Some x) = search (smalls, value_small) depth 10

  pub values_small : (d : Ifd) → SmallRefusals (values_reading d r)
  unfolding values_reading
  values_small d = small_then _ _ (found_small d.widths d.order)

absent_small : (tag : ℕ) → SmallDetail tag → (v : Option Found) → SmallRefusals (if_absent tag v)
absent_small tag small None = search smalls
absent_small tag small (Some x) = search smalls

pub not_carried_small : (d : Ifd) (tag : ℕ) → SmallDetail tag → SmallRefusals (not_carried d tag)
unfolding not_carried
not_carried_small d tag small = small_then _ _ (absent_small tag small)

fault_small : (r : Range) (v : ℕ) → range_fault r v < 20
unfolding range_fault
fault_small r v =
    either (λ (n : ℕ). n < 20) _ _ _ (lit< tt)
    (either (λ (n : ℕ). n < 20) _ _ _ (lit< tt) (either (λ (n : ℕ). n < 20) _ _ _ (lit< tt) (lit< tt)))

module _ (tag : ℕ) (small : SmallDetail tag) (r : Range) where
  pub judged_small : (v : ℕ) → SmallRefusal (judged_of tag r v)
  unfolding judged_of
  judged_small v = small_choice _ _ _ tt (fault_small r v, small)

  pub first_small : (o : Order) (default : ℕ) (v : Values) → SmallRefusals (first_reading o tag default r v)
  unfolding first_reading
  first_small o default v = search (smalls, judged_small)

  pub each_small : (o : Order) (size n p : ℕ) → SmallRefusals (each_reading o size tag r n p)
  unfolding each_reading
  each_small o size zero p = search smalls
  each_small o size (suc n) p = small_bind _ _ (search (smalls, judged_small)) (λ _. each_small o size n (p + size))

module _ (d : Ifd) (r : Rule) (small : SmallDetail r.tag) where
  pub one_small : (default : ℕ) (range : Range) → SmallRefusals (one_reading d r default range)
  unfolding one_reading
  one_small default range = search (smalls, values_small, first_small)

  pub all_small : (range : Range) → SmallRefusals (all_reading d r range)
  unfolding all_reading
  all_small range = search (smalls, values_small, each_small) depth 8

-- ---- the tree

pub look_small : (d : Ifd) → SmallRefusals (look_reading d)
unfolding look_reading
look_small d = search (smalls, values_small, one_small) depth 8

pub version_small : (d : Ifd) → SmallRefusals (version_reading d)
unfolding version_reading
version_small d = search (smalls, values_small) depth 8

after_look_law : (d : Ifd) (k : ℕ → ℕ → ℕ → Reading (Out Walked)) → ((p s n : ℕ) → SmallRefusals (k p s n)) → (v : Seen) →
    SmallRefusals (after_look d k v)
after_look_law d k h raw_one = search smalls
after_look_law d k h (parent p s n) = h p s n

after_child_law : (k : ℕ → Reading (Out Walked)) → ((v : ℕ) → SmallRefusals (k v)) → (w : Walked) → SmallRefusals (after_child k w)
after_child_law k h (raw d) = search smalls
after_child_law k h (left v) = h v

children_small : (s : ℕ) (visit : ℕ → ℕ → Reading (Out Walked)) → ((at v : ℕ) → SmallRefusals (visit at v)) → (o : Order) (n p v : ℕ) →
    SmallRefusals (children_reading s visit o n p v)
unfolding children_reading
children_small s visit h o zero p v = search smalls
children_small s visit h o (suc n) p v =
    small_then _ _ (λ at. small_bind _ _ (h at v) (after_child_law _ (λ u. children_small s visit h o n (p + s) u)))

visit_small : (w : Widths) (size : ℕ) (o : Order) (d at v : ℕ) → SmallRefusals (visit_reading w size o d at v)
unfolding visit_reading
visit_small w size o zero at v = search smalls
visit_small w size o (suc d) at zero = search smalls
visit_small w size o (suc d) at (suc v) =
    small_bind _ _ (ifd_small w size o at)
    (λ e. small_bind _ _ (look_small e)
    (after_look_law e _ (λ p s n. children_small s _ (λ a u. visit_small w size o d a u) o n p v)))

walk_small : (size : ℕ) (e : Ifd) → SmallRefusals (walk_reading size e)
unfolding walk_reading
walk_small size e =
    small_bind _ _ (look_small e)
    (after_look_law e _ (λ p s n. children_small s _ (λ a u. visit_small e.widths size e.order 3 a u) e.order n p 15))

after_walk_law : (first : Ifd) (w : Walked) → SmallRefusals (after_walk first w)
after_walk_law first (raw d) = search smalls
after_walk_law first (left v) = search smalls

root_small : (w : Widths) (size : ℕ) (o : Order) (at : ℕ) → SmallRefusals (root_reading w size o at)
unfolding root_reading
root_small w size o at =
    small_bind _ _ (ifd_small w size o at)
    (λ e. small_bind _ _ (version_small e) (λ _. small_bind _ _ (walk_small size e) (after_walk_law e)))

offset_small : (w : Widths) (size : ℕ) (o : Order) (at : ℕ) → SmallRefusals (offset_reading w size o at)
unfolding offset_reading
offset_small w size o at = small_then _ _ (root_small w size o)

big_tiff_small : (size : ℕ) (o : Order) → SmallRefusals (big_tiff_reading size o)
unfolding big_tiff_reading
big_tiff_small size o = search (smalls, offset_small) depth 10

pub tree_small : (size : ℕ) → SmallRefusals (tree_reading size)
unfolding tree_reading
tree_small size = search (smalls, offset_small, big_tiff_small) depth 12
