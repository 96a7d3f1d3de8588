-- Laws of the tree, each by the code's tests.
-- Assumes nothing.
use mathlib.Core.Path.{◌≡◌, refl, sym, ◌∙◌}
use mathlib.Core.Bool.{true, false, ◌&&◌}
use mathlib.Core.List.{List, [], ◌∷◌}
use mathlib.Core.Logic.{inl, inr}
use Prim.Native.Nat.{ℕ, ◌+◌, ◌*◌, ◌≤◌, ◌<◌}
use native.Mathlib.Numerals.{add-one}
use native.Mathlib.Omega.{arith}
use lib.Dec.{eqb}
use lib.ListN.{length, take, get_or}
use borrow.Author.Tests.{eq-eqb, ne_eqb, lt-ltb, le-ltb}
use Rattle.reading.specs.Bytes.{part}
use Rattle.reading.specs.Number.{number_of}
use Rattle.reading.specs.Reading.{run}
use Rattle.reading.specs.declared.number.Order.{Order}
use Rattle.reading.specs.declared.number.Order.TheVariants.{Little, Big}
use Rattle.reading.proofs.Reading.{running, run_answer, run_then, pick_yes, pick_no}
use Rattle.directory.specs.Out.{Out.refused, Out.is}
use Rattle.directory.specs.Widths.{classic, big_tiff}
use Rattle.directory.specs.Facts.Widths.{WidthsIn}
use Rattle.directory.specs.Shape.{ifd_reading}
use Rattle.directory.specs.Tag.{values_reading}
use Rattle.directory.specs.Tree.{Seen, raw_one, parent, children_rule, subfile_reading, look_reading, version_rule, backward_rule}
use Rattle.directory.specs.Tree.{backward_reading, root_reading}
use Rattle.directory.specs.Tree.{version_reading, Walked, left, after_look, after_child, children_reading, visit_reading, list_visit}
use Rattle.directory.specs.Tree.{same_bytes, classic_mark, big_tiff_mark, offset_reading, big_tiff_reading, tree_reading}
use Rattle.directory.specs.declared.Ifd.{Ifd}
use Rattle.directory.specs.declared.Widths.{Widths}
use Rattle.directory.specs.declared.tag.Values.{Values}
use Rattle.directory.proofs.Outs.{bind_refused, bind_is}

-- ---- the version
module _ (f : List ℕ) (v b : Values) (n : ℕ) where
  pub backward_default : b.count ≡ 0 → n ≡ number_of Big (part f v.place 2) → n * 65536 ≡ run f (backward_reading v b)
  unfolding backward_reading
  backward_default h e = simp (eq-eqb _ _ h, running, ← e)

  pub backward_given : (b.count ≡ 0 → ⊥) → n ≡ number_of Big (part f b.place 4) → n ≡ run f (backward_reading v b)
  unfolding backward_reading
  backward_given h e = simp (ne_eqb _ _ h, running, ← e)

module _ (f : List ℕ) (d : Ifd) where
  pub version_refused : (k e : ℕ) → refused k e ≡ run f (values_reading d version_rule) → refused k e ≡ run f (version_reading d)
  unfolding version_reading
  version_refused k e h = bind_refused f _ _ k e h

  module _ (v : Values) (version : is v ≡ run f (values_reading d version_rule)) where
    pub backward_refused : (k e : ℕ) → refused k e ≡ run f (values_reading d backward_rule) → refused k e ≡ run f (version_reading d)
    unfolding version_reading
    backward_refused k e h = bind_refused f _ _ k e h ∙ sym (bind_is f _ _ v version)

    module _ (b : Values) (given : is b ≡ run f (values_reading d backward_rule)) (n : ℕ) (number : n ≡ run f (backward_reading v b)) where
      pub version_above : 0x0107_0100 < n → refused 7 0 ≡ run f (version_reading d)
      unfolding version_reading
      version_above h = sym (bind_is f _ _ v version ∙ bind_is f _ _ b given ∙ run_then f _ _ n number ∙ run_answer f _
          ∙ rw (lt-ltb _ _ h, pick_yes))

      pub version_is : n ≤ 0x0107_0100 → is n ≡ run f (version_reading d)
      unfolding version_reading
      version_is h = sym (bind_is f _ _ v version ∙ bind_is f _ _ b given ∙ run_then f _ _ n number ∙ run_answer f _
          ∙ rw (le-ltb _ _ h, pick_no))

-- ---- one directory
module _ (f : List ℕ) (d : Ifd) where
  pub look_refused : (k e : ℕ) → refused k e ≡ run f (subfile_reading d) → refused k e ≡ run f (look_reading d)
  unfolding look_reading
  look_refused k e h = bind_refused f _ _ k e h

  module _ (t : ℕ) (subfile : is t ≡ run f (subfile_reading d)) where
    pub look_raw : t ≡ 0 → is raw_one ≡ run f (look_reading d)
    unfolding look_reading
    look_raw h = sym (bind_is f _ _ t subfile ∙ rw (eq-eqb _ _ h, pick_yes) (run_answer f _))

    module _ (other : t ≡ 0 → ⊥) where
      pub children_refused : (k e : ℕ) → refused k e ≡ run f (values_reading d children_rule) → refused k e ≡ run f (look_reading d)
      unfolding look_reading
      children_refused k e h = sym (bind_is f _ _ t subfile ∙ rw (ne_eqb _ _ other, pick_no) (sym (bind_refused f _ _ k e h)))

      pub look_into : (v : Values) → is v ≡ run f (values_reading d children_rule) →
          is (parent v.place v.size v.count) ≡ run f (look_reading d)
      unfolding look_reading
      look_into v h = sym (bind_is f _ _ t subfile ∙ rw (ne_eqb _ _ other, pick_no) (bind_is f _ _ v h ∙ run_answer f _))

-- ---- the walk
module _ (w : Widths) (f : List ℕ) (size : ℕ) (o : Order) (d at v : ℕ) where
  pub visit_deep : d ≡ 0 → refused 6 0 ≡ run f (visit_reading w size o d at v)
  unfolding visit_reading
  visit_deep e = rw (e, run_answer)

  module _ (m : ℕ) (deep : d ≡ m + 1) where
    pub visit_late : v ≡ 0 → refused 6 0 ≡ run f (visit_reading w size o d at v)
    unfolding visit_reading
    visit_late g = rw (deep, add-one m, g, run_answer)

    module _ (u : ℕ) (some : v ≡ u + 1) where
      pub visit_refused : (k e : ℕ) → refused k e ≡ run f (ifd_reading w size o at) → refused k e ≡ run f (visit_reading w size o d at v)
      unfolding visit_reading
      visit_refused k e h = rw (deep, add-one m, some, add-one u) (bind_refused f _ _ k e h)

      module _ (i : Ifd) (ifd : is i ≡ run f (ifd_reading w size o at)) where
        pub visit_unseen : (k e : ℕ) → refused k e ≡ run f (look_reading i) → refused k e ≡ run f (visit_reading w size o d at v)
        unfolding visit_reading
        visit_unseen k e h = rw (deep, add-one m, some, add-one u) (bind_refused f _ _ k e h ∙ sym (bind_is f _ _ i ifd))

        pub visit_seen : (s : Seen) → is s ≡ run f (look_reading i) →
            run f (visit_reading w size o d at v) ≡ run f (after_look i (λ p s n. list_visit w size o m s n p u) s)
        unfolding visit_reading
        visit_seen s h = rw (deep, add-one m, some, add-one u) (bind_is f _ _ i ifd ∙ bind_is f _ _ s h)

module _ (w : Widths) (f : List ℕ) (size : ℕ) (o : Order) (d s n p v : ℕ) where
  pub children_none : n ≡ 0 → is (left v) ≡ run f (list_visit w size o d s n p v)
  unfolding children_reading
  children_none e = rw (e, run_answer)

  module _ (m at : ℕ) (some : n ≡ m + 1) (offset : at ≡ number_of o (part f p s)) where
    pub child_refused : (k e : ℕ) → refused k e ≡ run f (visit_reading w size o d at v) → refused k e ≡ run f (list_visit w size o d s n p v)
    unfolding children_reading
    child_refused k e h = rw (some, add-one m) (simp (running, ← offset) (bind_refused f _ _ k e h))

    pub child_is : (t : Walked) → is t ≡ run f (visit_reading w size o d at v) →
        run f (list_visit w size o d s n p v) ≡ run f (after_child (λ u. list_visit w size o d s m (p + s) u) t)
    unfolding children_reading
    child_is t h = rw (some, add-one m) (simp (running, ← offset) (bind_is f _ _ t h))

-- ---- the file

-- the first four bytes of a list
four : (l : List ℕ) → 4 ≤ length l → take 4 l ≡ get_or l 0 0 ∷ get_or l 1 0 ∷ get_or l 2 0 ∷ get_or l 3 0 ∷ []
four [] h = absurd (omega arith)
four (a ∷ []) h = absurd (omega arith)
four (a ∷ b ∷ []) h = absurd (omega arith)
four (a ∷ b ∷ c ∷ []) h = absurd (omega arith)
four (a ∷ b ∷ c ∷ d ∷ l) h = refl

pub start_is : (f m : List ℕ) → 4 ≤ length f → length m ≡ 4 →
    (eqb (get_or f 0 0) (get_or m 0 0) &&
    (eqb (get_or f 1 0) (get_or m 1 0) && (eqb (get_or f 2 0) (get_or m 2 0) && (eqb (get_or f 3 0) (get_or m 3 0) && true))))
    ≡ same_bytes (take 4 f) m
start_is f m h e = rw (four f h) (go m e)
  where
    go : (m : List ℕ) → length m ≡ 4 →
        (eqb (get_or f 0 0) (get_or m 0 0) &&
        (eqb (get_or f 1 0) (get_or m 1 0) && (eqb (get_or f 2 0) (get_or m 2 0) && (eqb (get_or f 3 0) (get_or m 3 0) && true))))
        ≡ same_bytes (get_or f 0 0 ∷ get_or f 1 0 ∷ get_or f 2 0 ∷ get_or f 3 0 ∷ []) m
    go [] q = absurd (omega arith)
    go (a ∷ []) q = absurd (omega arith)
    go (a ∷ b ∷ []) q = absurd (omega arith)
    go (a ∷ b ∷ c ∷ []) q = absurd (omega arith)
    go (a ∷ b ∷ c ∷ d ∷ []) q = refl
    go (a ∷ b ∷ c ∷ d ∷ x ∷ l) q = absurd (omega arith)

-- the two layouts' widths, whatever types are known
pub classic_laid : (w : Widths) → w.entries ≡ 2 → w.word ≡ 4 → w.types < 19 → WidthsIn w
classic_laid w e o t = record { entries = inl e; word = inr (inl o); types = t }

pub big_tiff_laid : (w : Widths) → w.entries ≡ 8 → w.word ≡ 8 → w.types < 19 → WidthsIn w
big_tiff_laid w e o t = record { entries = inr (inr e); word = inr (inr o); types = t }

-- IFD 0, whose offset stands at a place
pub first_at : (w : Widths) (f : List ℕ) (size : ℕ) (o : Order) (at p : ℕ) → p ≡ number_of o (part f at w.word) →
    run f (offset_reading w size o at) ≡ run f (root_reading w size o p)
unfolding offset_reading
first_at w f size o at p q = simp (running, ← q)

-- the rest of a 64-bit header
module _ (f : List ℕ) (size : ℕ) (o : Order) where
  pub big_tiff_small : size < 16 → refused 1 0 ≡ run f (big_tiff_reading size o)
  unfolding big_tiff_reading
  big_tiff_small h = simp (lt-ltb _ _ h, running)

  module _ (s : 16 ≤ size) (a : ℕ) (eight : a ≡ number_of o (part f 4 2)) where
    pub big_tiff_not_8 : (a ≡ 8 → ⊥) → refused 2 0 ≡ run f (big_tiff_reading size o)
    unfolding big_tiff_reading
    big_tiff_not_8 n = simp (le-ltb _ _ s, running, ← eight, ne_eqb _ _ n)

    module _ (e : a ≡ 8) (z : ℕ) (zero : z ≡ number_of o (part f 6 2)) where
      pub big_tiff_not_0 : (z ≡ 0 → ⊥) → refused 2 0 ≡ run f (big_tiff_reading size o)
      unfolding big_tiff_reading
      big_tiff_not_0 n = simp (le-ltb _ _ s, running, ← eight, eq-eqb _ _ e, ← zero, ne_eqb _ _ n)

      pub big_tiff_offset : z ≡ 0 → run f (big_tiff_reading size o) ≡ run f (offset_reading big_tiff size o 8)
      unfolding big_tiff_reading
      big_tiff_offset q = simp (le-ltb _ _ s, running, ← eight, eq-eqb _ _ e, ← zero, eq-eqb _ _ q)

module _ (f : List ℕ) (size : ℕ) where
  pub tree_small : size < 8 → refused 1 0 ≡ run f (tree_reading size)
  unfolding tree_reading
  tree_small h = simp (lt-ltb _ _ h, running)

  module _ (s : 8 ≤ size) where
    pub tree_large : 67108864 < size → refused 1 0 ≡ run f (tree_reading size)
    unfolding tree_reading
    tree_large h = simp (le-ltb _ _ s, lt-ltb _ _ h, running)

    module _ (h : size ≤ 67108864) where
      pub tree_classic_little : same_bytes (take 4 f) (classic_mark Little) ≡ true →
          run f (tree_reading size) ≡ run f (offset_reading classic size Little 4)
      unfolding tree_reading
      tree_classic_little e = simp (le-ltb _ _ s, le-ltb _ _ h, running, e)

      module _ (n : same_bytes (take 4 f) (classic_mark Little) ≡ false) where
        pub tree_classic_big : same_bytes (take 4 f) (classic_mark Big) ≡ true →
            run f (tree_reading size) ≡ run f (offset_reading classic size Big 4)
        unfolding tree_reading
        tree_classic_big e = simp (le-ltb _ _ s, le-ltb _ _ h, running, n, e)

        module _ (m : same_bytes (take 4 f) (classic_mark Big) ≡ false) where
          pub tree_big_tiff_little : same_bytes (take 4 f) (big_tiff_mark Little) ≡ true →
              run f (tree_reading size) ≡ run f (big_tiff_reading size Little)
          unfolding tree_reading
          tree_big_tiff_little e = simp (le-ltb _ _ s, le-ltb _ _ h, running, n, m, e)

          module _ (k : same_bytes (take 4 f) (big_tiff_mark Little) ≡ false) where
            pub tree_big_tiff_big : same_bytes (take 4 f) (big_tiff_mark Big) ≡ true →
                run f (tree_reading size) ≡ run f (big_tiff_reading size Big)
            unfolding tree_reading
            tree_big_tiff_big e = simp (le-ltb _ _ s, le-ltb _ _ h, running, n, m, k, e)

            pub tree_other : same_bytes (take 4 f) (big_tiff_mark Big) ≡ false → refused 2 0 ≡ run f (tree_reading size)
            unfolding tree_reading
            tree_other e = simp (le-ltb _ _ s, le-ltb _ _ h, running, n, m, k, e)
