-- What is read on the way to the raw directory: of each directory that is visited its count and entries, and the values of
-- NewSubfileType and SubIFDs; of IFD 0 those of DNGVersion and DNGBackwardVersion too.
-- Assumes nothing.
use Rattle.directory.specs.Names.{dng_backward_version, dng_version, new_subfile_type, sub_ifds}
use mathlib.Core.Path.{◌≡◌, refl, sym, ap, subst, ◌∙◌}
use mathlib.Core.Bool.{Bool, true, false}
use mathlib.Core.List.{List}
use mathlib.Core.Logic.{◌⊎◌, inl, inr}
use Prim.Native.Nat.{ℕ, zero, suc, ◌+◌, ◌*◌, ◌≤◌, ◌<◌}
use native.Mathlib.Nat.{mul-suc, mul-zero}
use native.Mathlib.Omega.{arith}
use lib.Dec.{eqb, ltb}
use borrow.Author.Tests.{eqb-false}
use Rattle.reading.specs.Bytes.{part}
use Rattle.reading.specs.Number.{number_of}
use Rattle.reading.specs.Reading.{Reading, Reading.answer, run, pick, reads, number_at}
use Rattle.reading.specs.declared.number.Order.{Order}
use Rattle.reading.specs.declared.number.Order.TheVariants.{Little, Big}
use Rattle.reading.proofs.Reading.{run_answer, run_number}
use Rattle.reading.proofs.Unread.{Unread, Off, off_behind, off_inside, off_rest, unread_answer, unread_ask, unread_number, unread_then}
use Rattle.reading.proofs.Unread.{unread_pick}
use Rattle.directory.specs.Out.{Out, Out.refused, Out.is, bind}
use Rattle.directory.specs.Widths.{classic, big_tiff}
use Rattle.directory.specs.Shape.{ifd, ifd_reading}
use Rattle.directory.specs.Tag.{values_reading, optional, range}
use Rattle.directory.specs.Tree.{Seen, raw_one, parent, children_rule, subfile_reading, look_reading, version_rule, backward_rule}
use Rattle.directory.specs.Tree.{backward_reading, version_reading, Walked, raw, left, after_look, after_child, children_reading}
use Rattle.directory.specs.Tree.{visit_reading, list_visit, after_walk, walk_reading, root_reading, same_bytes, classic_mark, big_tiff_mark}
use Rattle.directory.specs.Tree.{offset_reading, big_tiff_reading, tree_reading}
use Rattle.directory.specs.declared.Ifd.{Ifd}
use Rattle.directory.specs.declared.Widths.{Widths}
use Rattle.directory.specs.declared.tag.Kinds.TheVariants as kinds
use Rattle.directory.specs.declared.tag.Values.{Values}
use Rattle.directory.proofs.Outs.{bind_inverse, same_value}
use Rattle.directory.proofs.Unread.{unread_bind, entries_in, entries_asked, directory_asked, ifd_unread, ifd_count}
use Rattle.directory.proofs.TagUnread.{heads_of, value_in, heads_unasked, other_value_unread, one_unread, ValuesOff, values_off}

-- ---- one directory

-- byte j is in none of the children's offsets
abbrev SeenOff : ℕ → Seen → Type 0
SeenOff j raw_one = Unit {0}
SeenOff j (parent p s n) = Off j p (s * n)

module _ (f : List ℕ) (d : Ifd) (j : ℕ) (heads : reads (heads_of d) j ≡ false) where
  -- whether it is the raw one, and where its children are
  pub look_unread : reads (value_in f d new_subfile_type) j ≡ false → reads (value_in f d sub_ifds) j ≡ false → Unread f j (look_reading d)
  unfolding look_reading
  look_unread a b =
      unread_bind f j (subfile_reading d) _
      (one_unread f d j heads (optional new_subfile_type kinds.Long 1) a 0 (range 0 0 0xFFFF_FFFF_FFFF_FFFF)) (λ t _.
      unread_pick f j (eqb t 0) (answer (is raw_one)) _ (λ _. unread_answer f j (is raw_one))
      (λ _. unread_bind f j (values_reading d children_rule) _ (other_value_unread f d j heads children_rule b)
      (λ v _. unread_answer f j (is (parent v.place v.size v.count)))))

  -- its version
  pub version_unread : reads (value_in f d dng_version) j ≡ false → reads (value_in f d dng_backward_version) j ≡ false → Unread f j (version_reading d)
  unfolding version_reading backward_reading
  version_unread a b =
      unread_bind f j (values_reading d version_rule) _ (other_value_unread f d j heads version_rule a) (λ v ev.
      unread_bind f j (values_reading d backward_rule) _ (other_value_unread f d j heads backward_rule b) (λ x ex.
      unread_then f j (backward_reading v x) _ (number v x (values_off f d j version_rule v ev a) (values_off f d j backward_rule x ex b))
      (unread_answer f j _)))
    where
      -- four BYTEs
      four : (v : Values) → v.size ≡ 1 → v.count ≡ 4 → Off j v.place (v.size * v.count) → Off j v.place 4
      four v s c h = subst (λ (n : ℕ). Off j v.place n) (ap (λ (n : ℕ). n * v.count) s ∙ ap (λ (n : ℕ). 1 * n) c) h

      number : (v x : Values) → ValuesOff j version_rule v → ValuesOff j backward_rule x → Unread f j (backward_reading v x)
      number v x q k =
          unread_pick f j (eqb x.count 0) _ _
          (λ _. let c : v.count ≡ 4 = omega (arith, q.present refl, q.within) in
          let h : Off j v.place 4 = four v (q.sized (omega arith)) c q.off in
          unread_then f j (number_at Big v.place 2) _
          (unread_number f j Big v.place 2 (off_inside j v.place 4 v.place 2 h (omega arith) (omega arith)))
          (unread_answer f j _))
          (λ e. let z : x.count ≡ 0 → ⊥ = eqb-false _ _ e in
          let s : 0 < x.count = omega arith in
          let c : x.count ≡ 4 = omega (arith, k.enough s, k.within) in
          unread_number f j Big x.place 4 (four x (k.sized s) c k.off))

  seen_off : reads (value_in f d sub_ifds) j ≡ false → (x : Seen) → is x ≡ run f (look_reading d) → SeenOff j x
  unfolding look_reading pick
  seen_off b x e =
      let i = bind_inverse f (subfile_reading d) _ x e in
      go (eqb i.0 0) i.2
    where
      go :
          (t : Bool) →
          is x ≡ run f (pick t (answer (is raw_one)) (bind (values_reading d children_rule) (λ (v : Values).
          answer (is (parent v.place v.size v.count))))) → SeenOff j x
      go true h = subst (SeenOff j) (sym (same_value x raw_one (h ∙ run_answer f _))) tt
      go false h =
          let v = bind_inverse f (values_reading d children_rule) _ x h in
          subst (SeenOff j) (sym (same_value x _ (v.2 ∙ run_answer f _))) (values_off f d j children_rule v.0 v.1 b).off

-- its children, one after another
children_unread :
    (f : List ℕ) (j s : ℕ) (visit : ℕ → ℕ → Reading (Out Walked)) (o : Order) (n p v : ℕ) → Off j p (s * n) →
    ((i : ℕ) → i < n → (u : ℕ) → Unread f j (visit (number_of o (part f (p + s * i) s)) u)) → Unread f j (children_reading s visit o n p v)
unfolding children_reading
children_unread f j s visit o zero p v h g = unread_answer f j (is (left v))
children_unread f j s visit o (suc n) p v h g =
    let m = mul-suc s n in
    let z : p + s * 0 ≡ p = omega (arith, mul-zero s) in
    let first : Unread f j (visit (number_of o (part f p s)) v) =
    subst (λ (q : ℕ). Unread f j (visit (number_of o (part f q s)) v)) z (g 0 (omega arith) v) in
    let rest : (i : ℕ) → i < n → (u : ℕ) → Unread f j (visit (number_of o (part f (p + s + s * i) s)) u) =
    λ i l u. let k = mul-suc s i in let y : p + s * suc i ≡ p + s + s * i = omega arith in
    subst (λ (q : ℕ). Unread f j (visit (number_of o (part f q s)) u)) y (g (suc i) (omega arith) u) in
    let later : (u : ℕ) → Unread f j (children_reading s visit o n (p + s) u) =
    λ u. children_unread f j s visit o n (p + s) u
    (off_inside j p (s * suc n) (p + s) (s * n) h (omega arith) (omega arith)) rest in
    unread_then f j (number_at o p s) (λ (at : ℕ). bind (visit at v) (after_child (λ (u : ℕ). children_reading s visit o n (p + s) u)))
    (unread_number f j o p s (off_inside j p (s * suc n) p s h (omega arith) (omega arith)))
    (subst (λ (at : ℕ). Unread f j (bind (visit at v) (after_child (λ (u : ℕ). children_reading s visit o n (p + s) u))))
    (sym (run_number f o p s))
    (unread_bind f j (visit (number_of o (part f p s)) v) (after_child (λ (u : ℕ). children_reading s visit o n (p + s) u)) first
    (λ x _. after x later)))
  where
    after :
        (x : Walked) → ((u : ℕ) → Unread f j (children_reading s visit o n (p + s) u)) →
        Unread f j (after_child (λ (u : ℕ). children_reading s visit o n (p + s) u) x)
    after (raw d) k = unread_answer f j (is (raw d))
    after (left u) k = k u

-- ---- the walk: Visited may be any set of offsets that has, with a directory, its children
module _ (w : Widths) (f : List ℕ) (size : ℕ) (o : Order) (j : ℕ) (Visited : ℕ → Type 0) where
  -- byte j lies in no count and no entry of the directory at an offset and in no value that is tested there
  pub record Clear (at : ℕ) : Type 0 where
    pub asked : reads (directory_asked w f o at) j ≡ false
    pub values :
        (d : Ifd) → is d ≡ run f (ifd_reading w size o at) → (reads (value_in f d new_subfile_type) j ≡ false) × (reads (value_in f d sub_ifds) j ≡ false)
    pub children :
        (d : Ifd) → is d ≡ run f (ifd_reading w size o at) → (p s n : ℕ) → is (parent p s n) ≡ run f (look_reading d) →
        (i : ℕ) → i < n → Visited (number_of o (part f (p + s * i) s))

  ifd_heads :
      (at : ℕ) (d : Ifd) → is d ≡ run f (ifd_reading w size o at) → reads (directory_asked w f o at) j ≡ false → reads (heads_of d) j ≡ false
  ifd_heads at d e h =
      subst (λ (x : Ifd). reads (heads_of x) j ≡ false) (sym (ifd_count w f size o at d e))
      (heads_unasked w f o j (entries_in w f o at) (at + w.entries)
      (off_rest j _ (entries_asked w f o (entries_in w f o at) (at + w.entries)) h))

  -- what follows the look at a directory, where the directories below are visited
  after_unread :
      (depth v : ℕ) (d : Ifd) → ((a u : ℕ) → Visited a → Unread f j (visit_reading w size o depth a u)) →
      ((p s n : ℕ) → is (parent p s n) ≡ run f (look_reading d) → (i : ℕ) → i < n → Visited (number_of o (part f (p + s * i) s))) →
      (x : Seen) → is x ≡ run f (look_reading d) → SeenOff j x →
      Unread f j (after_look d (λ (p s n : ℕ). list_visit w size o depth s n p v) x)
  after_unread depth v d below inside raw_one e h = unread_answer f j (is (raw d))
  after_unread depth v d below inside (parent p s n) e h =
      children_unread f j s (λ (a u : ℕ). visit_reading w size o depth a u) o n p v h (λ i l u. below _ u (inside p s n e i l))

  module _ (clear : (at : ℕ) → Visited at → Clear at) where
    -- a directory that is visited, and all below it
    pub visit_unread : (depth at v : ℕ) → Visited at → Unread f j (visit_reading w size o depth at v)
    unfolding visit_reading
    visit_unread zero at v h = unread_answer f j (refused 6 0)
    visit_unread (suc depth) at zero h = unread_answer f j (refused 6 0)
    visit_unread (suc depth) at (suc v) h =
        let c = clear at h in
        let below : (a u : ℕ) → Visited a → Unread f j (visit_reading w size o depth a u) = λ a u k. visit_unread depth a u k in
        unread_bind f j (ifd_reading w size o at) _ (ifd_unread w f size o j at c.asked) (λ d e.
        let heads = ifd_heads at d e c.asked in
        unread_bind f j (look_reading d) _ (look_unread f d j heads (c.values d e).0 (c.values d e).1) (λ x ex.
        after_unread depth v d below (c.children d e) x ex (seen_off f d j heads (c.values d e).1 x ex)))

    walk_unread :
        (at n p : ℕ) → Visited at → is (ifd w o n p) ≡ run f (ifd_reading w size o at) → Unread f j (walk_reading size (ifd w o n p))
    unfolding walk_reading
    walk_unread at n p h e =
        let c = clear at h in
        let d = ifd w o n p in
        let heads = ifd_heads at d e c.asked in
        unread_bind f j (look_reading d) _ (look_unread f d j heads (c.values d e).0 (c.values d e).1) (λ x ex.
        after_unread 3 15 d (visit_unread 3) (c.children d e) x ex (seen_off f d j heads (c.values d e).1 x ex))

    -- IFD 0, its version and all below it
    pub root_unread :
        (at : ℕ) → Visited at →
        ((d : Ifd) → is d ≡ run f (ifd_reading w size o at) →
        (reads (value_in f d dng_version) j ≡ false) × (reads (value_in f d dng_backward_version) j ≡ false)) →
        Unread f j (root_reading w size o at)
    unfolding root_reading
    root_unread at h version =
        let c = clear at h in
        unread_bind f j (ifd_reading w size o at) _ (ifd_unread w f size o j at c.asked) (λ d e.
        unread_bind f j (version_reading d) _
        (version_unread f d j (ifd_heads at d e c.asked) (version d e).0 (version d e).1) (λ _ _.
        unread_bind f j (walk_reading size d) (after_walk d)
        (subst (λ (x : Ifd). is x ≡ run f (ifd_reading w size o at) → Unread f j (walk_reading size x)) (sym (ifd_count w f size o at d e))
        (walk_unread at _ _ h) e)
        (λ x _. found d x)))
      where
        found : (d : Ifd) (x : Walked) → Unread f j (after_walk d x)
        found d (raw y) = unread_answer f j _
        found d (left v) = unread_answer f j _

-- ---- the file

-- what the header says: the layout, the byte order and where IFD 0 is
abbrev pub Header : List ℕ → Widths → Order → ℕ → Type 0
Header f w o at =
    ((same_bytes (part f 0 4) (classic_mark o) ≡ true) × (w ≡ classic) × (at ≡ number_of o (part f 4 4)))
    ⊎ ((same_bytes (part f 0 4) (big_tiff_mark o) ≡ true) × (w ≡ big_tiff) × (at ≡ number_of o (part f 8 8)))

module _ (f : List ℕ) (size j : ℕ) (behind : 16 ≤ j) where
  offset_unread :
      (w : Widths) (o : Order) (p : ℕ) → p + w.word ≤ 16 → Unread f j (root_reading w size o (number_of o (part f p w.word))) →
      Unread f j (offset_reading w size o p)
  unfolding offset_reading
  offset_unread w o p l h =
      unread_then f j (number_at o p w.word) (root_reading w size o)
      (unread_number f j o p w.word (off_behind j p w.word (omega arith)))
      (subst (λ (at : ℕ). Unread f j (root_reading w size o at)) (sym (run_number f o p w.word)) h)

  big_tiff_unread : (o : Order) → Unread f j (root_reading big_tiff size o (number_of o (part f 8 8))) → Unread f j (big_tiff_reading size o)
  unfolding big_tiff_reading
  big_tiff_unread o h =
      unread_pick f j (ltb size 16) (answer (refused 1 0)) _ (λ _. unread_answer f j (refused 1 0))
      (λ _. unread_then f j (number_at o 4 2) _ (unread_number f j o 4 2 (off_behind j 4 2 (omega arith)))
      (unread_pick f j (eqb (run f (number_at o 4 2)) 8) _ (answer (refused 2 0))
      (λ _. unread_then f j (number_at o 6 2) _ (unread_number f j o 6 2 (off_behind j 6 2 (omega arith)))
      (unread_pick f j (eqb (run f (number_at o 6 2)) 0) (offset_reading big_tiff size o 8) (answer (refused 2 0))
      (λ _. offset_unread big_tiff o 8 (omega arith) h) (λ _. unread_answer f j (refused 2 0))))
      (λ _. unread_answer f j (refused 2 0))))

  -- a byte behind the header that is not read from IFD 0 on is not read for the tree
  pub tree_unread :
      ((w : Widths) (o : Order) (at : ℕ) → Header f w o at → Unread f j (root_reading w size o at)) → Unread f j (tree_reading size)
  unfolding tree_reading
  tree_unread h =
      unread_pick f j (ltb size 8) (answer (refused 1 0)) _ (λ _. unread_answer f j (refused 1 0))
      (λ _. unread_pick f j (ltb 67108864 size) (answer (refused 1 0)) _ (λ _. unread_answer f j (refused 1 0))
      (λ _. unread_ask f j 0 4 _ (off_behind j 0 4 (omega arith))
      (unread_pick f j (same_bytes (part f 0 4) (classic_mark Little)) (offset_reading classic size Little 4) _
      (λ e. offset_unread classic Little 4 (omega arith) (h classic Little _ (inl (e, refl, refl))))
      (λ _. unread_pick f j (same_bytes (part f 0 4) (classic_mark Big)) (offset_reading classic size Big 4) _
      (λ e. offset_unread classic Big 4 (omega arith) (h classic Big _ (inl (e, refl, refl))))
      (λ _. unread_pick f j (same_bytes (part f 0 4) (big_tiff_mark Little)) (big_tiff_reading size Little) _
      (λ e. big_tiff_unread Little (h big_tiff Little _ (inr (e, refl, refl))))
      (λ _. unread_pick f j (same_bytes (part f 0 4) (big_tiff_mark Big)) (big_tiff_reading size Big) (answer (refused 2 0))
      (λ e. big_tiff_unread Big (h big_tiff Big _ (inr (e, refl, refl)))) (λ _. unread_answer f j (refused 2 0))))))))
