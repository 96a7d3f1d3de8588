-- What is read for the tests up to 9, and for what every sample needs: nothing but the tree, the raw directory's entries and the values
-- of its tags.
-- Assumes nothing.
use Rattle.directory.specs.Names.{black_level, black_level_delta_h, black_level_delta_v, linearization_table, opcode_list2, strip_offsets, white_level}
use mathlib.Core.Path.{◌≡◌, refl, sym, subst, ◌∙◌}
use mathlib.Core.Bool.{true, false}
use mathlib.Core.List.{List}
use Prim.Native.Nat.{ℕ, ◌*◌}
use lib.Dec.{eqb}
use mir.Val.{has_key}
use Rattle.reading.specs.Reading.{Reading.answer, run, reads}
use Rattle.reading.specs.declared.number.Order.{Order}
use Rattle.reading.proofs.Reading.{run_answer}
use Rattle.reading.proofs.Unread.{Unread, Off, unread_answer, unread_ask, unread_then, unread_pick}
use Rattle.directory.specs.Out.{Out.is}
use Rattle.directory.specs.Tag.{values_reading, each_reading, all_reading, range}
use Rattle.directory.specs.Tree.{tree_reading}
use Rattle.directory.specs.declared.Ifd.{Ifd}
use Rattle.directory.specs.declared.tag.Rule.{Rule}
use Rattle.directory.specs.declared.tag.Range.{Range}
use Rattle.directory.specs.declared.tag.Values.{Values}
use Rattle.directory.specs.declared.tree.Roots.{Roots}
use Rattle.directory.proofs.Outs.{bind_inverse, same_value}
use Rattle.directory.proofs.Unread.{unread_bind}
use Rattle.directory.proofs.TagUnread.{heads_of, offset_in, value_in, values_off}
use Rattle.levels.specs.Levels.{Levels}
use Rattle.levels.specs.declared.black.BlackKind.{BlackKind}
use Rattle.levels.specs.declared.black.BlackKind.TheVariants as kind
use Rattle.rawtags.specs.Strips.{strip_count, row_bytes, strip_from, offsets_rule, counts_rule, strips_reading}
use Rattle.rawtags.specs.Repeat.{repeat_reading}
use Rattle.rawtags.specs.Black.{kind_for, blacks_test, black_rule, black_reading, delta_rule, delta_reading}
use Rattle.rawtags.specs.White.{table_rule, table_reading, white_rule, white_reading}
use Rattle.rawtags.specs.LevelTags.{level_tags_reading}
use Rattle.rawtags.specs.Raw.{active_rows, active_columns, tags_reading}
use Rattle.rawtags.proofs.TagsLaws.{tags_read}
use Rattle.raw.specs.Stored.{numbers_reading, blacks_reading, whites_reading, levels_reading, stored_reading}
use Rattle.raw.specs.Spans.{spanned_of}
use Rattle.raw.specs.Front.{raw_with, raw_reading, picture_of, front_reading}
use Rattle.rawtags.specs.declared.Tags.{Tags}
use Rattle.rawtags.specs.declared.frame.Dimensions.{Dimensions}
use Rattle.rawtags.specs.declared.layout.Layout.{Layout}
use Rattle.rawtags.specs.declared.repeat.Repeat.{Repeat}
use Rattle.rawtags.specs.declared.level_tags.LevelTags.{LevelTags}
use Rattle.rawtags.proofs.TagsUnread.{raw_tags, tags_unread}

-- ---- the values that a test leaves are those of the tag
module _ (f : List ℕ) (d : Ifd) (v : Values) where
  all_given : (r : Rule) (g : Range) → is v ≡ run f (all_reading d r g) → is v ≡ run f (values_reading d r)
  unfolding all_reading
  all_given r g e =
      let a = bind_inverse f (values_reading d r) _ v e in
      let b = bind_inverse f (each_reading d.order a.0.size r.tag g a.0.count a.0.place) _ v a.2 in
      subst (λ (x : Values). is x ≡ run f (values_reading d r)) (sym (same_value v a.0 (b.2 ∙ run_answer f _))) a.1

  black_given : (r : Repeat) (s : ℕ) → is v ≡ run f (black_reading d r s) → is v ≡ run f (values_reading d (black_rule r s))
  unfolding black_reading
  black_given r s e =
      let a = bind_inverse f (values_reading d (black_rule r s)) _ v e in
      let b = bind_inverse f (blacks_test d.order black_level (kind_for a.0.kind) a.0.size a.0.count a.0.place) _ v a.2 in
      subst (λ (x : Values). is x ≡ run f (values_reading d (black_rule r s))) (sym (same_value v a.0 (b.2 ∙ run_answer f _))) a.1

  delta_given : (tag n : ℕ) → is v ≡ run f (delta_reading d tag n) → is v ≡ run f (values_reading d (delta_rule tag n))
  unfolding delta_reading
  delta_given tag n e =
      let a = bind_inverse f (values_reading d (delta_rule tag n)) _ v e in
      let b = bind_inverse f (blacks_test d.order tag kind.SignedRational a.0.size a.0.count a.0.place) _ v a.2 in
      subst (λ (x : Values). is x ≡ run f (values_reading d (delta_rule tag n))) (sym (same_value v a.0 (b.2 ∙ run_answer f _))) a.1

  strips_given :
      (size : ℕ) (w : Dimensions) (l : Layout) → is v ≡ run f (strips_reading size d w l) → is v ≡ run f (values_reading d (offsets_rule w l))
  unfolding strips_reading
  strips_given size w l e =
      let a = bind_inverse f (values_reading d (offsets_rule w l)) _ v e in
      let b = bind_inverse f (values_reading d (counts_rule w l)) _ v a.2 in
      let c = bind_inverse f (strip_from size d.order a.0.size b.0.size l.rows (row_bytes w l) (strip_count w l) a.0.place
      b.0.place w.length) _ v b.2 in
      subst (λ (x : Values). is x ≡ run f (values_reading d (offsets_rule w l))) (sym (same_value v a.0 (c.2 ∙ run_answer f _))) a.1

-- ---- byte j is in no value of accepted tags
abbrev OffValues : ℕ → Values → Type 0
OffValues j v = Off j v.place (v.size * v.count)

record LevelsOff (j : ℕ) (v : LevelTags) : Type 0 where
  table : OffValues j v.table
  black : OffValues j v.black
  column_deltas : OffValues j v.column_deltas
  row_deltas : OffValues j v.row_deltas
  white : OffValues j v.white

record TagsOff (j : ℕ) (t : Tags) : Type 0 where
  strips : OffValues j t.strips
  levels : LevelsOff j t.levels

-- byte j lies in no tag, type or count of the raw directory's entries, in no value of its tags and not in the list's offset
pub record RawClear (f : List ℕ) (j : ℕ) (d : Ifd) : Type 0 where
  pub heads : reads (heads_of d) j ≡ false
  pub values : (tag : ℕ) → has_key raw_tags tag ≡ true → reads (value_in f d tag) j ≡ false
  pub list : reads (offset_in f d opcode_list2) j ≡ false

module _ (f : List ℕ) (j : ℕ) (d : Ifd) (c : RawClear f j d) where
  levels_off : (s rows columns : ℕ) (v : LevelTags) → is v ≡ run f (level_tags_reading d s rows columns) → LevelsOff j v
  unfolding level_tags_reading table_reading white_reading
  levels_off s rows columns v e =
      let t = bind_inverse f (table_reading d) _ v e in
      let r = bind_inverse f (repeat_reading d) _ v t.2 in
      let b = bind_inverse f (black_reading d r.0 s) _ v r.2 in
      let cs = bind_inverse f (delta_reading d black_level_delta_h columns) _ v b.2 in
      let rs = bind_inverse f (delta_reading d black_level_delta_v rows) _ v cs.2 in
      let w = bind_inverse f (white_reading d s) _ v rs.2 in
      subst (LevelsOff j) (sym (same_value v _ (w.2 ∙ run_answer f _)))
      (record {
        table = (values_off f d j table_rule t.0 t.1 (c.values linearization_table refl)).off;
        black = (values_off f d j (black_rule r.0 s) b.0 (black_given f d b.0 r.0 s b.1) (c.values black_level refl)).off;
        column_deltas =
            (values_off f d j (delta_rule black_level_delta_h columns) cs.0 (delta_given f d cs.0 black_level_delta_h columns cs.1)
            (c.values black_level_delta_h refl)).off;
        row_deltas =
            (values_off f d j (delta_rule black_level_delta_v rows) rs.0 (delta_given f d rs.0 black_level_delta_v rows rs.1)
            (c.values black_level_delta_v refl)).off;
        white =
            (values_off f d j (white_rule s) w.0 (all_given f d w.0 (white_rule s) (range 0 0 65535) w.1) (c.values white_level refl)).off;
      })

  tags_off : (size : ℕ) (t : Tags) → is t ≡ run f (tags_reading size d) → TagsOff j t
  tags_off size t e =
      let r = tags_read f size d t e in
      record {
        strips =
            (values_off f d j (offsets_rule t.frame t.layout) t.strips (strips_given f d t.strips size t.frame t.layout r.strips)
            (c.values strip_offsets refl)).off;
        levels = levels_off t.frame.samples (active_rows t.area) (active_columns t.area) t.levels r.levels;
      }

  -- ---- what every sample needs
  numbers_unread : (o : Order) (v : Values) → OffValues j v → Unread f j (numbers_reading o v)
  unfolding numbers_reading
  numbers_unread o v h = unread_ask f j v.place (v.size * v.count) _ h (unread_answer f j _)

  blacks_unread : (o : Order) (k : BlackKind) (v : Values) → OffValues j v → Unread f j (blacks_reading o k v)
  unfolding blacks_reading
  blacks_unread o k v h = unread_ask f j v.place (v.size * v.count) _ h (unread_answer f j _)

  levels_unread : (o : Order) (t : Tags) → LevelsOff j t.levels → Unread f j (levels_reading o t)
  unfolding levels_reading whites_reading
  levels_unread o t h =
      unread_then f j (numbers_reading o t.levels.table) _ (numbers_unread o t.levels.table h.table)
      (unread_then f j (blacks_reading o (kind_for t.levels.black.kind) t.levels.black) _
      (blacks_unread o (kind_for t.levels.black.kind) t.levels.black h.black)
      (unread_then f j (blacks_reading o kind.SignedRational t.levels.column_deltas) _
      (blacks_unread o kind.SignedRational t.levels.column_deltas h.column_deltas)
      (unread_then f j (blacks_reading o kind.SignedRational t.levels.row_deltas) _
      (blacks_unread o kind.SignedRational t.levels.row_deltas h.row_deltas)
      (unread_then f j (whites_reading o t) _
      (unread_pick f j (eqb t.levels.white.count 0) _ (numbers_reading o t.levels.white) (λ _. unread_answer f j _)
      (λ _. numbers_unread o t.levels.white h.white))
      (unread_answer f j _)))))

  pub stored_unread : (size : ℕ) (o : Order) (t : Tags) → is t ≡ run f (tags_reading size d) → Unread f j (stored_reading o t)
  unfolding stored_reading
  stored_unread size o t e =
      let h = tags_off size t e in
      unread_then f j (numbers_reading o t.strips) _ (numbers_unread o t.strips h.strips)
      (unread_then f j (levels_reading o t) _ (levels_unread o t h.levels) (unread_answer f j _))

  -- ---- the raw directory, with 9
  pub raw_unread : (size : ℕ) → Unread f j (raw_reading size d)
  unfolding raw_reading
  raw_unread size =
      unread_bind f j (tags_reading size d) _ (tags_unread f d j c.heads size c.values c.list) (λ t e.
      unread_bind f j _ _
      (unread_then f j (levels_reading d.order t) (λ (l : Levels). answer (spanned_of l))
      (levels_unread d.order t (tags_off size t e).levels) (unread_answer f j _))
      (λ s _. unread_answer f j (is (raw_with t s))))

-- all tests up to 9
pub front_unread :
    (f : List ℕ) (j size : ℕ) → Unread f j (tree_reading size) →
    ((r : Roots) → is r ≡ run f (tree_reading size) → RawClear f j r.raw) → Unread f j (front_reading size)
unfolding front_reading
front_unread f j size h c =
    unread_bind f j (tree_reading size) _ h (λ r e.
    unread_bind f j (raw_reading size r.raw) _ (raw_unread f j r.raw (c r e) size) (λ x _.
    unread_answer f j (is (picture_of r.first r.raw x))))
