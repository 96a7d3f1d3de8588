-- What holds of whatever the tests up to 9 accept, by the definitions alone: its strips and its list lie in the file, and S is positive
-- on each plane.
-- Assumes nothing.
use Rattle.directory.specs.Names.{column_interleave_factor, compression, opcode_list1, opcode_list3, planar_configuration, row_interleave_factor}
use mathlib.Core.Path.{◌≡◌, refl, sym, ap, subst, ◌∙◌}
use mathlib.Core.Bool.{false}
use mathlib.Core.List.{List}
use Prim.Native.Nat.{ℕ, ◌≤◌, ◌<◌}
use lib.IntN.{pos}
use lib.ListN.{length}
use lib.Signed.{le_z}
use Rattle.reading.specs.Reading.{run, run_whole}
use Rattle.reading.specs.declared.number.Order.{Order}
use Rattle.reading.proofs.Reading.{run_answer, run_and_then}
use Rattle.directory.specs.Out.{Out.is}
use Rattle.directory.specs.Facts.Shape.{Tested}
use Rattle.directory.specs.Tag.{values_reading, not_carried}
use Rattle.directory.specs.Facts.Tag.{PlacedValues}
use Rattle.directory.specs.Tree.{tree_reading}
use Rattle.directory.specs.declared.Ifd.{Ifd}
use Rattle.directory.specs.declared.tree.Roots.{Roots}
use Rattle.directory.specs.declared.tag.Kinds.TheVariants as kinds
use Rattle.directory.specs.declared.tag.Values.{Values}
use Rattle.directory.proofs.Outs.{bind_inverse, same_value}
use Rattle.directory.proofs.Accepted.{tree_rooted, values_placed, one_in}
use Rattle.levels.specs.Levels.{span_of}
use Rattle.rawtags.specs.Layout.{depth_reading, only_one, format_reading, strip_rows_reading, layout_reading}
use Rattle.rawtags.specs.Strips.{strip_count, row_bytes, strip_from, offsets_rule, counts_rule, strips_reading}
use Rattle.rawtags.specs.Facts.Strips.{StripsWithin}
use Rattle.rawtags.specs.Lists.{list_rule, list_tag_reading}
use Rattle.rawtags.specs.Raw.{tags_reading}
use Rattle.rawtags.proofs.TagsLaws.{tags_read}
use Rattle.raw.specs.Stored.{levels_reading}
use Rattle.raw.specs.Spans.{spanned_of}
use Rattle.raw.specs.Front.{raw_with, raw_reading, front_reading}
use Rattle.rawtags.specs.declared.frame.Dimensions.{Dimensions}
use Rattle.rawtags.specs.declared.layout.Layout.{Layout}
use Rattle.rawtags.specs.declared.Tags.{Tags}
use Rattle.raw.specs.declared.front.Raw.{Raw}
use Rattle.raw.specs.declared.front.Picture.{Picture}
use Rattle.rawtags.proofs.Strip.{strip_in}
use Rattle.rawtags.proofs.AcceptedFrame.{tags_frame}
use Rattle.raw.proofs.SpanLaws.{span_of_plane}
use Rattle.raw.proofs.StoredLaws.{samples_are}

module _ (f : List ℕ) (d : Ifd) where
  -- a strip has a row
  pub layout_rows : (s : ℕ) (l : Layout) → is l ≡ run f (layout_reading d s) → 1 ≤ l.rows
  unfolding layout_reading strip_rows_reading
  layout_rows s l e =
      let a = bind_inverse f (depth_reading d s) _ l e in
      let b = bind_inverse f (only_one d compression kinds.Short 0) _ l a.2 in
      let c = bind_inverse f (only_one d planar_configuration kinds.Short 0) _ l b.2 in
      let g = bind_inverse f (format_reading d s) _ l c.2 in
      let h = bind_inverse f (only_one d row_interleave_factor kinds.ShortOrLong 1) _ l g.2 in
      let i = bind_inverse f (only_one d column_interleave_factor kinds.ShortOrLong 1) _ l h.2 in
      let r = bind_inverse f (strip_rows_reading d) _ l i.2 in
      let q : l.rows ≡ r.0 = ap (λ (x : Layout). x.rows) (same_value l _ (r.2 ∙ run_answer f _)) in
      rw q (one_in f d _ _ _ r.0 r.1).legal

  module _ (t : Tested f d) where
    pub strips_accepted : (fr : Dimensions) (l : Layout) (v : Values) → is v ≡ run f (strips_reading (length f) d fr l) →
        StripsWithin f d.order fr l v
    unfolding strips_reading
    strips_accepted fr l v e =
        let a = bind_inverse f (values_reading d (offsets_rule fr l)) _ v e in
        let b = bind_inverse f (values_reading d (counts_rule fr l)) _ v a.2 in
        let os : Values = a.0 in
        let cs : Values = b.0 in
        let n : ℕ = strip_count fr l in
        let s = bind_inverse f
        (strip_from (length f) d.order os.size cs.size l.rows (row_bytes fr l) n os.place cs.place fr.length)
        _ v b.2 in
        subst (StripsWithin f d.order fr l) (sym (same_value v os (s.2 ∙ run_answer f _)))
        (record {
          placed = values_placed f (offsets_rule fr l) os d t a.1;
          inside = λ i h. strip_in f (length f) d.order os.size cs.size l.rows (row_bytes fr l) s.0
              n i os.place cs.place fr.length s.1 h;
        })

    pub list_accepted : (v : Values) → is v ≡ run f (list_tag_reading d) → PlacedValues (length f) list_rule v
    unfolding list_tag_reading
    list_accepted v e =
        let a = bind_inverse f (not_carried d opcode_list1) _ v e in
        let b = bind_inverse f (not_carried d opcode_list3) _ v a.2 in
        values_placed f list_rule v d t b.2

-- the strips and the list lie in the file
pub record Inside (f : List ℕ) (o : Order) (t : Tags) : Type 0 where
  pub rows : 1 ≤ t.layout.rows
  pub strips : StripsWithin f o t.frame t.layout t.strips
  pub list : PlacedValues (length f) list_rule t.list

pub tags_accepted : (f : List ℕ) (d : Ifd) → Tested f d → (t : Tags) → is t ≡ run f (tags_reading (length f) d) → Inside f d.order t
tags_accepted f d h t e =
    let r = tags_read f (length f) d t e in
    record {
      rows = layout_rows f d t.frame.samples t.layout r.layout;
      strips = strips_accepted f d h t.frame t.layout t.strips r.strips;
      list = list_accepted f d h t.list r.list;
    }

-- how a picture was found: the tree, the raw directory's tags, S of each plane
pub record Found (f : List ℕ) (p : Picture) : Type 0 where
  pub roots : Roots
  pub tree : is roots ≡ run f (tree_reading (length f))
  pub directory : p.directory ≡ roots.raw
  pub order : p.order ≡ roots.raw.order
  pub tags : is p.raw.tags ≡ run f (tags_reading (length f) roots.raw)
  pub spans : is p.raw.spans ≡ spanned_of (run f (levels_reading p.order p.raw.tags))

pub front_found : (f : List ℕ) (p : Picture) → is p ≡ run_whole f front_reading → Found f p
unfolding front_reading raw_reading
front_found f p e =
    let a = bind_inverse f (tree_reading (length f)) _ p e in
    let d : Ifd = a.0.raw in
    let b = bind_inverse f (raw_reading (length f) d) _ p a.2 in
    let c = bind_inverse f (tags_reading (length f) d) _ b.0 b.1 in
    let s = bind_inverse f _ _ b.0 c.2 in
    let q : b.0 ≡ raw_with c.0 s.0 = same_value b.0 _ (s.2 ∙ run_answer f _) in
    subst (Found f) (sym (same_value p _ (b.2 ∙ run_answer f _)))
    (record {
      roots = a.0;
      tree = a.1;
      directory = refl;
      order = refl;
      tags = ap (λ (x : Raw). is x.tags) q ∙ c.1;
      spans = subst (λ (x : Raw). is x.spans ≡ spanned_of (run f (levels_reading d.order x.tags))) (sym q)
          (s.1 ∙ run_and_then f (levels_reading d.order c.0) _ ∙ run_answer f _);
    })

pub front_accepted : (f : List ℕ) (p : Picture) → is p ≡ run_whole f front_reading → Inside f p.order p.raw.tags
front_accepted f p e =
    let h = front_found f p e in
    subst (λ (x : Order). Inside f x p.raw.tags) (sym h.order)
    (tags_accepted f h.roots.raw (tree_rooted f h.roots h.tree).raw p.raw.tags h.tags)

-- S is positive
pub front_spans : (f : List ℕ) (p : Picture) → is p ≡ run_whole f front_reading → (q : ℕ) → q < p.raw.tags.frame.samples →
    le_z (span_of (run f (levels_reading p.order p.raw.tags)) q) (pos 0) ≡ false
front_spans f p e q k =
    let h = front_found f p e in
    let l = run f (levels_reading p.order p.raw.tags) in
    let n : l.samples ≡ p.raw.tags.frame.samples = samples_are f p.order p.raw.tags in
    (span_of_plane l p.raw.spans h.spans (rw n (tags_frame f (length f) h.roots.raw p.raw.tags h.tags).0.planes) q (rw n k)).1
