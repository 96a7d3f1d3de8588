-- What is read for the tags of the raw directory: tag, type and count of its entries, and the values of the tags that documents 01
-- and 02 name. So another tag's value is not read, nor the list's, which is read where its opcodes are tested.
-- Assumes nothing.
use Rattle.directory.specs.Names.{active_area, bits_per_sample, black_level, black_level_delta_h, black_level_delta_v, black_level_repeat_dim}
use Rattle.directory.specs.Names.{column_interleave_factor, compression, default_crop_origin, default_crop_size, image_length, image_width}
use Rattle.directory.specs.Names.{linearization_table, opcode_list1}
use Rattle.directory.specs.Names.{opcode_list2, opcode_list3, photometric_interpretation, planar_configuration, row_interleave_factor}
use Rattle.directory.specs.Names.{rows_per_strip, sample_format, samples_per_pixel, strip_byte_counts, strip_offsets, white_level}
use mathlib.Core.Path.{◌≡◌, refl, subst, ◌∙◌}
use mathlib.Core.Bool.{true, false}
use mathlib.Core.List.{List, [], ◌∷◌}
use Prim.Native.Nat.{ℕ, zero, suc, ◌+◌, ◌*◌, ◌-◌, ◌≤◌, ◌<◌, min}
use native.Mathlib.Nat.{mul-suc}
use native.Mathlib.Omega.{arith}
use lib.Dec.{eqb, leb}
use mir.Val.{has_key}
use borrow.Author.Tests.{eqb-true, eqb-false}
use Rattle.reading.specs.Reading.{Reading.answer, run, reads, number_at}
use Rattle.reading.specs.declared.number.Order.{Order}
use Rattle.reading.proofs.Unread.{Unread, Off, off_inside, unread_answer, unread_ask, unread_number, unread_then, unread_pick}
use Rattle.directory.specs.Out.{Out.refused, Out.is}
use Rattle.directory.specs.Entry.{code_of}
use Rattle.directory.specs.Tag.{values_reading, not_carried, one_reading, each_reading, required, optional, range}
use Rattle.directory.specs.declared.Ifd.{Ifd}
use Rattle.directory.specs.declared.tag.Kinds.{Kinds}
use Rattle.directory.specs.declared.tag.Kinds.TheVariants as kinds
use Rattle.directory.specs.declared.tag.Rule.{Rule}
use Rattle.directory.specs.declared.tag.Values.{Values}
use Rattle.directory.proofs.Unread.{unread_bind}
use Rattle.directory.proofs.TagUnread.{heads_of, offset_in, value_in, other_value_unread, list_tag_unread, not_carried_unread}
use Rattle.directory.proofs.TagUnread.{ValuesOff, values_off, first_off, each_unread, one_unread, all_unread}
use Rattle.levels.specs.declared.black.BlackKind.{BlackKind}
use Rattle.levels.specs.declared.black.BlackKind.TheVariants as kind
use Rattle.rawtags.specs.Frame.{dimension_range, dimension_reading, samples_of, planes_reading, frame_reading}
use Rattle.rawtags.specs.Layout.{bytes_per, depth_from, depth_reading, only_one, format_reading, strip_rows_reading, layout_reading}
use Rattle.rawtags.specs.Strips.{strip_count, row_bytes, strip_from, offsets_rule, counts_rule, strips_reading}
use Rattle.rawtags.specs.Area.{area, four_reading, area_reading}
use Rattle.rawtags.specs.Repeat.{side_reading, pair_reading, repeat_reading}
use Rattle.rawtags.specs.Black.{kind_for, blacks_test, black_rule, black_reading, delta_rule, delta_reading}
use Rattle.rawtags.specs.White.{table_rule, table_reading, white_rule, white_reading}
use Rattle.rawtags.specs.LevelTags.{level_tags_reading}
use Rattle.rawtags.specs.Whole.{whole_number_reading, both_reading, lengths_rule, lengths_reading}
use Rattle.rawtags.specs.Crop.{lengths, crop_reading}
use Rattle.rawtags.specs.Lists.{list_rule, list_tag_reading}
use Rattle.rawtags.specs.Raw.{active_rows, active_columns, tags_reading}
use Rattle.rawtags.specs.declared.frame.Dimensions.{Dimensions}
use Rattle.rawtags.specs.declared.layout.Layout.{Layout}
use Rattle.rawtags.specs.declared.repeat.Repeat.{Repeat}
use Rattle.rawtags.specs.declared.whole.Lengths.{Lengths}
use Rattle.rawtags.proofs.AcceptedFrame.{frame_in}
use Rattle.rawtags.proofs.WholeLaws.{rational_width}

-- the tags of the raw directory whose values are read with them: all that documents 01 and 02 name but the list, OpcodeList2
abbrev pub raw_tags : List ℕ
raw_tags =
    image_width ∷ image_length ∷ photometric_interpretation ∷ samples_per_pixel ∷ bits_per_sample ∷ compression ∷ planar_configuration ∷
    sample_format ∷ row_interleave_factor ∷ column_interleave_factor ∷ rows_per_strip ∷ strip_offsets ∷ strip_byte_counts ∷ active_area
    ∷ linearization_table ∷ black_level_repeat_dim ∷ black_level ∷ black_level_delta_h ∷ black_level_delta_v ∷ white_level
    ∷ default_crop_origin ∷ default_crop_size ∷ []

-- as many values as the rule says, where there are any
exact_off :
    (j : ℕ) (r : Rule) (v : Values) (n : ℕ) → r.least ≡ n → r.most ≡ n → ValuesOff j r v → 0 < v.count →
    Off j v.place (v.size * n)
exact_off j r v n l m h z =
    let c : v.count ≡ n = omega (arith, h.enough z, h.within) in
    subst (λ (k : ℕ). Off j v.place (v.size * k)) c h.off

required_off : (j tag : ℕ) (ks : Kinds) (v : Values) (n : ℕ) → ValuesOff j (required tag ks n) v → Off j v.place (v.size * n)
required_off j tag ks v n h =
    let l : n ≤ v.count = h.present refl in
    let m : v.count ≤ n = h.within in
    let c : v.count ≡ n = omega arith in
    subst (λ (k : ℕ). Off j v.place (v.size * k)) c h.off

-- ---- strip by strip
each_strip_unread :
    (f : List ℕ) (j size : ℕ) (o : Order) (wide broad rows row n p q rest : ℕ) → Off j p (wide * n) → Off j q (broad * n) →
    Unread f j (strip_from size o wide broad rows row n p q rest)
unfolding strip_from
each_strip_unread f j size o wide broad rows row zero p q rest a b = unread_answer f j (is 0)
each_strip_unread f j size o wide broad rows row (suc n) p q rest a b =
    let x = mul-suc wide n in
    let y = mul-suc broad n in
    let later : (m : ℕ) → Unread f j (strip_from size o wide broad rows row n (p + wide) (q + broad) m) =
    λ m. each_strip_unread f j size o wide broad rows row n (p + wide) (q + broad) m
    (off_inside j p (wide * suc n) (p + wide) (wide * n) a (omega arith) (omega arith))
    (off_inside j q (broad * suc n) (q + broad) (broad * n) b (omega arith) (omega arith)) in
    unread_then f j (number_at o q broad) _
    (unread_number f j o q broad (off_inside j q (broad * suc n) q broad b (omega arith) (omega arith)))
    (unread_pick f j (eqb (run f (number_at o q broad)) (min rows rest * row)) _ (answer (refused 4 strip_byte_counts))
    (λ _. unread_then f j (number_at o p wide) _
    (unread_number f j o p wide (off_inside j p (wide * suc n) p wide a (omega arith) (omega arith)))
    (unread_pick f j (leb (run f (number_at o p wide) + run f (number_at o q broad)) size) _ (answer (refused 4 strip_offsets))
    (λ _. later (rest - min rows rest)) (λ _. unread_answer f j (refused 4 strip_offsets))))
    (λ _. unread_answer f j (refused 4 strip_byte_counts)))

module _ (f : List ℕ) (d : Ifd) (j : ℕ) (heads : reads (heads_of d) j ≡ false) where
  abbrev OffTag : ℕ → Type 0
  OffTag tag = reads (value_in f d tag) j ≡ false

  frame_unread : OffTag image_width → OffTag image_length → OffTag photometric_interpretation → OffTag samples_per_pixel → Unread f j (frame_reading d)
  unfolding frame_reading dimension_reading planes_reading
  frame_unread a b c e =
      unread_bind f j (dimension_reading d image_width) _ (one_unread f d j heads (required image_width kinds.ShortOrLong 1) a 0 dimension_range) (λ _ _.
      unread_bind f j (dimension_reading d image_length) _ (one_unread f d j heads (required image_length kinds.ShortOrLong 1) b 0 dimension_range) (λ _ _.
      unread_bind f j (planes_reading d) _
      (unread_bind f j (one_reading d (required photometric_interpretation kinds.Short 1) 0 (range 0 0 65535)) _
      (one_unread f d j heads (required photometric_interpretation kinds.Short 1) c 0 (range 0 0 65535)) (λ p _.
      unread_pick f j (eqb (samples_of p) 0) (answer (refused 8 photometric_interpretation)) _ (λ _. unread_answer f j (refused 8 photometric_interpretation))
      (λ _. one_unread f d j heads (optional samples_per_pixel kinds.Short 1) e 1 (range 0 (samples_of p) (samples_of p)))))
      (λ s _. unread_answer f j _)))

  depth_unread : (s : ℕ) → 1 ≤ s → OffTag bits_per_sample → Unread f j (depth_reading d s)
  unfolding depth_reading depth_from
  depth_unread s some a =
      unread_bind f j (values_reading d (required bits_per_sample kinds.Short s)) _ (other_value_unread f d j heads (required bits_per_sample kinds.Short s) a)
      (λ v e. let q = values_off f d j (required bits_per_sample kinds.Short s) v e a in
      unread_then f j (number_at d.order v.place v.size) (depth_from d v)
      (unread_number f j d.order v.place v.size
      (first_off j v.place v.size s (required_off j bits_per_sample kinds.Short v s q) some))
      (rest v q.off (run f (number_at d.order v.place v.size))))
    where
      rest : (v : Values) → Off j v.place (v.size * v.count) → (n : ℕ) → Unread f j (depth_from d v n)
      rest v h n =
          unread_pick f j (eqb (bytes_per n) 0) (answer (refused 8 bits_per_sample)) _ (λ _. unread_answer f j (refused 8 bits_per_sample))
          (λ _. unread_bind f j (each_reading d.order v.size bits_per_sample (range 0 n n) v.count v.place) _
          (each_unread f j d.order v.size bits_per_sample (range 0 n n) v.count v.place h) (λ _ _. unread_answer f j (is (bytes_per n))))

  only_one_unread : (tag : ℕ) (k : Kinds) (legal : ℕ) → OffTag tag → Unread f j (only_one d tag k legal)
  unfolding only_one
  only_one_unread tag k legal a = one_unread f d j heads (optional tag k 1) a 1 (range legal 1 1)

  layout_unread :
      (s : ℕ) → 1 ≤ s → OffTag bits_per_sample → OffTag compression → OffTag planar_configuration → OffTag sample_format →
      OffTag row_interleave_factor → OffTag column_interleave_factor → OffTag rows_per_strip →
      Unread f j (layout_reading d s)
  unfolding layout_reading format_reading strip_rows_reading
  layout_unread s some a b c e g h i =
      unread_bind f j (depth_reading d s) _ (depth_unread s some a) (λ x _.
      unread_bind f j (only_one d compression kinds.Short 0) _ (only_one_unread compression kinds.Short 0 b) (λ _ _.
      unread_bind f j (only_one d planar_configuration kinds.Short 0) _ (only_one_unread planar_configuration kinds.Short 0 c) (λ _ _.
      unread_bind f j (format_reading d s) _ (all_unread f d j heads (optional sample_format kinds.Short s) e (range 0 1 1)) (λ _ _.
      unread_bind f j (only_one d row_interleave_factor kinds.ShortOrLong 1) _ (only_one_unread row_interleave_factor kinds.ShortOrLong 1 g) (λ _ _.
      unread_bind f j (only_one d column_interleave_factor kinds.ShortOrLong 1) _ (only_one_unread column_interleave_factor kinds.ShortOrLong 1 h) (λ _ _.
      unread_bind f j (strip_rows_reading d) _
      (one_unread f d j heads (optional rows_per_strip kinds.ShortOrLong 1) i 4294967295 (range 1 1 0xFFFF_FFFF_FFFF_FFFF)) (λ r _.
      unread_answer f j _)))))))

  strips_unread : (size : ℕ) (v : Dimensions) (l : Layout) → OffTag strip_offsets → OffTag strip_byte_counts → Unread f j (strips_reading size d v l)
  unfolding strips_reading
  strips_unread size v l a b =
      let n = strip_count v l in
      unread_bind f j (values_reading d (offsets_rule v l)) _ (other_value_unread f d j heads (offsets_rule v l) a) (λ os eo.
      unread_bind f j (values_reading d (counts_rule v l)) _ (other_value_unread f d j heads (counts_rule v l) b) (λ cs ec.
      let p : Off j os.place (os.size * strip_count v l) =
      required_off j strip_offsets kinds.ShortOrLong os _ (values_off f d j (offsets_rule v l) os eo a) in
      let q : Off j cs.place (cs.size * strip_count v l) =
      required_off j strip_byte_counts kinds.ShortOrLong cs _ (values_off f d j (counts_rule v l) cs ec b) in
      unread_bind f j
      (strip_from size d.order os.size cs.size l.rows (row_bytes v l) (strip_count v l) os.place cs.place v.length) _
      (each_strip_unread f j size d.order os.size cs.size l.rows (row_bytes v l) (strip_count v l) os.place cs.place
      v.length p q)
      (λ _ _. unread_answer f j (is os))))

  area_unread : (v : Dimensions) → OffTag active_area → Unread f j (area_reading d v)
  unfolding area_reading four_reading
  area_unread v a =
      unread_bind f j (values_reading d (optional active_area kinds.ShortOrLong 4)) (four_reading d.order v)
      (other_value_unread f d j heads (optional active_area kinds.ShortOrLong 4) a)
      (λ x e. four x (values_off f d j (optional active_area kinds.ShortOrLong 4) x e a))
    where
      four : (x : Values) → ValuesOff j (optional active_area kinds.ShortOrLong 4) x → Unread f j (four_reading d.order v x)
      four x q =
          unread_pick f j (eqb x.count 0) (answer (is (area 0 0 v.length v.width))) _ (λ _. unread_answer f j _)
          (λ z. let some : x.count ≡ 0 → ⊥ = eqb-false _ _ z in
          let h : Off j x.place (x.size * 4) = exact_off j (optional active_area kinds.ShortOrLong 4) x 4 refl refl q (omega arith) in
          unread_then f j (number_at d.order x.place x.size) _
          (unread_number f j d.order x.place x.size (off_inside j x.place (x.size * 4) _ _ h (omega arith) (omega arith)))
          (unread_then f j (number_at d.order (x.place + x.size) x.size) _
          (unread_number f j d.order (x.place + x.size) x.size
          (off_inside j x.place (x.size * 4) _ _ h (omega arith) (omega arith)))
          (unread_then f j (number_at d.order (x.place + 2 * x.size) x.size) _
          (unread_number f j d.order (x.place + 2 * x.size) x.size
          (off_inside j x.place (x.size * 4) _ _ h (omega arith) (omega arith)))
          (unread_then f j (number_at d.order (x.place + 3 * x.size) x.size) _
          (unread_number f j d.order (x.place + 3 * x.size) x.size
          (off_inside j x.place (x.size * 4) _ _ h (omega arith) (omega arith)))
          (unread_answer f j _)))))

  repeat_unread : OffTag black_level_repeat_dim → Unread f j (repeat_reading d)
  unfolding repeat_reading pair_reading side_reading
  repeat_unread a =
      unread_bind f j (values_reading d (optional black_level_repeat_dim kinds.Short 2)) (pair_reading d.order)
      (other_value_unread f d j heads (optional black_level_repeat_dim kinds.Short 2) a)
      (λ x e. pair x (values_off f d j (optional black_level_repeat_dim kinds.Short 2) x e a))
    where
      side : (at size : ℕ) → Off j at size → Unread f j (side_reading d.order at size)
      side at size h =
          unread_then f j (number_at d.order at size) _ (unread_number f j d.order at size h) (unread_answer f j _)

      pair : (x : Values) → ValuesOff j (optional black_level_repeat_dim kinds.Short 2) x → Unread f j (pair_reading d.order x)
      pair x q =
          unread_pick f j (eqb x.count 0) _ _ (λ _. unread_answer f j _)
          (λ z. let some : x.count ≡ 0 → ⊥ = eqb-false _ _ z in
          let h : Off j x.place (x.size * 2) = exact_off j (optional black_level_repeat_dim kinds.Short 2) x 2 refl refl q (omega arith) in
          unread_bind f j (side_reading d.order x.place x.size) _
          (side x.place x.size (off_inside j x.place (x.size * 2) _ _ h (omega arith) (omega arith))) (λ m _.
          unread_bind f j (side_reading d.order (x.place + x.size) x.size) _
          (side (x.place + x.size) x.size (off_inside j x.place (x.size * 2) _ _ h (omega arith) (omega arith))) (λ n _.
          unread_answer f j _)))

  blacks_unread : (tag : ℕ) (k : BlackKind) (v : Values) → Off j v.place (v.size * v.count) →
      Unread f j (blacks_test d.order tag k v.size v.count v.place)
  unfolding blacks_test
  blacks_unread tag k v h = unread_ask f j v.place (v.size * v.count) _ h (unread_answer f j _)

  black_unread : (r : Repeat) (s : ℕ) → OffTag black_level → Unread f j (black_reading d r s)
  unfolding black_reading
  black_unread r s a =
      unread_bind f j (values_reading d (black_rule r s)) _ (other_value_unread f d j heads (black_rule r s) a) (λ v e.
      unread_bind f j (blacks_test d.order black_level (kind_for v.kind) v.size v.count v.place) _
      (blacks_unread black_level (kind_for v.kind) v (values_off f d j (black_rule r s) v e a).off) (λ _ _. unread_answer f j (is v)))

  delta_unread : (tag n : ℕ) → OffTag tag → Unread f j (delta_reading d tag n)
  unfolding delta_reading
  delta_unread tag n a =
      unread_bind f j (values_reading d (delta_rule tag n)) _ (other_value_unread f d j heads (delta_rule tag n) a) (λ v e.
      unread_bind f j (blacks_test d.order tag kind.SignedRational v.size v.count v.place) _
      (blacks_unread tag kind.SignedRational v (values_off f d j (delta_rule tag n) v e a).off) (λ _ _. unread_answer f j (is v)))

  level_tags_unread :
      (s rows columns : ℕ) → OffTag linearization_table → OffTag black_level_repeat_dim → OffTag black_level → OffTag black_level_delta_h →
      OffTag black_level_delta_v → OffTag white_level →
      Unread f j (level_tags_reading d s rows columns)
  unfolding level_tags_reading table_reading white_reading
  level_tags_unread s rows columns a b c e g h =
      unread_bind f j (table_reading d) _ (other_value_unread f d j heads table_rule a) (λ t _.
      unread_bind f j (repeat_reading d) _ (repeat_unread b) (λ r _.
      unread_bind f j (black_reading d r s) _ (black_unread r s c) (λ x _.
      unread_bind f j (delta_reading d black_level_delta_h columns) _ (delta_unread black_level_delta_h columns e) (λ cs _.
      unread_bind f j (delta_reading d black_level_delta_v rows) _ (delta_unread black_level_delta_v rows g) (λ rs _.
      unread_bind f j (white_reading d s) _ (all_unread f d j heads (white_rule s) h (range 0 0 65535)) (λ v _.
      unread_answer f j _))))))

  -- one of the values, and both
  whole_unread : (tag : ℕ) (v : Values) (at : ℕ) → Off j at v.size → (code_of v.kind ≡ 5 → v.size ≡ 8) →
      Unread f j (whole_number_reading d.order tag v at)
  unfolding whole_number_reading
  whole_unread tag v at h w =
      unread_pick f j (eqb (code_of v.kind) 5) _ _
      (λ e. let eight : v.size ≡ 8 = w (eqb-true _ _ e) in
      unread_then f j (number_at d.order at 4) _
      (unread_number f j d.order at 4 (off_inside j at v.size _ _ h (omega arith) (omega arith)))
      (unread_then f j (number_at d.order (at + 4) 4) _
      (unread_number f j d.order (at + 4) 4 (off_inside j at v.size _ _ h (omega arith) (omega arith)))
      (unread_answer f j _)))
      (λ _. unread_then f j (number_at d.order at v.size) _ (unread_number f j d.order at v.size h) (unread_answer f j _))

  lengths_unread : (tag : ℕ) (default : Lengths) → OffTag tag → Unread f j (lengths_reading d tag default)
  unfolding lengths_reading both_reading
  lengths_unread tag default a =
      unread_bind f j (values_reading d (lengths_rule tag)) (both_reading d.order tag default)
      (other_value_unread f d j heads (lengths_rule tag) a) (λ x e. both x (values_off f d j (lengths_rule tag) x e a))
    where
      both : (x : Values) → ValuesOff j (lengths_rule tag) x → Unread f j (both_reading d.order tag default x)
      both x q =
          unread_pick f j (eqb x.count 0) _ _ (λ _. unread_answer f j _)
          (λ z. let none : x.count ≡ 0 → ⊥ = eqb-false _ _ z in
          let some : 0 < x.count = omega arith in
          let h : Off j x.place (x.size * 2) = exact_off j (lengths_rule tag) x 2 refl refl q some in
          let w : code_of x.kind ≡ 5 → x.size ≡ 8 = λ e. q.typed some ∙ rational_width x.kind e in
          unread_bind f j (whole_number_reading d.order tag x x.place) _
          (whole_unread tag x x.place (off_inside j x.place (x.size * 2) _ _ h (omega arith) (omega arith)) w) (λ m _.
          unread_bind f j (whole_number_reading d.order tag x (x.place + x.size)) _
          (whole_unread tag x (x.place + x.size) (off_inside j x.place (x.size * 2) _ _ h (omega arith) (omega arith)) w) (λ n _.
          unread_answer f j _)))

  crop_unread : (rows columns : ℕ) → OffTag default_crop_origin → OffTag default_crop_size → Unread f j (crop_reading d rows columns)
  unfolding crop_reading
  crop_unread rows columns a b =
      unread_bind f j (lengths_reading d default_crop_origin (lengths 0 0)) _ (lengths_unread default_crop_origin (lengths 0 0) a) (λ o _.
      unread_bind f j (lengths_reading d default_crop_size (lengths columns rows)) _ (lengths_unread default_crop_size (lengths columns rows) b)
      (λ s _. unread_answer f j _))

  -- of OpcodeList1 and OpcodeList3 no value is read, of the list its offset
  list_unread : reads (offset_in f d opcode_list2) j ≡ false → Unread f j (list_tag_reading d)
  unfolding list_tag_reading
  list_unread a =
      unread_bind f j (not_carried d opcode_list1) _ (not_carried_unread f d j heads opcode_list1) (λ _ _.
      unread_bind f j (not_carried d opcode_list3) _ (not_carried_unread f d j heads opcode_list3) (λ _ _.
      list_tag_unread f d j heads list_rule refl a))

  -- a byte that lies in no tag, type or count of the entries, in no value of these tags and not in the list's offset is not read for
  -- the raw directory's tags
  pub tags_unread :
      (size : ℕ) → ((tag : ℕ) → has_key raw_tags tag ≡ true → reads (value_in f d tag) j ≡ false) →
      reads (offset_in f d opcode_list2) j ≡ false → Unread f j (tags_reading size d)
  unfolding tags_reading
  tags_unread size value list =
      unread_bind f j (frame_reading d) _
      (frame_unread (value image_width refl) (value image_length refl) (value photometric_interpretation refl)
      (value samples_per_pixel refl)) (λ v ev.
      unread_bind f j (layout_reading d v.samples) _
      (layout_unread v.samples (frame_in f d v ev).some_samples (value bits_per_sample refl) (value compression refl) (value planar_configuration refl)
      (value sample_format refl)
      (value row_interleave_factor refl) (value column_interleave_factor refl) (value rows_per_strip refl)) (λ l _.
      unread_bind f j (strips_reading size d v l) _ (strips_unread size v l (value strip_offsets refl) (value strip_byte_counts refl)) (λ s _.
      unread_bind f j (area_reading d v) _ (area_unread v (value active_area refl)) (λ a _.
      unread_bind f j (level_tags_reading d v.samples (active_rows a) (active_columns a)) _
      (level_tags_unread v.samples (active_rows a) (active_columns a) (value linearization_table refl) (value black_level_repeat_dim refl)
      (value black_level refl)
      (value black_level_delta_h refl) (value black_level_delta_v refl) (value white_level refl)) (λ x _.
      unread_bind f j (crop_reading d (active_rows a) (active_columns a)) _
      (crop_unread (active_rows a) (active_columns a) (value default_crop_origin refl) (value default_crop_size refl)) (λ c _.
      unread_bind f j (list_tag_reading d) _ (list_unread list) (λ o _.
      unread_answer f j _)))))))
