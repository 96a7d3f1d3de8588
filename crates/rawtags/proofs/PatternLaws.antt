-- The places of the mosaic's pattern.
-- Assumes nothing.
use Rattle.directory.specs.Names.{cfa_pattern}
use mathlib.Core.Path.{◌≡◌, refl, sym, ◌∙◌, subst}
use mathlib.Core.Bool.{Bool, true, false, ◌&&◌}
use mathlib.Core.List.{List}
use Prim.Native.Nat.{ℕ, ◌+◌, ◌<◌}
use native.Mathlib.Omega.{arith}
use lib.Dec.{eqb}
use borrow.Author.Tests.{eq-eqb}
use Rattle.reading.specs.Bytes.{part}
use Rattle.reading.specs.Number.{number_of}
use Rattle.reading.specs.Reading.{run, pick}
use Rattle.reading.specs.declared.number.Order.{Order}
use Rattle.reading.proofs.Reading.{running, run_answer, pick_yes}
use Rattle.directory.specs.Out.{Out.refused, Out.is}
use Rattle.directory.specs.declared.Ifd.{Ifd}
use Rattle.directory.specs.declared.tag.Values.{Values}
use Rattle.directory.specs.declared.tag.Kinds.TheVariants as kinds
use Rattle.directory.specs.Tag.{values_reading, required}
use Rattle.directory.proofs.Outs.{bind_inverse, same_value, not_refused}
use Rattle.rawtags.specs.Pattern.{times_of, first_of, last_of, places_of, four_colours_reading}
use Rattle.rawtags.specs.Pattern.{repeat_dim_reading, cfa_pattern_reading, plane_color_reading, cfa_layout_reading, pattern_reading}
use Rattle.rawtags.specs.Facts.Pattern.{PatternIn}
use Rattle.rawtags.specs.declared.pattern.Pattern.{Pattern}

-- one of four numbers, all of them places of a block
pick_below : (p q r : Bool) (a b c d : ℕ) → a < 4 → b < 4 → c < 4 → d < 4 → pick p a (pick q b (pick r c d)) < 4
unfolding pick
pick_below true q r a b c d x y z w = x
pick_below false true r a b c d x y z w = y
pick_below false false true a b c d x y z w = z
pick_below false false false a b c d x y z w = w

module _ (a b c d : ℕ) where
  pub places_are :
      times_of 0 a b c d ≡ 1 → times_of 1 a b c d ≡ 2 → times_of 2 a b c d ≡ 1 → (r s t u : ℕ) →
      r ≡ first_of 0 a b c → s ≡ first_of 1 a b c →
      t ≡ last_of 1 b c d → u ≡ first_of 2 a b c → is (record { red = r; green1 = s; green2 = t; blue = u }) ≡ places_of a b c d
  unfolding places_of
  places_are x y z r s t u er es et eu = simp (eq-eqb _ _ x, eq-eqb _ _ y, eq-eqb _ _ z, er, es, et, eu, pick_yes)

  first_below : (x : ℕ) → first_of x a b c < 4
  unfolding first_of
  first_below x = pick_below (eqb a x) (eqb b x) (eqb c x) 0 1 2 3 (omega arith) (omega arith) (omega arith) (omega arith)

  last_below : (x : ℕ) → last_of x b c d < 4
  unfolding last_of
  last_below x = pick_below (eqb d x) (eqb c x) (eqb b x) 3 2 1 0 (omega arith) (omega arith) (omega arith) (omega arith)

  -- whatever is carried has its places in the block
  places_below : (p : Pattern) → is p ≡ places_of a b c d → PatternIn p
  unfolding places_of pick
  places_below p = go (eqb (times_of 0 a b c d) 1 && (eqb (times_of 1 a b c d) 2 && eqb (times_of 2 a b c d) 1))
    where
      v : Pattern
      v = record { red = first_of 0 a b c; green1 = first_of 1 a b c; green2 = last_of 1 b c d; blue = first_of 2 a b c }

      go : (t : Bool) → is p ≡ pick t (is v) (refused 8 cfa_pattern) → PatternIn p
      go true e =
          subst PatternIn (sym (same_value p v e))
          (record { red = first_below 0; green1 = first_below 1; green2 = last_below 1; blue = first_below 2 })
      go false e = absurd (not_refused p 8 cfa_pattern e)

four_bytes : (f : List ℕ) (o : Order) (v : Values) (a b c d : ℕ) → a ≡ number_of o (part f v.place 1) →
    b ≡ number_of o (part f (v.place + 1) 1) → c ≡ number_of o (part f (v.place + 2) 1) → d ≡ number_of o (part f (v.place + 3) 1) →
    places_of a b c d ≡ run f (four_colours_reading o v)
unfolding four_colours_reading
four_bytes f o v a b c d ea eb ec ed = simp (running, ← ea, ← eb, ← ec, ← ed)

-- the places of a pattern that was read
pub pattern_below : (f : List ℕ) (d : Ifd) (p : Pattern) → is p ≡ run f (pattern_reading d) → PatternIn p
unfolding pattern_reading cfa_pattern_reading
pattern_below f d p e =
    let v = bind_inverse f (repeat_dim_reading d) _ p e in
    let c = bind_inverse f (cfa_pattern_reading d) _ p v.2 in
    let a = bind_inverse f (plane_color_reading d) _ p c.2 in
    let b = bind_inverse f (cfa_layout_reading d) _ p a.2 in
    let q : p ≡ c.0 = same_value p c.0 (b.2 ∙ run_answer f _) in
    let g = bind_inverse f (values_reading d (required cfa_pattern kinds.Byte 4)) (four_colours_reading d.order) c.0 c.1 in
    subst PatternIn (sym q) (places_below _ _ _ _ c.0 (g.2 ∙ sym (four_bytes f d.order g.0 _ _ _ _ refl refl refl refl)))
