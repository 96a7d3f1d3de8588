-- The tests of the black levels and the white levels.
-- Assumes nothing.
use Rattle.std.specs.Prelude.{Result, Ok, Err}
use Rattle.directory.specs.Facts.Out.{out}
use Rattle.directory.specs.Names.{white_level}
use mathlib.Core.Path.{◌≡◌, sym, ap, subst, ◌∙◌}
use mathlib.Core.List.{List}
use mathlib.Core.Bool.{true}
use mathlib.Core.Logic.{⊎_elim}
use Prim.Native.Nat.{ℕ, ◌+◌, ◌*◌, ◌≤◌, ◌<◌}
use native.Mathlib.Omega.{arith}
use lib.ListN.{length}
use Rattle.levels.proofs.Runs.{within, run_same}
use Rattle.reading.specs.Bytes.{part}
use Rattle.reading.specs.Number.{number_of}
use Rattle.reading.specs.Reading.{run, pick}
use Rattle.reading.specs.declared.number.Order.{Order}
use Rattle.levels.specs.declared.black.BlackKind.{BlackKind}
use Rattle.levels.specs.declared.black.BlackKind.TheVariants as kind
use Rattle.reading.proofs.Bytes.{part_part}
use Rattle.reading.proofs.Reading.{running, run_answer}
use Rattle.directory.specs.Out.{Out.is}
use Rattle.directory.specs.Entry.{kind_width}
use Rattle.directory.specs.declared.entry.Kind.{Kind}
use Rattle.directory.proofs.Tags.{number_or_fraction}
use Rattle.directory.specs.Tag.{allows_of, range, all_reading}
use Rattle.directory.specs.Facts.Tag.{ValuesIn}
use Rattle.directory.specs.declared.Ifd.{Ifd}
use Rattle.directory.specs.declared.tag.Kinds.TheVariants as kinds
use Rattle.directory.specs.declared.tag.Values.{Values}
use Rattle.directory.proofs.Outs.{bind_inverse}
use Rattle.levels.specs.Run.{run_of}
use Rattle.levels.specs.Black.{black_of, width_of, value_of, black_at, first_refused}
use Rattle.levels.specs.declared.black.BlackFault.{BlackFault}
use Rattle.rawtags.specs.Black.{kind_for, black_out, blacks_test}
use Rattle.rawtags.specs.White.{white_reading, white_rule}
use Rattle.rawtags.specs.Facts.White.{WhitesIn}
use Rattle.rawtags.proofs.Ranges.{each_to}
use Rattle.directory.specs.declared.refusal.Refusal.{Refusal}

-- the bytes of the type
pub width_for : (k : Kind) → allows_of kinds.ShortLongOrRational k ≡ true → kind_width k ≡ width_of (kind_for k)
unfolding kind_for pick kind_width
width_for k h = ⊎_elim (λ e. rw e) (λ q. ⊎_elim (λ r. ⊎_elim (λ e. rw e) (λ e. rw e) r) (λ e. rw e) q) (number_or_fraction k h)

pub width_most : (k : BlackKind) → width_of k ≤ 8
width_most kind.Short = omega arith
width_most kind.Long = omega arith
width_most kind.Long8 = omega arith
width_most kind.Rational = omega arith
width_most kind.SignedRational = omega arith

module _ (f : List ℕ) (o : Order) (k : BlackKind) (size n p : ℕ) (sized : 0 < n → size ≡ width_of k) where
  -- a tag's values are the same in its bytes and in the file
  same_run : run_of (black_at k o (part f p (size * n))) size 0 n ≡ run_of (black_at k o f) size p n
  unfolding black_at
  same_run = run_same (black_at k o (part f p (size * n))) (black_at k o f) size size 0 p n
      (λ i h.
      let e : size ≡ width_of k = sized (omega arith) in
      let b : 0 + size * i + width_of k ≤ size * n = omega (arith, within size n i h) in
      let g : p + (0 + size * i) ≡ p + size * i = omega arith in
      ap (λ (bs : List ℕ). black_of (value_of k o bs))
      (part_part f p (size * n) (0 + size * i) (width_of k) b ∙ ap (λ (q : ℕ). part f q (width_of k)) g))

  pub blacks_test_law : (tag : ℕ) (b : Result (Unit {0}) BlackFault) → b ≡ first_refused (run_of (black_at k o f) size p n) →
      black_out tag b ≡ run f (blacks_test o tag k size n p)
  unfolding blacks_test
  blacks_test_law tag b e = ap (black_out tag) (e ∙ sym (ap first_refused same_run)) ∙ sym (simp running)

-- the white levels
same_value : (v u : Values) → is v ≡ is u → v ≡ u
same_value v u e = cc

abbrev Most : List ℕ → Order → Values → Type 0
Most f o v = (i : ℕ) → i < v.count → number_of o (part f (v.place + v.size * i) v.size) ≤ 65535

pub whites_in : (f : List ℕ) (d : Ifd) (s : ℕ) (r : Result Values Refusal) →
    out r ≡ run f (white_reading d s) → ValuesIn (length f) (white_rule s) r → WhitesIn f d.order (white_rule s) r
unfolding white_reading all_reading
whites_in f d s (Err n) e q = tt
whites_in f d s (Ok v) e q =
    let a = bind_inverse f _ _ v e in
    let b = bind_inverse f _ _ v a.2 in
    let u : Values = a.0 in
    let same : v ≡ u = same_value v u (b.2 ∙ run_answer f _) in
    record {
      placed = q;
      most = subst (Most f d.order) (sym same)
          (λ i l. each_to f d.order u.size white_level (range 0 0 65535) b.0 u.count i u.place b.1 l);
    }
