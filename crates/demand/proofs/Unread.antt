-- What is not read of an accepted file: a stored sample outside the active area for no active sample; a byte that is in no directory
-- visited and in no value that is tested there for no test up to 9, nor for what every sample needs.
-- Assumes nothing.
use mathlib.Core.Path.{◌≡◌, sym, subst, ◌∙◌}
use mathlib.Core.Bool.{false}
use mathlib.Core.List.{List}
use Prim.Native.Nat.{ℕ, ◌+◌, ◌≤◌, ◌<◌}
use lib.ListN.{length}
use Rattle.reading.specs.Reading.{trace, reads, trace_whole}
use Rattle.reading.proofs.Unread.{Unread}
use Rattle.directory.specs.Out.{Out.is}
use Rattle.directory.specs.Tree.{tree_reading}
use Rattle.directory.specs.declared.tree.Roots.{Roots}
use Rattle.directory.proofs.Outs.{same_value}
use Rattle.rawtags.specs.Facts.Area.{AreaWithin}
use Rattle.raw.specs.Stored.{stored_reading}
use Rattle.raw.specs.Front.{front_reading}
use Rattle.raw.specs.Sample.{ActiveIn}
use Rattle.raw.proofs.Accepted.{Found, front_found, front_accepted}
use Rattle.rawtags.proofs.AcceptedFrame.{tags_frame}
use Rattle.raw.proofs.Unread as samples
use Rattle.raw.proofs.FrontUnread.{RawClear, stored_unread, front_unread}
use Rattle.develop.specs.Calls.{Opened, opened, tags_of}
use Rattle.demand.specs.Demand.{stored_place, IsSample, NotInTags, NotInList, NotInSample, UnreadButSample}
use Rattle.develop.proofs.Views.{open_inverse}

-- how an accepted file's tags were found
found : (f : List ℕ) (o : Opened) → is o ≡ opened f → Found f o.picture
found f o e = front_found f o.picture (open_inverse f o e).front

-- ---- stored samples
module _ (f : List ℕ) (o : Opened) (e : is o ≡ opened f) (apart : samples.StripsApart (tags_of o) o.stored.offsets) where
  some_rows : 1 ≤ (tags_of o).layout.rows
  some_rows = (front_accepted f o.picture (open_inverse f o e).front).rows

  active : AreaWithin (tags_of o).frame (tags_of o).area
  active = (tags_frame f (length f) (found f o e).roots.raw (tags_of o) (found f o e).tags).1

  -- where strips do not overlap, a byte of a stored sample is read for no other active sample
  pub other_sample_unread :
      (r₀ c₀ p₀ : ℕ) → samples.StoredIn (tags_of o) r₀ c₀ p₀ →
      (i : ℕ) → stored_place o r₀ c₀ p₀ ≤ i → i < stored_place o r₀ c₀ p₀ + (tags_of o).layout.bytes →
      (r c p : ℕ) → ActiveIn (tags_of o) r c p → (IsSample o r₀ c₀ p₀ r c p → ⊥) → NotInSample f o i r c p
  other_sample_unread r₀ c₀ p₀ k i l u r c p a other =
      samples.sample_unread (tags_of o) some_rows o.stored.offsets active apart r₀ c₀ p₀ k i l u r c p a
      (λ q. other ((q.0, q.1), q.2))

  -- one of a sample outside the active area for none
  pub outside_unread :
      (r₀ c₀ p₀ : ℕ) → samples.StoredIn (tags_of o) r₀ c₀ p₀ →
      ((tags_of o).area.top ≤ r₀ → r₀ < (tags_of o).area.bottom → (tags_of o).area.left ≤ c₀ → c₀ < (tags_of o).area.right → ⊥) →
      (i : ℕ) → stored_place o r₀ c₀ p₀ ≤ i → i < stored_place o r₀ c₀ p₀ + (tags_of o).layout.bytes →
      (r c p : ℕ) → ActiveIn (tags_of o) r c p → NotInSample f o i r c p
  outside_unread r₀ c₀ p₀ k out i l u r c p a =
      samples.outside_unread (tags_of o) some_rows o.stored.offsets active apart r₀ c₀ p₀ k out i l u r c p a

  -- so what a change of one stored sample asks is that no tag's test and no list reads its bytes
  pub sample_alone :
      (r₀ c₀ p₀ : ℕ) → samples.StoredIn (tags_of o) r₀ c₀ p₀ →
      ((i : ℕ) → stored_place o r₀ c₀ p₀ ≤ i → i < stored_place o r₀ c₀ p₀ + (tags_of o).layout.bytes →
      NotInTags f o i × NotInList f o i) →
      UnreadButSample f o r₀ c₀ p₀
  sample_alone r₀ c₀ p₀ k h i l u = ((h i l u).0, (h i l u).1, other_sample_unread r₀ c₀ p₀ k i l u)

-- ---- directories and tags
module _ (f : List ℕ) (o : Opened) (e : is o ≡ opened f) where
  -- a byte that the walk to the raw directory does not read, and that is clear of it and its tags' values: not read for the tests up to
  -- 9, nor for what every sample needs
  pub other_value_unread :
      (i : ℕ) → Unread f i (tree_reading (length f)) → RawClear f i o.picture.directory →
      (reads (trace_whole f front_reading) i ≡ false) × (reads (trace f (stored_reading o.picture.order (tags_of o))) i ≡ false)
  other_value_unread i h c =
      let k : RawClear f i (found f o e).roots.raw = subst (RawClear f i) (found f o e).directory c in (
        front_unread f i (length f) h (λ r q.
            subst (λ (x : Roots). RawClear f i x.raw) (same_value (found f o e).roots r ((found f o e).tree ∙ sym q)) k),
        stored_unread f i (found f o e).roots.raw k (length f) o.picture.order (tags_of o) (found f o e).tags,
      )
