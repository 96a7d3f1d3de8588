-- The card of an accepted file.
-- Assumes nothing.
use mathlib.Core.Path.{◌≡◌, refl}
use mathlib.Core.List.{List}
use Prim.Native.Nat.{ℕ}
use Rattle.develop.specs.Facts.View.{Viewed}
use Rattle.develop.specs.declared.View.{View}
use Rattle.std.specs.Prelude.{Ok}
use Rattle.demand.specs.Card.{card_with, card_call}

pub card_viewed : (f : List ℕ) (v : View) → Viewed f v →
    card_with
    (Ok
    (record {
      rows = v.size.rows;
      columns = v.size.columns;
      samples = v.size.samples;
      kept = v.counts.kept;
      skipped = v.counts.skipped;
      crop = v.picture.raw.tags.crop;
    }))
    ≡ card_call f
card_viewed f v h = rw (← h.accepted, h.picture, h.size, h.kept, h.skipped) refl
