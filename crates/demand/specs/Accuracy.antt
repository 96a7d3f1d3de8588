-- "How far off can a level be?": two claims about the levels of an accepted file f.
use Rattle.std.specs.Prelude.{◌≡◌, false, List, ℕ, pos}
use Rattle.std.specs.Int.Signed.{le_z}
use Rattle.directory.specs.Out.{Out.is}
use Rattle.levels.specs.Level.{scaled_of}
use Rattle.levels.specs.Levels.{Levels, difference_at, span_of, level_at}
use Rattle.levels.specs.Accuracy.{WithinHalfAStep, InStoredOrder}
use Rattle.raw.specs.Sample.{stored_at, ActiveIn}
use Rattle.develop.specs.Calls.{Opened, opened, tags_of, scaled_in}

-- what its level tags say
abbrev pub levels_of : Opened → Levels
levels_of o = o.stored.levels

-- the stored number of an active sample
abbrev pub stored_in : List ℕ → Opened → ℕ → ℕ → ℕ → ℕ
stored_in f o r c p = stored_at f o.picture.order (tags_of o) o.stored.offsets r c p

-- at every active row, column and plane
pub record AccurateLevels (f : List ℕ) (o : Opened) : Type 0 where
  -- L is the one that the calls use: a sample's scaled value is made of it
  pub used : (r c p : ℕ) → ActiveIn (tags_of o) r c p → scaled_in f o r c p ≡ scaled_of (level_at (levels_of o) r c p (stored_in f o r c p))
  -- S is positive, so that 65535 D / S is a number
  pub spans : (r c p : ℕ) → ActiveIn (tags_of o) r c p → le_z (span_of (levels_of o) p) (pos 0) ≡ false
  -- L is within half a step of 65535 D / S, for the sample that is stored there and for any other
  pub near :
      (r c p : ℕ) → ActiveIn (tags_of o) r c p → (v : ℕ) →
      WithinHalfAStep (difference_at (levels_of o) r c p v) (span_of (levels_of o) p) (level_at (levels_of o) r c p v)
  -- where the table never falls, a larger stored sample never gives a smaller L
  pub ordered : (r c p : ℕ) → ActiveIn (tags_of o) r c p → InStoredOrder (levels_of o) r c p

-- the claims, of whatever the tests before 13 accept
abbrev pub HasAccurateLevels : List ℕ → Type 0
HasAccurateLevels f = (o : Opened) → is o ≡ opened f → AccurateLevels f o
