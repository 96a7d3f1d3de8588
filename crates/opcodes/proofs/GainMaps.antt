-- A GainMap's rules and refusals by the code's tests.
-- Assumes nothing.
use Rattle.std.proofs.Common.{◌≡◌, ℕ, ◌+◌, ◌*◌, ◌<◌, ◌≤◌, Bool, true, false, ◌&&◌, ◌||◌, T, eqb, leb, List, length, sym, refl, ap, ◌∙◌, true≢false}
use Rattle.std.proofs.Common.{arith, eq-eqb, ne_eqb, eqb-true, le-leb, leb-false, leb-true}
use borrow.Author.Tests.{lt-leb}
use lib.Ieee.{Float, nan, inf, fin, binary64, lt, of_bits, nan_bits, is_nan}
use lib.Ieee.Bits.{nan_bits_is}
use lib.Ieee.Positive.{positive}
use Rattle.reading.specs.Bytes.{part}
use Rattle.reading.specs.Number.{number_of}
use Rattle.reading.specs.Reading.{pick}
use Rattle.reading.specs.declared.number.Order.TheVariants.{Big}
use Rattle.levels.specs.Clip.{plus_zero}
use Rattle.opcodes.specs.Grid.{long_of, grid_of, fits_of}
use Rattle.opcodes.specs.Facts.Grid.{FitsIn}
use Rattle.opcodes.specs.Step.{double_in}
use Rattle.opcodes.specs.GainMap.{planes_in, gains_in, above_at, axis_legal, gain_map_legal}
use Rattle.opcodes.specs.Facts.Bracket.{GainMapIn}
use Rattle.opcodes.specs.OpcodeList.{refused_at, refused_in, plain_fault, gain_map_fault, opcode_fault}
use Rattle.opcodes.specs.declared.grid.Size.{Size}
use Rattle.opcodes.proofs.OpcodeLists.{and-true, fits_in}
use Rattle.opcodes.proofs.Places.{or-false, real_finite, real_positive}

-- ---- the rules: a NaN is not above 0
not_above : (x : Float) → is_nan x ≡ true → lt plus_zero x ≡ false
unfolding lt is_nan
not_above nan h = refl
not_above (inf s) h = absurd (true≢false (sym h))
not_above (fin s m e) h = absurd (true≢false (sym h))

pub nan_not_above : (n : ℕ) → nan_bits binary64 n ≡ true → false ≡ lt plus_zero (of_bits binary64 n)
nan_not_above n h = sym (not_above (of_bits binary64 n) (sym (nan_bits_is binary64 n) ∙ h))

module _ (n : ℕ) (a : Bool) where
  abbrev Rule : Bool
  Rule = leb 1 n && (leb n 64 && (eqb n 1 || a))

  axis_in : Rule ≡ true → (1 ≤ n) × (n ≤ 64) × (1 < n → a ≡ true)
  axis_in e =
      let b = and-true (leb 1 n) (leb n 64 && (eqb n 1 || a)) e in
      let c = and-true (leb n 64) (eqb n 1 || a) b.1 in
      (leb-true 1 n b.0, leb-true n 64 c.0, λ h. rw (ne_eqb n 1 (λ q. omega arith)) at c.1)

module _ (ps : List ℕ) where
  abbrev first : Bool
  first = axis_legal ps 32 40

  abbrev second : Bool
  second = axis_legal ps 36 48

  pub record Legal : Type 0 where
    pub down : (1 ≤ long_of ps 32) × (long_of ps 32 ≤ 64) × (1 < long_of ps 32 → above_at ps 40 ≡ true)
    pub across : (1 ≤ long_of ps 36) × (long_of ps 36 ≤ 64) × (1 < long_of ps 36 → above_at ps 48 ≡ true)
    pub planes : 1 ≤ planes_in ps

  pub legal_in : gain_map_legal ps ≡ true → Legal
  unfolding gain_map_legal
  legal_in e =
      let a = and-true first (second && leb 1 (planes_in ps)) e in
      let b = and-true second (leb 1 (planes_in ps)) a.1 in
      record {
        down = axis_in (long_of ps 32) (above_at ps 40) a.0;
        across = axis_in (long_of ps 36) (above_at ps 48) b.0;
        planes = leb-true 1 (planes_in ps) b.1;
      }

-- ---- the refusal
module _ (z : Size) (ps : List ℕ) where
  abbrev bytes : ℕ
  bytes = 76 + 4 * gains_in ps

  abbrev wrong : Bool
  wrong = refused_in 8 ps 40 4 || refused_in 4 ps 76 (gains_in ps)

  pub map_short : length ps < 76 → 10 ≡ gain_map_fault z ps
  unfolding gain_map_fault pick
  map_short h = rw (lt-leb 76 (length ps) h)

  module _ (h : 76 ≤ length ps) where
    pub map_grid : fits_of z (grid_of ps) ≡ false → 10 ≡ gain_map_fault z ps
    unfolding gain_map_fault pick
    map_grid a = rw (le-leb 76 (length ps) h, a)

    module _ (a : fits_of z (grid_of ps) ≡ true) where
      pub map_illegal : gain_map_legal ps ≡ false → 10 ≡ gain_map_fault z ps
      unfolding gain_map_fault pick
      map_illegal b = rw (le-leb 76 (length ps) h, a, b)

      module _ (b : gain_map_legal ps ≡ true) where
        map_inexact : eqb (length ps) bytes ≡ false → 10 ≡ gain_map_fault z ps
        unfolding gain_map_fault pick
        map_inexact c = rw (le-leb 76 (length ps) h, a, b, c)

        map_numbers : eqb (length ps) bytes ≡ true → pick wrong 12 0 ≡ gain_map_fault z ps
        unfolding gain_map_fault pick
        map_numbers c = rw (le-leb 76 (length ps) h, a, b, c)

        -- of a number of gains that was counted
        module _ (n : ℕ) (k : n ≡ gains_in ps) where
          pub map_other : (length ps ≡ 76 + 4 * n → ⊥) → 10 ≡ gain_map_fault z ps
          map_other c = map_inexact (ne_eqb (length ps) bytes (λ e. c (e ∙ ap (λ (m : ℕ). 76 + 4 * m) (sym k))))

          pub map_read : length ps ≡ 76 + 4 * n → (r : Bool) → r ≡ (refused_in 8 ps 40 4 || refused_in 4 ps 76 n) →
              pick r 12 0 ≡ gain_map_fault z ps
          map_read c r e =
              let w : r ≡ wrong = e ∙ ap (λ (m : ℕ). refused_in 8 ps 40 4 || refused_in 4 ps 76 m) k in
              ap (λ (b : Bool). pick b 12 0) w ∙ map_numbers (eq-eqb (length ps) bytes (c ∙ ap (λ (m : ℕ). 76 + 4 * m) k))

  -- ---- what an accepted map's parameters are
  pub record MapAccepted : Type 0 where
    pub grid : FitsIn z (grid_of ps)
    pub map : GainMapIn ps

  sound : refused_in 8 ps 40 4 ≡ false → (refused_at 8 ps 40 ≡ false) × (refused_at 8 ps 48 ≡ false)
  unfolding refused_in
  sound h =
      let a = or-false (refused_at 8 ps 40) (refused_in 8 ps 48 3) h in
      (a.0, (or-false (refused_at 8 ps 48) (refused_in 8 ps 56 2) a.1).0)

  above_in : (p : ℕ) → refused_at 8 ps p ≡ false → above_at ps p ≡ true → T (positive (double_in ps p))
  unfolding pick
  above_in p h a = real_positive binary64 (number_of Big (part ps p 8)) h a

  numbers_in_law : Legal ps → wrong ≡ false → length ps ≡ bytes → GainMapIn ps
  numbers_in_law l w n =
      let s = sound (or-false (refused_in 8 ps 40 4) (refused_in 4 ps 76 (gains_in ps)) w).0 in
      record {
        down =
            record {
              some = l.down.0;
              most = l.down.1;
              origin = real_finite binary64 (number_of Big (part ps 56 8));
              spacing = λ h. above_in 40 s.0 (l.down.2 h);
            };
        across =
            record {
              some = l.across.0;
              most = l.across.1;
              origin = real_finite binary64 (number_of Big (part ps 64 8));
              spacing = λ h. above_in 48 s.1 (l.across.2 h);
            };
        planes = l.planes;
        inside = omega arith;
      }

  pub map_accepted : gain_map_fault z ps ≡ 0 → MapAccepted
  unfolding pick
  map_accepted e = go (leb 76 (length ps)) (fits_of z (grid_of ps)) (gain_map_legal ps) (eqb (length ps) bytes) wrong refl refl refl refl refl
    where
      no : (n : ℕ) → n ≡ gain_map_fault z ps → 0 < n → ⊥
      no n h k = let q : n ≡ 0 = h ∙ e in omega arith

      go : (a b c d r : Bool) → leb 76 (length ps) ≡ a → fits_of z (grid_of ps) ≡ b → gain_map_legal ps ≡ c → eqb (length ps) bytes ≡ d →
          wrong ≡ r → MapAccepted
      go false b c d r h k l m w = absurd (no 10 (map_short (leb-false 76 (length ps) h)) (omega arith))
      go true false c d r h k l m w = absurd (no 10 (map_grid (leb-true 76 (length ps) h) k) (omega arith))
      go true true false d r h k l m w = absurd (no 10 (map_illegal (leb-true 76 (length ps) h) k l) (omega arith))
      go true true true false r h k l m w = absurd (no 10 (map_inexact (leb-true 76 (length ps) h) k l m) (omega arith))
      go true true true true true h k l m w =
          let e = map_numbers (leb-true 76 (length ps) h) k l m in
          absurd (no 12 (sym (ap (λ (r : Bool). pick r 12 0) w) ∙ e) (omega arith))
      go true true true true false h k l m w =
          record { grid = fits_in z (grid_of ps) k; map = numbers_in_law (legal_in ps l) w (eqb-true (length ps) bytes m) }

-- ---- by the id
module _ (z : Size) (id : ℕ) (ps : List ℕ) where
  pub fault_map : id ≡ 9 → gain_map_fault z ps ≡ opcode_fault z id ps
  unfolding opcode_fault pick
  fault_map e = rw (eq-eqb id 9 e)

  pub fault_plain : (id ≡ 9 → ⊥) → plain_fault z id ps ≡ opcode_fault z id ps
  unfolding opcode_fault pick
  fault_plain e = rw (ne_eqb id 9 e)
