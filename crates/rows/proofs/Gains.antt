-- A GainMap over a part of a row, and at one sample.
-- Assumes nothing.
use mathlib.Core.Path.{◌≡◌, refl, sym, ap, ◌∙◌, subst}
use mathlib.Core.Bool.{Bool, true, false}
use mathlib.Core.List.{List}
use Prim.Native.Nat.{ℕ, ◌+◌, ◌-◌, ◌*◌, ◌/◌, ◌%◌, ◌≤◌, ◌<◌, min}
use native.Mathlib.Nat.{le-div_iff_mul-le, add-mul, one-mul}
use native.Mathlib.Omega.{arith}
use borrow.Author.Tests.{eq-eqb, ne_eqb}
use lib.Ieee.{Float, nan, binary64, mul}
use lib.ListN.{length, get_or}
use Rattle.reading.specs.Bytes.{part}
use Rattle.reading.specs.Reading.{pick}
use Rattle.reading.proofs.Reading.{pick_yes, pick_no}
use Rattle.levels.specs.Clip.{clip_of}
use Rattle.opcodes.specs.Grid.{every_of, lines_of, on_of, grid_of}
use Rattle.opcodes.specs.Facts.Grid.{FitsIn}
use Rattle.opcodes.specs.GainMap.{down_of, planes_in, gain_map_of, gain_of}
use Rattle.opcodes.specs.Facts.Bracket.{GainMapIn, BracketOf, gain_in}
use Rattle.opcodes.specs.Opcode.{opcode_at, act_of}
use Rattle.opcodes.specs.Step.{result_of, applied_of}
use Rattle.opcodes.specs.OpcodeList.{gain_map_fault, opcode_kind}
use Rattle.opcodes.specs.declared.grid.Size.{Size}
use Rattle.opcodes.specs.declared.grid.Grid.{Grid}
use Rattle.opcodes.specs.declared.list.Header.{Header}
use Rattle.opcodes.specs.declared.gain_map.Bracket.{Bracket}
use Rattle.opcodes.specs.declared.step.Step.TheVariants.{Scale}
use Rattle.rows.specs.declared.gain_map.Columns.{Columns}
use Rattle.opcodes.proofs.OpcodeLists.{own_grid}
use Rattle.opcodes.proofs.StepLaws.{on_in, plain_listed}
use Rattle.opcodes.proofs.BracketLaws.{gain_in_law}
use Rattle.opcodes.proofs.GainMaps.{map_accepted, fault_map, fault_plain}
use Rattle.rows.specs.Facts.Sweep.{planes_of, over_part}
use Rattle.rows.specs.Facts.GainMap.{ColumnsIn, times_gain, gain_line}
use Rattle.rows.specs.Facts.Part.{KeptIn, PlainIn, kept_of, gained_of}
use Rattle.samples.proofs.Eaches.{each_same, each_none}
use Rattle.rows.proofs.GridColumns.{whole}
use Rattle.rows.proofs.Sweeps.{every_told, nth_tell, nth_number}

-- ---- what the loops go by: the gains along a row of map plane p
abbrev pub along : List ℕ → Bracket → ℕ → ℕ → ℕ → ℕ → ℕ → ℕ → Float → Float
along ps down plane width left pitch p j x = times_gain ps down (min (p - plane) (planes_in ps - 1)) width (left + j * pitch) x

-- ---- the active columns of a grid's columns
-- one of the grid is below its right end
pub column_below : (left right pitch j : ℕ) → 0 < pitch → j < lines_of left right pitch → left + j * pitch < right
column_below left right pitch j p h =
    let q : (j + 1) * pitch ≤ right - left + (pitch - 1) = (le-div_iff_mul-le p).0
    (let s : j + 1 ≤ lines_of left right pitch = omega arith in s) in
    omega (arith, add-mul j 1 pitch, one-mul pitch)

-- the n-th of them is one of the active area
pub column_inside : (s : Columns) (width len : ℕ) → ColumnsIn s width len → (n : ℕ) → s.places.first + n * s.places.pitch < s.places.end
    → s.left + (s.skip + n) * s.pitch < width
column_inside s width len h n b =
    let p = s.places in
    subst (λ (m : ℕ). s.left + (s.skip + m) * s.pitch < width) (nth_number p.first p.end p.pitch n h.places.some)
    (h.inside (p.first + n * p.pitch) (nth_tell p.first p.end p.pitch n b))

module _ (z : Size) (ps : List ℕ) where
  abbrev own : Grid
  own = grid_of ps

  -- ---- at one sample
  module _ (r c p : ℕ) (x : Float) where
    gained : on_of own r c p ≡ true →
        clip_of (mul binary64 x (gain_of (gain_map_of ps) z r c (p - own.plane))) ≡ opcode_at (gained_of z ps) r c p x
    unfolding act_of
    gained t = sym (simp (t, pick_yes))

    gone : on_of own r c p ≡ false → x ≡ opcode_at (gained_of z ps) r c p x
    gone t = sym (simp (t, pick_no))

    pub at_off : (g : Grid) → g ≡ own → on_of g r c p ≡ false → x ≡ opcode_at (gained_of z ps) r c p x
    at_off g e t = gone (rw (← e) t)

    pub at_on : (g : Grid) → g ≡ own → on_of g r c p ≡ true → (s : Float) → s ≡ gain_of (gain_map_of ps) z r c (p - g.plane) →
        applied_of (Scale s) ps x ≡ opcode_at (gained_of z ps) r c p x
    unfolding applied_of result_of
    at_on g e t s q =
        let h : s ≡ gain_of (gain_map_of ps) z r c (p - own.plane) = rw (← e) q in
        ap (λ (y : Float). clip_of (mul binary64 x y)) h ∙ gained (rw (← e) t)

  -- ---- over a part of a row
  module _ (r l n : ℕ) (down : Bracket) (row : BracketOf (down_of ps) z.rows r down) (xs : List Float) where
    abbrev after : Grid → List Float
    after g = planes_of (gain_line ps z g down) g.left g.right g.column_pitch l n g.plane (g.plane + g.planes) xs

    line_is : (c j : ℕ) → every_of own.left own.right own.column_pitch c ≡ true →
        gain_in (gain_map_of ps) down (min j (planes_in ps - 1)) z.columns
        (own.left + (c - own.left) / own.column_pitch * own.column_pitch)
        ≡ gain_of (gain_map_of ps) z r c j
    unfolding gain_map_of
    line_is c j t =
        let q = every_told own.left own.right own.column_pitch c t in
        let d = (c - own.left) / own.column_pitch * own.column_pitch in
        let w : c - own.left ≡ d = whole (c - own.left) own.column_pitch q.2 in
        let a : own.left ≤ c = q.0 in
        let e : own.left + d ≡ c = omega arith in
        rw e (gain_in_law (gain_map_of ps) z r c j down (min j (planes_in ps - 1)) row refl)

    same : (c p : ℕ) (x : Float) (b : Bool) → on_of own r c p ≡ b →
        pick b (gain_line ps z own down p ((c - own.left) / own.column_pitch) x) x ≡ opcode_at (gained_of z ps) r c p x
    same c p x true t =
        simp pick_yes (ap (λ (y : Float). clip_of (mul binary64 x y)) (line_is c (p - own.plane) (on_in own r c p t).column)
        ∙ gained r c p x t)
    same c p x false t = simp pick_no (gone r c p x t)

    row_here : every_of own.top own.bottom own.row_pitch r ≡ true → after own ≡ over_part (gained_of z ps) r l n xs
    unfolding planes_of over_part on_of
    row_here t = each_same _ _ nan 0 xs (λ j b. same (l + (0 + j) / n) ((0 + j) % n) (get_or xs j nan) _ (rw t refl))

    pub row_on : (g : Grid) → g ≡ own → every_of g.top g.bottom g.row_pitch r ≡ true → after g ≡ over_part (gained_of z ps) r l n xs
    row_on g e t = rw e (row_here (rw (← e) t))

  module _ (r l n : ℕ) (xs : List Float) where
    row_gone : every_of own.top own.bottom own.row_pitch r ≡ false → over_part (gained_of z ps) r l n xs ≡ xs
    unfolding over_part on_of
    row_gone t = each_none _ 0 xs (λ j x. simp (t, pick_no))

    pub row_off : (g : Grid) → g ≡ own → every_of g.top g.bottom g.row_pitch r ≡ false → xs ≡ over_part (gained_of z ps) r l n xs
    row_off g e t = sym (row_gone (rw (← e) t))

  -- ---- of an accepted map
  module _ (ok : gain_map_fault z ps ≡ 0) where
    pub map_in : GainMapIn ps
    map_in = (map_accepted z ps ok).map

    pub enough : 76 ≤ length ps
    enough = omega (arith, map_in.inside)

    module _ (g : Grid) (e : (n : ℕ) → 32 ≤ n → g ≡ grid_of (part ps 0 n)) where
      pub map_grid : g ≡ own
      map_grid = own_grid ps g 44 enough e

      pub grid_in : FitsIn z g
      grid_in = subst (FitsIn z) (sym map_grid) (map_accepted z ps ok).grid

-- ---- an opcode of the list by its id
module _ (f : List ℕ) (z : Size) (at : ℕ) (h : Header) (k : KeptIn f z at h) where
  abbrev bytes : List ℕ
  bytes = part f at h.length

  pub kept_plain : (h.id ≡ 9 → ⊥) → PlainIn f z at h
  kept_plain n =
      record { inside = k.inside; listed = plain_listed h.id k.listed n; accepted = fault_plain z h.id bytes n ∙ k.accepted }

  pub kept_gained : h.id ≡ 9 → gain_map_fault z bytes ≡ 0
  kept_gained e = fault_map z h.id bytes e ∙ k.accepted

  pub gained_kept : h.id ≡ 9 → gained_of z bytes ≡ kept_of f z at h
  unfolding opcode_kind pick
  gained_kept e = rw (ne_eqb h.id 7 (λ q. omega arith), ne_eqb h.id 8 (λ q. omega arith), eq-eqb h.id 9 e)
