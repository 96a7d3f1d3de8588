use Prim.Native.Nat.{ℕ, ◌+◌, ◌*◌, ◌/◌, ◌≤◌, min}
use native.Mathlib.Nat.{mul-le-mul, mul-pos, mul-mod_left, le-div_iff_mul-le, div-mul-le_self, mul_comm, mul-le-mul_left, le_trans}
use native.Mathlib.Nat.{le_of_eq}
use native.Mathlib.Omega.{arith}
use Rattle.samples.proofs.along.piece.Goals as goal
use Rattle.samples.proofs.along.piece.Goals.{Start}

-- the repeat's numbers in a row
period : (s : Start) → (1 ≤ s.args.tags.levels.repeat.columns * s.args.tags.frame.samples)
    × (s.args.tags.levels.repeat.columns * s.args.tags.frame.samples ≤ 24)
period s = (mul-pos s.requires.le_len.3 s.requires.le_samples.0, mul-le-mul s.requires.le_len.4 s.requires.le_samples.1)

-- the most that a row may have, by the rows of the repeat
most : (n : ℕ) → 1 ≤ n → n ≤ 8 → (24 ≤ min 512 (1536 / (n + 1))) × ((n + 1) * min 512 (1536 / (n + 1)) ≤ 1536)
most n a b =
    let l : 170 ≤ 1536 / (n + 1) = (le-div_iff_mul-le {k = n + 1} {x = 170} {y = 1536} (omega arith)).1 (omega arith) in
    let m : 1536 / (n + 1) * (n + 1) ≤ 1536 = div-mul-le_self 1536 (n + 1) in
    let u : (n + 1) * min 512 (1536 / (n + 1)) ≤ (n + 1) * (1536 / (n + 1)) = mul-le-mul_left (n + 1) (omega arith) in
    (omega arith, le_trans u (le_trans (le_of_eq (mul_comm (n + 1) (1536 / (n + 1)))) m))

part_of : (n q r : ℕ) → q ≤ r → (n + 1) * r ≤ 1536 → (n + 1) * q ≤ 1536
part_of n q r h k = le_trans (mul-le-mul_left (n + 1) h) k

pub overflow_mul-period : goal.overflow_mul-period
overflow_mul-period c =
    omega (arith, (period (goal.at.overflow_mul-period c).Start).1)

pub nonzero_div-result : goal.nonzero_div-result
nonzero_div-result c =
    omega (arith, (period (goal.at.nonzero_div-result c).Start).0)

pub overflow_mul-result : goal.overflow_mul-result
overflow_mul-result c =
    omega (
      arith,
      div-mul-le_self c.min-most.result (c.args.tags.levels.repeat.columns * c.args.tags.frame.samples),
      c.min-most.ensures,
    )

pub returns-then-len-most : goal.returns-then-len-most
returns-then-len-most c =
    let m = most c.args.tags.levels.repeat.rows c.requires.le_len.1 c.requires.le_len.2 in
    let e = c.min-most.ensures in
    let h = c.if-len-most.true in
    (c.requires.le_len.0, omega arith, part_of _ _ _ (omega arith) m.1, λ l. absurd (omega arith))

pub returns-else-len-most : goal.returns-else-len-most
returns-else-len-most c =
    let s = (goal.at.returns-else-len-most c).Start in
    let m = most s.args.tags.levels.repeat.rows s.requires.le_len.1 s.requires.le_len.2 in
    let p = s.args.tags.levels.repeat.columns * s.args.tags.frame.samples in
    let q = c.min-most.result in
    let e = c.min-most.ensures in
    let d : q / p * p ≤ q = div-mul-le_self q p in
    let o : 1 ≤ q / p = (le-div_iff_mul-le (period s).0).1 (omega (arith, (period s).1)) in
    (mul-pos o (period s).0, omega arith, part_of _ _ _ (omega arith) m.1, λ l. mul-mod_left (q / p) p)
