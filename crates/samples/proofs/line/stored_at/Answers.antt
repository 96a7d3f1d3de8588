use mathlib.Core.Path.{◌≡◌, ap, ◌∙◌, subst}
use Prim.Native.Nat.{ℕ, ◌+◌, ◌*◌, ◌≤◌}
use native.Mathlib.Omega.{arith}
use lib.ListN.{length}
use Rattle.reading.specs.Bytes.{part}
use Rattle.reading.specs.Number.{number_of}
use Rattle.samples.proofs.line.stored_at.Goals as goal
use Rattle.samples.proofs.line.stored_at.Goals.{Start}

-- the sample lies in the file
inside : (s : Start) (m : ℕ) → s.args.bytes ≡ m → s.args.place + m * s.args.i + m ≤ length s.args.file.now
inside s m e = subst (λ (b : ℕ). s.args.place + b * s.args.i + b ≤ length s.args.file.now) e s.requires.0

-- a sample that is no byte has two
two : (s : Start) → (s.args.bytes ≡ 1 → ⊥) → s.args.bytes ≡ 2
two s h = omega (arith, s.requires.1, s.requires.2)

pub overflow_add-place : goal.overflow_add-place
overflow_add-place c =
    let s = (goal.at.overflow_add-place c).Start in
    omega (arith, inside s 1 c.if-bytes-eq1.true, s.well_formed.0.1)

pub byte-requires : goal.byte-requires
byte-requires c =
    let s = (goal.at.byte-requires c).Start in
    omega (arith, inside s 1 c.if-bytes-eq1.true)

pub overflow_mul-i : goal.overflow_mul-i
overflow_mul-i c =
    let s = (goal.at.overflow_mul-i c).Start in
    omega (arith, inside s 2 (two s c.if-bytes-eq1.false), s.well_formed.0.1)

pub overflow_add-place-else-bytes-eq1 : goal.overflow_add-place-else-bytes-eq1
overflow_add-place-else-bytes-eq1 c =
    let s = (goal.at.overflow_add-place-else-bytes-eq1 c).Start in
    omega (arith, inside s 2 (two s c.if-bytes-eq1.false), s.well_formed.0.1)

pub short-requires : goal.short-requires
short-requires c =
    let s = (goal.at.short-requires c).Start in
    omega (arith, inside s 2 (two s c.if-bytes-eq1.false))

pub returns-then-bytes-eq1 : goal.returns-then-bytes-eq1
returns-then-bytes-eq1 c =
    let a = c.args in
    let e : a.place + a.i ≡ a.place + 1 * a.i = omega arith in
    rw c.if-bytes-eq1.true (c.byte.ensures.value ∙ ap (λ (n : ℕ). number_of a.order (part a.file.now n 1)) e)

pub returns-else-bytes-eq1 : goal.returns-else-bytes-eq1
returns-else-bytes-eq1 c =
    let a = c.args in
    let e : a.bytes ≡ 2 = two (goal.at.returns-else-bytes-eq1 c).Start c.if-bytes-eq1.false in rw e c.short.ensures
