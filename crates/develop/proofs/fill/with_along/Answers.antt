use mathlib.Core.Path.{◌≡◌, refl}
use Prim.Native.Nat.{ℕ, ◌+◌, ◌*◌, ◌≤◌}
use native.Mathlib.Omega.{arith}
use borrow.Author.Rules.{rules}
use Rattle.develop.proofs.Windows.{viewed_plain, copies_length, array_fits, along_part}
use Rattle.develop.proofs.fill.with_along.Goals as goal

some : (n : ℕ) → (n ≡ 0 → ⊥) → 1 ≤ n
some n h = omega arith

pub piece-q-requires : goal.piece-q-requires
piece-q-requires g c =
    let t = c.requires.viewed.0.picture_in.raw.tags in
    let r = t.levels.repeat in record {
      le_len = (c.requires.viewed.1, r.some_rows, r.rows, r.some_columns, r.columns);
      le_samples = (t.frame.some_samples, t.frame.samples);
    }

pub overflow_add-e : goal.overflow_add-e
overflow_add-e g c = omega (arith, c.requires.viewed.0.picture_in.raw.tags.levels.repeat.rows)

pub overflow_mul-e : goal.overflow_mul-e
overflow_mul-e g c =
    omega (arith, c.piece-q.ensures.2)

pub slice_bounds-space-end : goal.slice_bounds-space-end
slice_bounds-space-end g c =
    omega (arith, c.piece-q.ensures.2)

pub invariant_of-fill_along : goal.invariant_of-fill_along
invariant_of-fill_along g c =
    record { within = c.requires.viewed.0.picture_in.raw }

pub fill_along-requires : goal.fill_along-requires
fill_along-requires g c =
    let p = c.piece-q in
    (c.requires.viewed.2, p.ensures.0, p.ensures.1, copies_length _ _ 1536 p.ensures.2)

pub slice_bounds-along-end : goal.slice_bounds-along-end
slice_bounds-along-end g c =
    array_fits _ _ 1536 c.piece-q.ensures.2 c.fill_along.new.out (search rules)

pub fill-requires : goal.fill-requires
fill-requires g c =
    let v = c.requires.viewed in
    let a = c.fill_along in
    let m = (c.args.view.picture.raw.tags.levels.repeat.rows + 1) * c.piece-q.result in
    c.requires.takes _ _ _ (
      along_part _ _ _ _ m a.new.out _ (search rules) (a.ensures c.args.len c.piece-q.ensures.3),
      viewed_plain c.args.file.now c.args.view v.0 c.if-raw-eq0.true _ _,
    ) refl

pub with_deltas-requires : goal.with_deltas-requires
with_deltas-requires g c =
    let v = c.requires.viewed in
    let a = c.fill_along in
    let m = (c.args.view.picture.raw.tags.levels.repeat.rows + 1) * c.piece-q.result in record {
      viewed = (v.0, v.2, v.3);
      room = (c.requires.room.0, c.requires.room.1 (some _ c.if-raw-eq0.false));
      along_in = along_part _ _ _ _ m a.new.out _ (search rules) (a.ensures c.args.len c.piece-q.ensures.3);
      takes = c.requires.takes;
    }

pub returns-then-raw-eq0 : goal.returns-then-raw-eq0
returns-then-raw-eq0 g c =
    let v = c.requires.viewed in
    let a = c.fill_along in
    let m = (c.args.view.picture.raw.tags.levels.repeat.rows + 1) * c.piece-q.result in record {
      along = _;
      deltas = _;
      lent = _;
      left = _;
      shared = (
        along_part _ _ _ _ m a.new.out _ (search rules) (a.ensures c.args.len c.piece-q.ensures.3),
        viewed_plain c.args.file.now c.args.view v.0 c.if-raw-eq0.true _ _,
      );
      begins = refl;
      call = c.fill.ensures;
      ends = refl;
    }
