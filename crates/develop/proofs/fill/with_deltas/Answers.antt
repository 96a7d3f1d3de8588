use mathlib.Core.Path.{◌≡◌, refl}
use Prim.Native.Nat.{ℕ, ◌-◌}
use native.Mathlib.Omega.{arith}
use borrow.Author.Rules.{rules}
use lib.IntN.{pos}
use Rattle.samples.proofs.Lines.{zeros_part}
use Rattle.develop.proofs.Windows.{copies_length, array_fits, deltas_part}
use Rattle.develop.proofs.fill.with_deltas.Goals as goal

pub invariant_of-fill_deltas : goal.invariant_of-fill_deltas
invariant_of-fill_deltas g c =
    record { within = c.requires.viewed.0.picture_in.raw.tags }

pub fill_deltas-requires : goal.fill_deltas-requires
fill_deltas-requires g c =
    let n = c.args.len in
    let v = c.requires.viewed in (
      λ k b. v.2 k (omega (arith, copies_length (pos 0) n g.row.N c.requires.room.1)),
      v.1,
      zeros_part (n - 0) g.row.N,
    )

pub fill-requires : goal.fill-requires
fill-requires g c =
    let n = c.args.len in
    let d = c.fill_deltas in
    let z = copies_length (pos 0) n g.row.N c.requires.room.1 in
    c.requires.takes _ _ _ (c.requires.along_in, deltas_part _ _ _ n _ d.new.out _ (search rules) z d.ensures) refl

pub returns : goal.returns
returns g c =
    let n = c.args.len in
    let d = c.fill_deltas in
    let z = copies_length (pos 0) n g.row.N c.requires.room.1 in record {
      along = _;
      deltas = _;
      lent = _;
      left = _;
      shared = (c.requires.along_in, deltas_part _ _ _ n _ d.new.out _ (search rules) z d.ensures);
      begins = refl;
      call = c.fill.ensures;
      ends = refl;
    }
