use Rattle.directory.specs.Names.{dng_version}
use mathlib.Core.Path.{◌≡◌}
use Prim.Native.Nat.{◌<◌}
use native.Mathlib.Omega.{arith}
use Rattle.directory.specs.declared.tag.Kinds.TheVariants as kinds
use Rattle.directory.proofs.Tags.{exactly}
use Rattle.directory.proofs.Trees.{backward_default, backward_given}
use Rattle.directory.proofs.tree.backward.Goals as goal

pub returns-then-given-eq0 : goal.returns-then-given-eq0
returns-then-given-eq0 c =
    let a = c.args in
    backward_default a.file.now _ _ _ c.if-given-eq0.true c.short.ensures

pub returns : goal.returns
returns c =
    let a = c.args in
    backward_given a.file.now _ _ _ c.if-given-eq0.false c.long.ensures
