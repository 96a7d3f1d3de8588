use mathlib.Core.Path.{refl, ◌∙◌}
use native.Mathlib.Omega.{arith}
use Rattle.chain.proofs.LinkLaws.{gone_start, gone_read, gone_index, gone_on, gone_end}
use Rattle.chain.proofs.links.cover.Goals as goal

pub loop-init : goal.loop-init
loop-init c =
    (gone_start _ _ _ _ _ _ _ _ _ _ c.requires.opcodes_in.0 c.requires.opcodes_in.1, refl)

pub next_link-reached-requires : goal.next_link-reached-requires
next_link-reached-requires c =
    let g = c.loop.invariant.0 in
    let i = c.loop.invariant.1 in
    let t = c.loop-test.true in record {
      opcode_read = (gone_read _ _ _ _ _ _ _ _ _ _ c.requires.opcodes_in.0 _ _ g (omega (arith, i, t)), c.requires.opcodes_in.0.sized);
      value_value = (g.held.in_unit, omega (arith, i, t, c.requires.opcodes_in.0.few), g.held.few);
      in_bounds = (
        omega (arith, g.held.places, c.requires.in_bounds.0),
        omega (arith, g.held.ids, c.requires.in_bounds.1),
        omega (arith, g.held.before, c.requires.in_bounds.2),
        omega (arith, g.held.after, c.requires.in_bounds.3),
      );
    }

pub loop-preserved : goal.loop-preserved
loop-preserved c =
    let n = c.next_link-reached.ensures in
    let g = c.loop.invariant.0 in
    let i = c.loop.invariant.1 in
    let t = c.loop-test.true in (
      gone_on _ _ _ _ _ _ _ _ _ _ c.requires.opcodes_in.0 _ _ g (omega (arith, i, t)) _ _ n.by_index n.at_value,
      omega (arith, i, gone_index _ _ _ _ _ _ _ _ _ _ c.requires.opcodes_in.0 _ _ g (omega (arith, i, t)) _ _ n.by_index n.at_value),
    )

pub returns : goal.returns
returns c =
    let b = c.requires.in_bounds in
    let g = c.loop.invariant.0 in
    λ os e.
    gone_end _ _ _ _ _ _ _ _ _ _ c.requires.opcodes_in.0 _ _ g (omega (arith, c.loop.invariant.1, c.loop-test.false)) b.0 b.1 b.2 b.3 os e
