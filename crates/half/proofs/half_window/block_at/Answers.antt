use mathlib.Core.Path.{sym, subst, ◌∙◌}
use Rattle.colour.specs.Facts.Bounds.{All, Finite}
use Rattle.colour.specs.declared.pixel.Xyz.{Xyz}
use Rattle.half.proofs.BlockLaws.{block_is, block_finite}
use Rattle.half.specs.Facts.Half.{pair_of}
use borrow.Author.Rules.{rules}
use Rattle.half.proofs.half_window.block_at.Goals as goal

pub returns : goal.returns
returns c =
    let sample-at = c.sample_at-red in
    let sample-at2 = c.sample_at-green1 in
    let sample-at3 = c.sample_at-green2 in
    let a = c.args in
    let x = pair_of a.pair.now a.width in
    let e = c.xyz_of.ensures.value ∙ block_is a.half x 0 a.j _ _ _ _ _ sample-at.ensures
    sample-at2.ensures sample-at3.ensures c.sample_at-blue.ensures
    c.mean.ensures.value in record {
      value = e;
      all = λ h d. subst (λ (v : Xyz). All Finite v.x v.y v.z) (sym e) (block_finite a.half h c.requires.0 x 0 a.j d);
    }
