use mathlib.Core.Path.{refl, sym, ◌∙◌}
use native.Mathlib.Omega.{arith}
use Rattle.directory.proofs.Trees.{big_tiff_laid, big_tiff_small, big_tiff_not_8, big_tiff_not_0, big_tiff_offset}
use Rattle.directory.proofs.tree.big_tiff_root.Goals as goal
use Rattle.directory.proofs.tree.big_tiff_root.Goals.{After-short, After-short-2, Else-file-lt16}

pub returns-then-file-lt16 : goal.returns-then-file-lt16
returns-then-file-lt16 c =
    (big_tiff_small _ _ _ c.if-file-lt16.true, tt)

pub returns-then-short-ne8 : goal.returns-then-short-ne8
returns-then-short-ne8 c =
    (big_tiff_not_8 _ _ _ c.if-file-lt16.false _ c.short.ensures c.if-short-ne8.true, tt)

pub returns-then-short-ne0 : goal.returns-then-short-ne0
returns-then-short-ne0 c = (
  big_tiff_not_0 _ _ _ c.if-file-lt16.false _ c.short.ensures c.if-short-ne8.false _ c.short-2.ensures
      c.if-short-ne0.true,
  tt,
)

pub returns : goal.returns
returns c = (
  c.root_from.ensures.0
      ∙ sym (big_tiff_offset _ _ _ c.if-file-lt16.false _ c.short.ensures c.if-short-ne8.false _ c.short-2.ensures
      c.if-short-ne0.false),
  c.root_from.ensures.1,
)
