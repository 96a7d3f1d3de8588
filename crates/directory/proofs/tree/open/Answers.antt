use mathlib.Core.Path.{◌≡◌, refl, sym, ◌∙◌}
use mathlib.Core.Bool.{false}
use Prim.Native.Nat.{◌≤◌}
use native.Mathlib.Omega.{arith}
use lib.ListN.{length, take}
use Rattle.reading.specs.declared.number.Order.TheVariants.{Little, Big}
use Rattle.directory.specs.Tree.{same_bytes, classic_mark, big_tiff_mark}
use Rattle.directory.proofs.Trees.{classic_laid, tree_small, tree_large, tree_classic_little, tree_classic_big, tree_big_tiff_little}
use Rattle.directory.proofs.Trees.{tree_big_tiff_big, tree_other}
use Rattle.directory.proofs.tree.open.Goals as goal
use Rattle.directory.proofs.tree.open.Goals.{After-starts_with, After-starts_with-2, After-starts_with-3, After-starts_with-4}

pub returns-then-file-lt8 : goal.returns-then-file-lt8
returns-then-file-lt8 c =
    (tree_small _ _ c.if-file-lt8.true, tt)

pub returns-then-file-gt67108864 : goal.returns-then-file-gt67108864
returns-then-file-gt67108864 c =
    (tree_large _ _ c.if-file-lt8.false c.if-file-gt67108864.true, tt)

-- the file's length
least : (c : After-starts_with) → 8 ≤ length c.args.file.now
least c = c.if-file-lt8.false

most : (c : After-starts_with) → length c.args.file.now ≤ 67108864
most c = c.if-file-gt67108864.false

-- the marks that it does not start with
not_little : (c : After-starts_with-2) → let a = c.args in
    same_bytes (take 4 a.file.now) (classic_mark Little) ≡ false
not_little c = sym c.starts_with.ensures ∙ c.if-starts_with.false

not_big : (c : After-starts_with-3) →
    let a = c.args in
    same_bytes (take 4 a.file.now) (classic_mark Big) ≡ false
not_big c = sym c.starts_with-2.ensures ∙ c.if-starts_with-2.false

not_big_tiff_little : (c : After-starts_with-4) →
    let a = c.args in
    same_bytes (take 4 a.file.now) (big_tiff_mark Little) ≡ false
not_big_tiff_little c = sym c.starts_with-3.ensures ∙ c.if-starts_with-3.false

pub returns-then-starts_with : goal.returns-then-starts_with
returns-then-starts_with c =
    let k = (goal.at.returns-then-starts_with c).After-starts_with in (
      c.root_from.ensures.0
          ∙ sym (tree_classic_little _ _ (least k) (most k) (sym k.starts_with.ensures ∙ c.if-starts_with.true)),
      c.root_from.ensures.1,
    )

pub returns-then-starts_with-2 : goal.returns-then-starts_with-2
returns-then-starts_with-2 c =
    let m = (goal.at.returns-then-starts_with-2 c).After-starts_with-2 in
    let k = (goal.at.returns-then-starts_with-2 c).After-starts_with in (
      c.root_from-then-starts_with-2.ensures.0
          ∙ sym (tree_classic_big _ _ (least k) (most k) (not_little m) (sym m.starts_with-2.ensures ∙ c.if-starts_with-2.true)),
      c.root_from-then-starts_with-2.ensures.1,
    )

pub returns-then-starts_with-3 : goal.returns-then-starts_with-3
returns-then-starts_with-3 c =
    let o = (goal.at.returns-then-starts_with-3 c).After-starts_with-3 in
    let m = (goal.at.returns-then-starts_with-3 c).After-starts_with-2 in
    let k = (goal.at.returns-then-starts_with-3 c).After-starts_with in (
      c.big_tiff_root.ensures.0
          ∙ sym (tree_big_tiff_little _ _ (least k) (most k) (not_little m) (not_big o)
          (sym o.starts_with-3.ensures ∙ c.if-starts_with-3.true)),
      c.big_tiff_root.ensures.1,
    )

pub returns-then-starts_with-4 : goal.returns-then-starts_with-4
returns-then-starts_with-4 c =
    let q = (goal.at.returns-then-starts_with-4 c).After-starts_with-4 in
    let o = (goal.at.returns-then-starts_with-4 c).After-starts_with-3 in
    let m = (goal.at.returns-then-starts_with-4 c).After-starts_with-2 in
    let k = (goal.at.returns-then-starts_with-4 c).After-starts_with in
    let e = sym q.starts_with-4.ensures ∙ c.if-starts_with-4.true in (
      c.big_tiff_root-then-starts_with-4.ensures.0 ∙ sym (tree_big_tiff_big _ _ (least k) (most k) (not_little m) (not_big o) (not_big_tiff_little q) e),
      c.big_tiff_root-then-starts_with-4.ensures.1,
    )

pub returns : goal.returns
returns c =
    let q = (goal.at.returns c).After-starts_with-4 in
    let o = (goal.at.returns c).After-starts_with-3 in
    let m = (goal.at.returns c).After-starts_with-2 in
    let k = (goal.at.returns c).After-starts_with in (
      tree_other _ _ (least k) (most k) (not_little m) (not_big o) (not_big_tiff_little q) (sym q.starts_with-4.ensures ∙ c.if-starts_with-4.false),
      tt,
    )
