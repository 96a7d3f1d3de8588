use mathlib.Core.Path.{sym, ap, ◌∙◌, subst}
use native.Mathlib.Omega.{arith}
use lib.ListN.{length}
use Rattle.std.proofs.lemmas.Result.{err_from_is_err_and}
use Rattle.opcodes.specs.declared.grid.Size.{Size}
use Rattle.rows.specs.Facts.Part.{SizedIn}
use Rattle.develop.specs.Facts.Fill.{window_test}
use Rattle.half.proofs.BlockLaws.{blocks_sized, blocks_in, halved_passed, halved_refused}
use Rattle.half.proofs.half_window.halved_in.Goals as goal

pub test_window-requires : goal.test_window-requires
test_window-requires c =
    let a = c.args in
    (subst SizedIn (sym c.whole_blocks.ensures) (blocks_sized a.file.now a.view c.requires.0 0 0 0 0 a.out.now), omega arith)

pub returns-in_err-test_window : goal.returns-in_err-test_window
returns-in_err-test_window c =
    let a = c.args in
    let b = a.blocks in
    let p = err_from_is_err_and c.from_residual.result c.from_residual.ensures.1 in
    let e = c.in_err-test_window.ensures
    ∙ ap (λ (z : Size). window_test z 3 b.top b.left b.height b.width (length a.out.now)) c.whole_blocks.ensures in
    λ q. rw (p.1, p.2) (halved_refused a.file.now a.view q b.top b.left b.height b.width a.out.now a.half _ e)

pub fill_blocks-requires : goal.fill_blocks-requires
fill_blocks-requires c =
    let a = c.args in
    let b = a.blocks in
    let e = c.in_ok-test_window.ensures
    ∙ ap (λ (z : Size). window_test z 3 b.top b.left b.height b.width (length a.out.now)) c.whole_blocks.ensures in
    (blocks_in a.file.now a.view c.requires.0 b.top b.left b.height b.width a.out.now c.requires.1 e, c.requires.2)

pub returns : goal.returns
returns c =
    let a = c.args in
    let b = a.blocks in
    let e = c.in_ok-test_window.ensures
    ∙ ap (λ (z : Size). window_test z 3 b.top b.left b.height b.width (length a.out.now)) c.whole_blocks.ensures in
    λ q.
    halved_passed a.file.now a.view q b.top b.left b.height b.width a.out.now c.requires.1 a.half c.requires.2 _ e
    (c.fill_blocks.ensures q)
