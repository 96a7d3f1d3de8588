use mathlib.Core.Path.{ap, ◌∙◌}
use Rattle.std.proofs.lemmas.Result.{err_from_is_err_and}
use Rattle.opcodes.specs.declared.grid.Size.{Size}
use Rattle.half.proofs.BlockLaws.{half_inverse, half_called}
use Rattle.half.proofs.half_window.half_window_in.Goals as goal

pub returns-in_err-half : goal.returns-in_err-half
returns-in_err-half c =
    let a = c.args in
    let b = a.blocks in
    let p = err_from_is_err_and c.from_residual.result c.from_residual.ensures.1 in
    rw (p.1, p.2) (half_called a.file.now a.view c.requires b.top b.left b.height b.width a.out.now _ c.in_err-half.ensures)

pub halved_in-requires : goal.halved_in-requires
halved_in-requires c =
    let h = half_inverse c.args.file.now c.args.view.picture _ c.in_ok-half.ensures in
    (c.requires, ap (λ (z : Size). z.samples) c.requires.size ∙ h.0, h.1)

pub returns : goal.returns
returns c =
    let a = c.args in
    let b = a.blocks in
    c.halved_in.ensures c.requires
    ∙ half_called a.file.now a.view c.requires b.top b.left b.height b.width a.out.now _ c.in_ok-half.ensures
