use mathlib.Core.Path.{◌≡◌, sym, subst}
use Rattle.colour.specs.Facts.Bounds.{All, Finite}
use Rattle.colour.specs.Pixel.{xyz_of}
use Rattle.colour.specs.declared.pixel.Xyz.{Xyz}
use Rattle.colour.proofs.FinitePixel.{xyz_finite}
use Rattle.colour.proofs.pixel.xyz_of.Goals as goal

pub returns : goal.returns
returns c =
    let row = c.row in
    let a = c.args in
    let e : record { x = row.result; y = c.row-2.result; z = c.row-3.result } ≡ xyz_of a.colour a.s0 a.s1 a.s2 = λ i.
    record { x = row.ensures i; y = c.row-2.ensures i; z = c.row-3.ensures i } in
    record { value = e; all = λ h u. subst (λ (r : Xyz). All Finite r.x r.y r.z) (sym e) (xyz_finite a.colour a.s0 a.s1 a.s2 h u) }
