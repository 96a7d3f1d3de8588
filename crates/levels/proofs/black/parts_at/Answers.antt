use mir.Syntax.{w64}
use mir.Val.{SFits}
use mir.Facts.{to_z-of_z}
use borrow.Author.Rules.{rules}
use Rattle.levels.specs.Black.{black_at}
use Rattle.levels.proofs.Carried.{parts_small}
use Rattle.levels.proofs.black.parts_at.Goals as goal

pub returns-clause-result_bound : goal.returns-clause-result_bound
unfolding black_at
returns-clause-result_bound c =
    let f : SFits w64 c.unwrap_or.result = search rules in
    rw (to_z-of_z f, c.unwrap_or.ensures) (parts_small _ _ c.black_at.ensures)
