use mathlib.Core.Path.{refl}
use borrow.Author.Tests.{eq-eqb}
use Rattle.tables.proofs.has_tables.Goals as goal

pub returns-then-tags-eq0 : goal.returns-then-tags-eq0
returns-then-tags-eq0 c =
    let t = c.if-tags-eq0.true in
    rw (eq-eqb _ _ t.0, eq-eqb _ _ t.1, eq-eqb _ _ t.2) refl
