use mathlib.Core.Path.{sym, ◌∙◌}
use Rattle.directory.proofs.Trees.{first_at}
use Rattle.directory.proofs.tree.root_from.Goals as goal

pub returns : goal.returns
returns c =
    (c.root.ensures.0 ∙ sym (first_at _ _ _ _ _ _ c.value.ensures), c.root.ensures.1)
