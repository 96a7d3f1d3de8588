use Rattle.std.proofs.Common.{◌+◌, ◌*◌}
use Rattle.directory.proofs.tree.+visit_visit_children.Given as goal

abbrev pub decreases-visit : goal.decreases-visit
decreases-visit l = 32 * l.depth

abbrev pub decreases-visit_children : goal.decreases-visit_children
decreases-visit_children l = 32 * l.depth + 1 + l.children.count
