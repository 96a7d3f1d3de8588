use mathlib.Core.Path.{ap}
use Prim.Native.Nat.{ℕ}
use lib.ListN.{get_or}
use Rattle.directory.specs.Entry.{sizes, kind_width}
use Rattle.directory.proofs.Entries.{size_listed}
use Rattle.directory.proofs.entry.size.Goals as goal

pub returns : goal.returns
unfolding kind_width
returns c =
    (ap (λ (t : ℕ). get_or sizes t 0) c.code.ensures.0, size_listed c.code.result)
