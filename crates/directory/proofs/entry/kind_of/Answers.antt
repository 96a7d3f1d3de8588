use borrow.Author.Tests.{le-leb, lt-leb}
use Rattle.reading.proofs.Reading.{pick_yes, pick_no}
use Rattle.directory.specs.Entry.{kind_of}
use Rattle.directory.proofs.entry.kind_of.Goals as goal

pub returns-then-t-types : goal.returns-then-t-types
unfolding kind_of
returns-then-t-types c =
    rw (le-leb _ _ c.if-t-types.true, pick_yes)

pub returns-else-t-types : goal.returns-else-t-types
unfolding kind_of
returns-else-t-types c =
    rw (lt-leb _ _ c.if-t-types.false, pick_no)
