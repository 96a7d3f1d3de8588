use Rattle.listing.proofs.Bodies.{listed_over, opening_listed}
use Rattle.listing.proofs.opened.Goals as goal

pub returns-then-file-gt65536 : goal.returns-then-file-gt65536
returns-then-file-gt65536 c = listed_over c.args.file.now c.if-file-gt65536.true

pub returns : goal.returns
returns c = opening_listed c.args.file.now _ c.if-file-gt65536.false c.«open».ensures
