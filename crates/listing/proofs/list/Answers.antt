use mathlib.Core.Path.{subst}
use lib.ListN.{take}
use Rattle.listing.specs.Facts.Body.{rows_from}
use Rattle.listing.proofs.Bodies.{short_listed, line_frame}
use Rattle.listing.proofs.Known.{appends_two}
use Rattle.std.proofs.lemmas.Result.{on_ok_weaker}
use Rattle.std.specs.Io.KnownBytes.{Appends}
use Rattle.listing.proofs.list.Goals as goal

pub write_piece-requires-in-Ok-clause-file_len_bound : goal.write_piece-requires-in-Ok-clause-file_len_bound
write_piece-requires-in-Ok-clause-file_len_bound g c = short_listed c.args.file.now _ c.in-Ok.ensures

pub returns-in_ok-write_piece-in-Ok-clause-given : goal.returns-in_ok-write_piece-in-Ok-clause-given
returns-in_ok-write_piece-in-Ok-clause-given g c =
    let f = c.args.file.now in
    let line = take c.put_size-n.result c.put_size-n.new.text in
    let a = g.W.Write.contents c.args.out.now in
    let b = g.W.Write.contents c.write_piece-in-Ok.new.out in
    let d = g.W.Write.contents c.print_rows.new.out in
    let e = line_frame f line _ c.in-Ok.ensures c.put_size-n.ensures.1 in
    on_ok_weaker c.print_rows.result
    (λ rows. subst (Appends a d) e (appends_two a b d line (rows_from f 0) c.in_ok-write_piece-in-Ok.ensures.given rows)) c.print_rows.ensures.given
