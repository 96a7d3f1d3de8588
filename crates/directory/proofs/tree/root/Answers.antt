use mathlib.Core.Path.{◌≡◌, sym, ap, subst, ◌∙◌}
use lib.ListN.{length}
use Rattle.std.specs.Prelude.{Ok}
use Rattle.std.proofs.lemmas.Result.{err_from_is_err_and}
use Rattle.reading.specs.Reading.{run}
use Rattle.reading.proofs.Reading.{run_answer}
use Rattle.directory.specs.Out.{bind}
use Rattle.directory.specs.Tree.{raw, left, after_walk, walk_reading, root_reading}
use Rattle.directory.specs.Facts.Tree.{walk_out, WalkIn}
use Rattle.directory.specs.declared.tree.Walk.{Walk}
use Rattle.directory.proofs.Outs.{bind_refused, bind_is}
use Rattle.directory.proofs.tree.root.Goals as goal
use Rattle.directory.proofs.tree.root.Goals.{After-walk_from}

pub returns-in_err-first : goal.returns-in_err-first
unfolding root_reading
returns-in_err-first c =
    let p = err_from_is_err_and c.from_residual.result c.from_residual.ensures.1 in
    rw (p.1, p.2) (bind_refused _ _ _ _ _ c.in_err-first.ensures.0, tt)

pub returns-in_err-check_version : goal.returns-in_err-check_version
unfolding root_reading
returns-in_err-check_version c =
    let p = err_from_is_err_and c.from_residual-in_err-check_version.result c.from_residual-in_err-check_version.ensures.1 in
    rw (p.1, p.2) (bind_refused _ _ _ _ _ c.in_err-check_version.ensures ∙ sym (bind_is _ _ _ _ c.in_ok-first.ensures.0), tt)

-- past the version: what follows is the walk
walked : (c : After-walk_from) → let a = c.args in let first = c.in_ok-first.first in
    run a.file.now (root_reading a.widths (length a.file.now) a.order a.at)
    ≡ run a.file.now (bind (walk_reading (length a.file.now) first) (after_walk first))
unfolding root_reading
walked c = bind_is _ _ _ _ c.in_ok-first.ensures.0 ∙ bind_is _ _ _ _ c.in_ok-check_version.ensures

pub returns-in_err-raw : goal.returns-in_err-raw
unfolding root_reading
returns-in_err-raw c =
    let p = err_from_is_err_and c.from_residual-in_err-raw.result c.from_residual-in_err-raw.ensures.1 in
    let w = walked (goal.at.returns-in_err-raw c).After-walk_from in
    rw (p.1, p.2) (bind_refused _ _ _ _ _ c.in_err-raw.ensures.0 ∙ sym w, tt)

pub returns-in-Raw : goal.returns-in-Raw
unfolding root_reading
returns-in-Raw c =
    let w = walked (goal.at.returns-in-Raw c).After-walk_from in
    let found = c.in_ok-raw.ensures in
    let e = ap (λ (x : Walk). walk_out (Ok x)) (sym c.in-Raw.is) ∙ found.0 in (
      sym (w ∙ bind_is _ _ _ (raw _) e ∙ run_answer _ _),
      record {
        size = c.requires.0;
        first = c.in_ok-first.ensures.1;
        raw = subst (λ (x : Walk). WalkIn c.args.file.now (Ok x)) c.in-Raw.is found.1;
      },
    )

pub returns-in-Left : goal.returns-in-Left
unfolding root_reading
returns-in-Left c =
    let w = walked (goal.at.returns-in-Left c).After-walk_from in
    let e = ap (λ (x : Walk). walk_out (Ok x)) (sym c.in-Left.is) ∙ c.in_ok-raw.ensures.0 in
    (sym (w ∙ bind_is _ _ _ (left _) e ∙ run_answer _ _), tt)
