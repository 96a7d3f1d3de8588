use native.Mathlib.Omega.{arith}
use mathlib.Core.Path.{◌≡◌, sym, ap, ◌∙◌}
use Prim.Native.Nat.{◌+◌, ◌-◌}
use Rattle.std.specs.Prelude.{Option, Ok}
use Rattle.std.proofs.lemmas.Result.{err_from_is_err_and}
use Rattle.reading.proofs.Reading.{run_answer}
use Rattle.directory.specs.Tree.{raw_one, parent, raw, left}
use Rattle.directory.specs.Facts.Tree.{look_out, walk_out}
use Rattle.directory.specs.declared.tree.Children.{Children}
use Rattle.directory.specs.declared.tree.Walk.{Walk}
use Rattle.directory.proofs.Entries.{one_further}
use Rattle.directory.proofs.Trees.{visit_deep, visit_late, visit_refused, visit_unseen, visit_seen, children_none, child_refused}
use Rattle.directory.proofs.Trees.{child_is}
use Rattle.directory.proofs.tree.+visit_visit_children.Goals as goal

pub visit-returns-then-depth-eq0-clause-result_value : goal.visit-returns-then-depth-eq0-clause-result_value
visit-returns-then-depth-eq0-clause-result_value t c = visit_deep _ _ _ _ _ _ _ c.if-depth-eq0.true

pub visit-returns-then-visits-eq0-clause-result_value : goal.visit-returns-then-visits-eq0-clause-result_value
visit-returns-then-visits-eq0-clause-result_value t c =
    visit_late _ _ _ _ _ _ _ (c.args.depth - 1) (omega arith) c.if-visits-eq0.true

pub visit-returns-in_err-ifd-clause-result_value : goal.visit-returns-in_err-ifd-clause-result_value
visit-returns-in_err-ifd-clause-result_value t c =
    let p = err_from_is_err_and c.from_residual.result c.from_residual.ensures.1 in
    rw (p.1, p.2)
    (visit_refused _ _ _ _ _ _ _ (c.args.depth - 1) (omega arith) (c.args.visits - 1) (omega arith) _ _ c.in_err-ifd.ensures.0)

pub visit-returns-in_err-inspect-clause-result_value : goal.visit-returns-in_err-inspect-clause-result_value
visit-returns-in_err-inspect-clause-result_value t c =
    let p = err_from_is_err_and c.from_residual-in_err-inspect.result c.from_residual-in_err-inspect.ensures.1 in
    let i = c.in_ok-ifd.ensures.0 in
    let e = c.in_err-inspect.ensures.0 in
    rw (p.1, p.2) (visit_unseen _ _ _ _ _ _ _ (c.args.depth - 1) (omega arith) (c.args.visits - 1) (omega arith) _ i _ _ e)

-- the directory that was opened, and then what it is
pub visit-returns-in-None-clause-result_value : goal.visit-returns-in-None-clause-result_value
visit-returns-in-None-clause-result_value t c =
    let a = c.args in
    let e = ap (λ (x : Option Children). look_out (Ok x)) (sym c.in-None.is) ∙ c.in_ok-inspect.ensures.0 in
    let d : a.depth ≡ a.depth - 1 + 1 = omega (arith, c.if-depth-eq0.false) in
    let r : a.visits ≡ a.visits - 1 + 1 = omega (arith, c.if-visits-eq0.false) in
    sym (visit_seen _ _ _ _ _ _ _ (a.depth - 1) d (a.visits - 1) r _ c.in_ok-ifd.ensures.0 raw_one e ∙ run_answer _ _)

pub visit-returns-in-Some-clause-result_value : goal.visit-returns-in-Some-clause-result_value
visit-returns-in-Some-clause-result_value t c =
    let a = c.args in
    let e = ap (λ (x : Option Children). look_out (Ok x)) (sym c.in-Some.is) ∙ c.in_ok-inspect.ensures.0 in
    let d : a.depth ≡ a.depth - 1 + 1 = omega (arith, c.if-depth-eq0.false) in
    let r : a.visits ≡ a.visits - 1 + 1 = omega (arith, c.if-visits-eq0.false) in
    let seen = visit_seen _ _ _ _ _ _ _ (a.depth - 1) d (a.visits - 1) r _ c.in_ok-ifd.ensures.0 (parent _ _ _) e in
    c.visit_children.ensures.result_value ∙ sym seen

pub visit_children-returns-then-children-eq0-clause-result_value :
    goal.visit_children-returns-then-children-eq0-clause-result_value
visit_children-returns-then-children-eq0-clause-result_value t c = children_none _ _ _ _ _ _ _ _ _ c.if-children-eq0.true

pub visit_children-returns-in_err-ifd-clause-result_value : goal.visit_children-returns-in_err-ifd-clause-result_value
visit_children-returns-in_err-ifd-clause-result_value t c =
    let p = err_from_is_err_and c.from_residual.result c.from_residual.ensures.1 in
    let e = c.in_err-ifd.ensures.result_value in
    rw (p.1, p.2) (child_refused _ _ _ _ _ _ _ _ _ (c.args.children.count - 1) _ (omega arith) c.value-at.ensures _ _ e)

pub visit_children-visit_children-requires : goal.visit_children-visit_children-requires
visit_children-visit_children-requires t c =
    let q = c.requires.children_in in
    let more = one_further _ _ c.args.children.count (c.args.children.count - 1) _ (omega arith) q.inside in (
      omega arith,
      (c.requires.file_len_bound, record { most = omega arith; inside = more.1; sized = λ _. q.sized (omega arith) }),
    )

pub visit_children-returns-in-Raw-clause-result_value : goal.visit_children-returns-in-Raw-clause-result_value
visit_children-returns-in-Raw-clause-result_value t c =
    let e = ap (λ (x : Walk). walk_out (Ok x)) (sym c.in-Raw.is) ∙ c.in_ok-ifd.ensures.result_value in
    sym (child_is _ _ _ _ _ _ _ _ _ (c.args.children.count - 1) _ (omega arith) c.value-at.ensures (raw _) e ∙ run_answer _ _)

pub visit_children-returns-in-Left-clause-result_value : goal.visit_children-returns-in-Left-clause-result_value
visit_children-returns-in-Left-clause-result_value t c =
    let e = ap (λ (x : Walk). walk_out (Ok x)) (sym c.in-Left.is) ∙ c.in_ok-ifd.ensures.result_value in
    c.visit_children.ensures.result_value
    ∙ sym (child_is _ _ _ _ _ _ _ _ _ (c.args.children.count - 1) _ (omega arith) c.value-at.ensures (left _) e)
