use mathlib.Core.Path.{sym, ◌∙◌}
use Rattle.develop.proofs.Called.{test_passed, test_length, test_outside}
use Rattle.develop.proofs.window.test_window.Goals as goal

pub returns-then-not-lies_inside : goal.returns-then-not-lies_inside
returns-then-not-lies_inside c =
    let a = c.args in
    let w = a.window in
    test_outside a.size w.top w.left w.height w.width a.values a.len (sym c.if-not-lies_inside.ensures)

pub returns-then-len-window : goal.returns-then-len-window
returns-then-len-window c =
    let a = c.args in
    let w = a.window in
    test_length a.size w.top w.left w.height w.width a.values a.len (sym c.if-not-lies_inside.ensures) c.if-len-window.true

pub returns : goal.returns
returns c =
    let a = c.args in
    let w = a.window in
    test_passed a.size w.top w.left w.height w.width a.values a.len (sym c.if-not-lies_inside.ensures) c.if-len-window.false
