use mathlib.Core.Path.{refl}
use Rattle.std.proofs.lemmas.Result.{err_from_is_err_and}
use Rattle.develop.proofs.Called.{fill_in, window_passed, window_refused}
use Rattle.develop.proofs.table_window.table_window_in.Goals as goal

pub returns-in_err-test_window : goal.returns-in_err-test_window
returns-in_err-test_window c =
    let a = c.args in
    let w = a.window in
    let p = err_from_is_err_and c.from_residual.result c.from_residual.ensures.1 in
    rw (p.1, p.2) (window_refused a.file.now a.view c.requires w.top w.left w.height w.width a.out.now _ c.in_err-test_window.ensures)

pub fill_tabled-requires : goal.fill_tabled-requires
fill_tabled-requires c =
    let a = c.args in
    let w = a.window in
    fill_in a.file.now a.view c.requires w.top w.left w.height w.width a.out.now _ refl c.in_ok-test_window.ensures

pub returns : goal.returns
returns c =
    let a = c.args in
    let w = a.window in
    let passed = c.in_ok-test_window.ensures in
    let inside = fill_in a.file.now a.view c.requires w.top w.left w.height w.width a.out.now _ refl passed in
    window_passed a.file.now a.view inside.file w.top w.left w.height w.width a.out.now _ passed (c.fill_tabled.ensures inside)
