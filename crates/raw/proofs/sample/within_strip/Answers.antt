use Prim.Native.Nat.{◌%◌}
use native.Mathlib.Omega.{arith}
use Rattle.raw.proofs.TagFacts.{sample_fits, mod_below}
use Rattle.raw.proofs.sample.within_strip.Goals as goal

pub overflow_mul-result : goal.overflow_mul-result
overflow_mul-result c =
    let a = c.args in
    let pre = c.requires in
    let t = a.tags in
    let r = a.row.0 in
    let b = sample_fits (r % t.layout.rows) t.frame.width a.column.0 t.frame.samples a.plane t.layout.bytes
    (mod_below r t.layout.rows pre.row_bound.0) pre.width_bound.0 pre.row_bound.1 pre.width_bound.1 pre.row_bound.2 pre.width_bound.2 in
    omega (arith, b.0)

pub overflow_add-result : goal.overflow_add-result
overflow_add-result c =
    let a = c.args in
    let pre = c.requires in
    let t = a.tags in
    let r = a.row.0 in
    let b = sample_fits (r % t.layout.rows) t.frame.width a.column.0 t.frame.samples a.plane t.layout.bytes
    (mod_below r t.layout.rows pre.row_bound.0) pre.width_bound.0 pre.row_bound.1 pre.width_bound.1 pre.row_bound.2 pre.width_bound.2 in
    omega (arith, b.0, pre.row_bound.1, pre.width_bound.0)

pub overflow_mul-result-2 : goal.overflow_mul-result-2
overflow_mul-result-2 c =
    let a = c.args in
    let pre = c.requires in
    let t = a.tags in
    let r = a.row.0 in
    let b = sample_fits (r % t.layout.rows) t.frame.width a.column.0 t.frame.samples a.plane t.layout.bytes
    (mod_below r t.layout.rows pre.row_bound.0) pre.width_bound.0 pre.row_bound.1 pre.width_bound.1 pre.row_bound.2 pre.width_bound.2 in
    omega (arith, b.1)

pub overflow_add-result-2 : goal.overflow_add-result-2
overflow_add-result-2 c =
    let a = c.args in
    let pre = c.requires in
    let t = a.tags in
    let r = a.row.0 in
    let b = sample_fits (r % t.layout.rows) t.frame.width a.column.0 t.frame.samples a.plane t.layout.bytes
    (mod_below r t.layout.rows pre.row_bound.0) pre.width_bound.0 pre.row_bound.1 pre.width_bound.1 pre.row_bound.2 pre.width_bound.2 in
    omega (arith, b.1, pre.row_bound.2, pre.width_bound.1)

pub overflow_mul-result-3 : goal.overflow_mul-result-3
overflow_mul-result-3 c =
    let a = c.args in
    let pre = c.requires in
    let t = a.tags in
    let r = a.row.0 in
    let b = sample_fits (r % t.layout.rows) t.frame.width a.column.0 t.frame.samples a.plane t.layout.bytes
    (mod_below r t.layout.rows pre.row_bound.0) pre.width_bound.0 pre.row_bound.1 pre.width_bound.1 pre.row_bound.2 pre.width_bound.2 in
    omega (arith, b.2)
