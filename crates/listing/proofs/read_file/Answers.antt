use mathlib.Core.Path.{◌≡◌, refl, ◌∙◌}
use Prim.Native.Nat.{◌-◌}
use native.Mathlib.Omega.{arith}
use lib.ListN.{length, take, drop, length-take, length-drop}
use borrow.Rule.Slice.PartMut.{post_of, same_len_mid}
use Rattle.listing.proofs.Known.{consumes_none, consumes_two, read_behind}
use Rattle.listing.proofs.read_file.Goals as goal

pub loop-n-init : goal.loop-n-init
loop-n-init g c = (omega arith, refl, consumes_none _)

pub loop-n-preserved : goal.loop-n-preserved
loop-n-preserved g c =
    let l = c.loop-n in
    let r = c.in_ok-more.ensures in
    let same : length c.read.new.buf ≡ length (take (length l.file - l.n) (drop l.n l.file)) = c.read.auto.buf in
    let b : length (take (length l.file - l.n) (drop l.n l.file)) ≡ length l.file - l.n = simp (length-take, length-drop) (omega arith) in
    let e = same_len_mid l.n (length l.file - l.n) l.file c.read.new.buf same in
    let t = read_behind l.file c.read.new.buf (post_of l.n (length l.file - l.n) l.file) l.n c.in_ok-more.more l.invariant.0 r.bound.0 in (
      omega (arith, e, r.bound.0, same, b, l.invariant.0),
      e ∙ l.invariant.1,
      rw t (consumes_two _ _ _ _ _ l.invariant.2 r.bytes.0),
    )
