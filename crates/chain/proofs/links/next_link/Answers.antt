use mathlib.Core.Path.{sym, ap, ◌∙◌}
use Prim.Native.Nat.{◌+◌}
use Rattle.opcodes.specs.declared.list.Header.{Header}
use Rattle.chain.specs.Facts.Links.{reached_with}
use Rattle.chain.proofs.LinkLaws.{into_off, into_on, read_as}
use Rattle.chain.proofs.links.next_link.Goals as goal

pub returns-in-None : goal.returns-in-None
returns-in-None c =
    let a = c.args in
    let f = a.file.now in
    let h = c.header_at-h in
    let link_at = c.link_at in
    let s = reached_with a.reached a.places.now a.ids.now a.«before».now a.after.now in record {
      by_index = λ i o e. into_off a.spot.row.0 a.spot.column.0 a.spot.plane o s
          (sym c.in-None.is ∙ link_at.ensures i o (read_as f a.size a.reached.at _ _ h.ensures.value i o e));
      at_value = ap (λ (k : Header). a.reached.at + (16 + k.length)) h.ensures.value;
    }

pub returns-in-Some : goal.returns-in-Some
returns-in-Some c =
    let a = c.args in
    let f = a.file.now in
    let h = c.header_at-h.ensures.value in
    let s = reached_with a.reached a.places.now a.ids.now a.«before».now a.after.now in
    let w = c.write_link.ensures in record {
      by_index = λ i o e. rw (w.places_after.0, w.places_after.1, w.before_after.0, w.before_after.1) (into_on a.spot.row.0 a.spot.column.0
          a.spot.plane o s c.in-Some.link
          (sym c.in-Some.is ∙ c.link_at.ensures i o (read_as f a.size a.reached.at _ _ h i o e)));
      at_value = ap (λ (k : Header). a.reached.at + (16 + k.length)) h;
    }
