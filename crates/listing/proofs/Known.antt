-- Bytes given to a writer one after the other, and bytes taken from a reader so.
-- Assumes nothing.
use mathlib.Core.Path.{◌≡◌, refl, sym, ap, ◌∙◌, subst}
use mathlib.Core.List.{List, [], ◌++◌, append-nil, append_assoc}
use Prim.Native.Nat.{ℕ, ◌+◌, ◌≤◌}
use lib.ListN.{length, take}
use lib.Seq.{length-take-le}
use Rattle.std.proofs.lemmas.List.{take-append-le}
use Rattle.std.proofs.Math.Seq.{take-append-add}
use Rattle.std.specs.Prelude.{Option, None, Some}
use Rattle.std.specs.Io.KnownBytes.{Appends, Consumes}

pub appends_none : (a : Option (List ℕ)) → Appends a a []
appends_none None = tt
appends_none (Some xs) = sym (append-nil xs)

pub appends_two : (a b c : Option (List ℕ)) (xs ys : List ℕ) → Appends a b xs → Appends b c ys → Appends a c (xs ++ ys)
appends_two None b c xs ys p q = tt
appends_two (Some s) None c xs ys p q = absurd p
appends_two (Some s) (Some t) None xs ys p q = absurd q
appends_two (Some s) (Some t) (Some u) xs ys p q = q ∙ ap (λ (k : List ℕ). k ++ ys) p ∙ append_assoc s xs ys

pub consumes_none : (a : Option (List ℕ)) → Consumes a a []
consumes_none None = tt
consumes_none (Some xs) = refl

pub consumes_two : (a b c : Option (List ℕ)) (xs ys : List ℕ) → Consumes a b xs → Consumes b c ys → Consumes a c (xs ++ ys)
consumes_two None b c xs ys p q = tt
consumes_two (Some s) None c xs ys p q = absurd p
consumes_two (Some s) (Some t) None xs ys p q = absurd q
consumes_two (Some s) (Some t) (Some u) xs ys p q = p ∙ ap (λ (k : List ℕ). xs ++ k) q ∙ sym (append_assoc xs ys u)

-- what was read in the place behind the first n bytes stands there
pub read_behind : (xs ys rest : List ℕ) (n k : ℕ) → n ≤ length xs → k ≤ length ys → take (n + k) (take n xs ++ (ys ++ rest)) ≡ take n xs ++ take k ys
read_behind xs ys rest n k h b =
    ap (λ (m : ℕ). take (m + k) (take n xs ++ (ys ++ rest))) (sym (length-take-le n xs h)) ∙ take-append-add (take n xs) (ys ++ rest) k
    ∙ ap (λ (zs : List ℕ). take n xs ++ zs) (take-append-le k ys rest b)

-- of `whole`, all but `rest` is given
abbrev pub Given : Option (List ℕ) → Option (List ℕ) → List ℕ → List ℕ → Type 0
Given old new whole rest = (done : List ℕ) × Appends old new done × (done ++ rest ≡ whole)

pub given_none : (a : Option (List ℕ)) (whole : List ℕ) → Given a a whole whole
given_none a whole = ([], appends_none a, refl)

pub given_next : (a b c : Option (List ℕ)) (whole piece rest : List ℕ) → Given a b whole (piece ++ rest) → Appends b c piece → Given a c whole rest
given_next a b c whole piece rest g p = (g.0 ++ piece, appends_two a b c g.0 piece g.1 p, append_assoc g.0 piece rest ∙ g.2)

pub given_all : (a b : Option (List ℕ)) (whole : List ℕ) → Given a b whole [] → Appends a b whole
given_all a b whole g = subst (Appends a b) (sym (append-nil g.0) ∙ g.2) g.1
