-- The head and the blocks of rows, piece after piece, are the listing.
-- Assumes nothing.
use mathlib.Core.Path.{◌≡◌, refl, sym, ap, ◌∙◌, subst}
use mathlib.Core.Bool.{Bool, true, false, cond, true≢false}
use mathlib.Core.List.{List, [], ◌++◌}
use Prim.Native.Nat.{ℕ, ◌+◌, ◌-◌, ◌≤◌}
use native.Mathlib.Omega.{arith}
use lib.ListN.{length, take, drop, length-append, length-drop, length-take}
use lib.Seq.{take_at, drop_at, drop-drop}
use Rattle.std.specs.Prelude.{Result, Ok, Err}
use Rattle.std.specs.Result.{is_ok, IsErr}
use Rattle.listing.specs.Text.{listing_of}
use Rattle.listing.specs.Pieces.{Stands, Remains, Ends}

module _ (f : List ℕ) where
  -- before anything is written, the first line and all behind it are to come
  pub all_remains : (at : ℕ) → at ≡ 0 → (line rest : List ℕ) → line ++ rest ≡ listing_of f → Remains f at (line ++ rest)
  all_remains at z line rest q =
      record {
        inside = omega (arith, z);
        behind = ap (λ (k : ℕ). drop k (listing_of f)) z ∙ sym q;
      }

  -- ---- the piece that is to come next
  module _ (at : ℕ) (piece rest : List ℕ) (r : Remains f at (piece ++ rest)) where
    pub piece_stands : Stands f at piece
    piece_stands = ap (take (length piece)) r.behind ∙ take_at piece rest (length piece) refl

    -- behind it, the rest is to come
    rest_remains : Remains f (at + length piece) rest
    rest_remains =
        let n = length piece in
        let a : length (drop at (listing_of f)) ≡ n + length rest = ap length r.behind ∙ length-append piece rest in
        record {
          inside = omega (arith, r.inside, a, length-drop at (listing_of f));
          behind = sym (drop-drop n at (listing_of f)) ∙ ap (drop n) r.behind ∙ drop_at piece rest n refl;
        }

    -- a write that went well, and one that failed
    module _ (well : Bool) (end : ℕ) (e : end ≡ cond well (at + length piece) at) where
      pub written_rest : well ≡ true → Remains f end rest
      written_rest t =
          let b : end ≡ at + length piece = e ∙ ap (λ (x : Bool). cond x (at + length piece) at) t in
          subst (λ (k : ℕ). Remains f k rest) (sym b) rest_remains

      pub ends_early : well ≡ false → Ends f end false
      ends_early t =
          let b : end ≡ at = e ∙ ap (λ (x : Bool). cond x (at + length piece) at) t in
          record {
            beginning = omega (arith, b, r.inside);
            whole = λ k. absurd (true≢false (sym k));
          }

  -- a piece goes no further than the listing
  pub piece_inside : (at : ℕ) (piece : List ℕ) → Stands f at piece → length piece ≤ length (listing_of f) - at
  piece_inside at piece e =
      let a : length (take (length piece) (drop at (listing_of f))) ≡ length piece = ap length e in
      omega (arith, a, length-take (length piece) (drop at (listing_of f)), length-drop at (listing_of f))

  -- where nothing is to come, all is written
  pub ends_whole : (at : ℕ) → Remains f at [] → Ends f at true
  ends_whole at r =
      let a : length (drop at (listing_of f)) ≡ 0 = ap length r.behind in
      record {
        beginning = r.inside;
        whole = λ k. omega (arith, r.inside, a, length-drop at (listing_of f));
      }

  -- a write that failed ends it early, whatever the error
  pub ends_failed : {A E : Type 0} (r : Result A E) (at : ℕ) → IsErr r → Ends f at false → Ends f at (is_ok r)
  ends_failed (Ok x) at e n = absurd (true≢false (sym e))
  ends_failed (Err x) at e n = n

  -- the last piece ends it, written or not
  pub ends_last : (at : ℕ) (piece : List ℕ) → Remains f at (piece ++ []) → (well : Bool) (end : ℕ) →
      end ≡ cond well (at + length piece) at → Ends f end well
  ends_last at piece r true end e = ends_whole end (written_rest at piece [] r true end e refl)
  ends_last at piece r false end e = ends_early at piece [] r false end e refl
