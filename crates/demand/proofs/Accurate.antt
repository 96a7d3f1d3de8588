-- Of every accepted file the levels are accurate, by the definitions alone.
-- Assumes nothing.
use mathlib.Core.Path.{◌≡◌, refl, sym, subst, ◌∙◌}
use mathlib.Core.Bool.{false}
use mathlib.Core.List.{List}
use Prim.Native.Nat.{ℕ}
use lib.IntN.{pos}
use lib.Signed.{le_z}
use Rattle.levels.specs.Levels.{span_of}
use Rattle.levels.proofs.Accuracy.{levels_within, levels_in_order}
use Rattle.raw.specs.Stored.{Stored}
use Rattle.raw.specs.Sample.{scaled_sample}
use Rattle.raw.proofs.TagFacts.{stored_run}
use Rattle.raw.proofs.Accepted.{front_spans}
use Rattle.develop.specs.Calls.{tags_of}
use Rattle.demand.specs.Accuracy.{levels_of, HasAccurateLevels}
use Rattle.develop.proofs.Views.{open_inverse}

pub has_accurate_levels : (f : List ℕ) → HasAccurateLevels f
unfolding scaled_sample
has_accurate_levels f o e =
    let a = open_inverse f o e in
    record {
      used = λ r c p h. refl;
      spans = λ r c p h. subst (λ (s : Stored). le_z (span_of s.levels p) (pos 0) ≡ false)
          (sym (a.stored ∙ stored_run f o.picture.order (tags_of o) r c p)) (front_spans f o.picture a.front p h.plane);
      near = λ r c p h v. levels_within (levels_of o) r c p v;
      ordered = λ r c p h. levels_in_order (levels_of o) r c p;
    }
