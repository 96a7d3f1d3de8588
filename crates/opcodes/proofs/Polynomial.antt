-- The step that is taken from the file is Horner's rule over exactly the coefficients that stand there.
-- Assumes nothing.
use Rattle.std.proofs.Common.{◌≡◌, ℕ, zero, suc, ◌+◌, ◌≤◌, Bool, true, false, cond, T, List, sym, ◌∙◌, arith}
use lib.Ieee.{Float, binary64, of_bits, fits}
use lib.Ieee.Bits.{of_bits-fits}
use Rattle.std.specs.Prelude.{Some, None}
use Rattle.reading.specs.Bytes.{part}
use Rattle.reading.specs.Number.{number_of}
use Rattle.reading.specs.Real.{refused_pattern, real_of}
use Rattle.reading.specs.declared.number.Order.TheVariants.{Big}
use Rattle.levels.specs.Clip.{clip_of}
use Rattle.levels.specs.Run.{run_of}
use Rattle.levels.proofs.Runs.{length_run}
use Rattle.levels.proofs.Unit.{unit}
use Rattle.opcodes.specs.Step.{value_of, coefficients_of, polynomial_of, applied_of, horner_of}
use Rattle.opcodes.proofs.Pad.{AllFit, four, polynomial_is, cubic_is}

value_fits : (b : ℕ) → T (fits binary64 (value_of (real_of binary64 b)))
unfolding real_of fits
value_fits b = go (refused_pattern binary64 b)
  where
    go : (t : Bool) → T (fits binary64 (value_of (cond t None (Some (of_bits binary64 b)))))
    go true = tt
    go false = of_bits-fits binary64 b

coefficients_fit : (f : List ℕ) (at n : ℕ) → AllFit (coefficients_of f at n)
unfolding run_of
coefficients_fit f at zero = tt
coefficients_fit f at (suc n) = (value_fits _, coefficients_fit f (at + 8) n)

pub polynomial_read : (f : List ℕ) (at n : ℕ) (x : Float) → suc n ≤ 9 → unit x →
    applied_of (polynomial_of (coefficients_of f at (suc n))) f x ≡ clip_of (horner_of (coefficients_of f at (suc n)) x)
unfolding run_of
polynomial_read f at n x h u =
    polynomial_is _ (coefficients_of f (at + 8) n) f x
    (rw (length_run (λ (p : ℕ). value_of (real_of binary64 (number_of Big (part f p 8)))) 8 (at + 8) n) h) (coefficients_fit f at (suc n)) u

-- up to degree 3, four coefficients will do
pub cubic_read :
    (f : List ℕ) (at n : ℕ) (x : Float) → suc n ≤ 4 → unit x →
    clip_of (horner_of (four (coefficients_of f at (suc n))) x) ≡ applied_of (polynomial_of (coefficients_of f at (suc n))) f x
unfolding run_of
cubic_read f at n x h u =
    let l : suc n ≤ 9 = omega arith in
    cubic_is _ (coefficients_of f (at + 8) n) x
    (rw (length_run (λ (p : ℕ). value_of (real_of binary64 (number_of Big (part f p 8)))) 8 (at + 8) n) h) (coefficients_fit f at (suc n)) u
    ∙ sym (polynomial_read f at n x l u)
