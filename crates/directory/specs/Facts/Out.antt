-- What a function of the code answers as `Out`.
use Rattle.std.specs.Prelude.{ℕ, Result, Ok, Err}
use Rattle.directory.specs.declared.refusal.Refusal.{Refusal}
use Rattle.directory.specs.Refusal.{number_of, detail_of}
use Rattle.directory.specs.Out.{Out, Out.refused, Out.is}

-- a value, or its refusal
abbrev pub out : {A : Type 0} → Result A Refusal → Out A
out (Err r) = refused (number_of r) (detail_of r)
out (Ok v) = is v

-- a test that hands nothing on
abbrev pub passed : Result (Unit {0}) Refusal → Out ℕ
passed (Err r) = refused (number_of r) (detail_of r)
passed (Ok u) = is 0
