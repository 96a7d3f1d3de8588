use Rattle.std.proofs.Common.{◌+◌, refl}
use Rattle.std.proofs.lemmas.Result.{err_from_is_err_and}
use Rattle.reading.specs.Bytes.{part}
use Rattle.reading.proofs.Bytes.{cut}
use Rattle.opcodes.proofs.OpcodeLists.{carried_listed}
use Rattle.opcodes.proofs.Listing.{parameters_kept, parameters_refused, carried_run, optional_run, compulsory_run}
use Rattle.opcodes.proofs.list.judge.Goals as goal

pub kind_of-kind-requires : goal.kind_of-kind-requires
kind_of-kind-requires c = carried_listed c.args.header c.in-Carried.ensures

pub returns-in_err-test_parameters-in-Carried : goal.returns-in_err-test_parameters-in-Carried
returns-in_err-test_parameters-in-Carried c =
    let a = c.args in
    let p = err_from_is_err_and c.from_residual.result c.from_residual.ensures.1 in
    rw (p.1, p.2, ← c.in-Carried.ensures, carried_run a.file.now a.size a.i a.at a.header)
    (parameters_refused a.size a.i a.header.id (part a.file.now (a.at + 16) a.header.length) a.counts
    (rw (cut a.file.now (a.at + 16) a.header.length, c.kind_of-kind.ensures) at c.in_err-test_parameters-in-Carried.ensures))

pub returns-in_ok-test_parameters-in-Carried : goal.returns-in_ok-test_parameters-in-Carried
returns-in_ok-test_parameters-in-Carried c =
    let a = c.args in
    rw (← c.in-Carried.ensures, carried_run a.file.now a.size a.i a.at a.header)
    (parameters_kept a.size a.i a.header.id (part a.file.now (a.at + 16) a.header.length) a.counts
    (rw (cut a.file.now (a.at + 16) a.header.length, c.kind_of-kind.ensures) at c.in_ok-test_parameters-in-Carried.ensures))

pub returns-in-Optional : goal.returns-in-Optional
returns-in-Optional c =
    let a = c.args in
    rw (← c.in-Optional.ensures, optional_run a.file.now a.size a.i a.at a.header) refl

pub returns-in-Compulsory : goal.returns-in-Compulsory
returns-in-Compulsory c =
    let a = c.args in
    rw (← c.in-Compulsory.ensures, compulsory_run a.file.now a.size a.i a.at a.header) refl
