-- For proofs alone: what was prepared, as a session is given it.
use Rattle.std.specs.Prelude.{Result, Ok, Err}
use Rattle.refusals.specs.Refusals.{Step}
use Rattle.refusals.specs.declared.fault.Fault.{Fault}
use Rattle.session_spec.specs.Inputs.{Inputs}
use Rattle.commands.specs.declared.preparing.Prepared.{Prepared}

abbrev pub inputs_in : Result Prepared Fault → Result Inputs Fault
inputs_in (Ok prepared) = Ok prepared.inputs
inputs_in (Err fault) = Err fault

-- what was prepared is what a session is given
abbrev pub IsPreparedOf : Step Inputs → Step Prepared
IsPreparedOf given prepared = given (inputs_in prepared)
