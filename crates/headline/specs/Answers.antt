-- What an answer of the top call leaves: the status, and the bytes for the output and for the log.
use Rattle.std.specs.Prelude.{ℕ, Result, Ok, Err}
use Rattle.commands.specs.Output.{output}
use Rattle.commands.specs.declared.texts.Texts.{Texts}
use Rattle.refusals.specs.Faults.{fault_line, fault_status}
use Rattle.refusals.specs.declared.fault.Fault.{Fault}

-- An answer gives texts, or refuses with a fault, whose line is the output.
abbrev pub status_of : Result Texts Fault → ℕ
status_of (Ok texts) = 0
status_of (Err fault) = fault_status fault

abbrev pub texts_of : Result Texts Fault → Texts
texts_of (Ok texts) = texts
texts_of (Err fault) = output (fault_line fault)
