use Rattle.std.proofs.Common.{ℕ, List, subst}
use Rattle.refusals.proofs.Steps.{comes_then, handed_on}
use Rattle.refusals.specs.Refusals.{Step, Comes}
use Rattle.commands.specs.Logs.{IsLogContent, MeansLog}
use Rattle.commands.specs.FileReadings.{FileReading, reads}
use Rattle.commands.specs.declared.logs.Log.{Log}
use Rattle.commands.proofs.logs.read_log.Goals as goal

abbrev step : List ℕ → Step Log
step = MeansLog

pub returns-in_err-bytes-clause-log : goal.returns-in_err-bytes-clause-log
returns-in_err-bytes-clause-log g c =
    let sees : FileReading = reads (g.F.Files.holds c.args.files.now) (g.F.Files.faults c.args.files.now) (g.F.Files.faults c.read_file.new.files) in
    handed_on (IsLogContent sees c.args.name.now) step c.in_err-bytes.field-0.0 c.from_residual.result c.from_residual.ensures c.in_err-bytes.ensures.content

pub returns-clause-log : goal.returns-clause-log
returns-clause-log g c =
    let sees : FileReading = reads (g.F.Files.holds c.args.files.now) (g.F.Files.faults c.args.files.now) (g.F.Files.faults c.read_file.new.files) in
    comes_then (IsLogContent sees c.args.name.now) step c.in_ok-bytes.bytes c.log_of.result c.in_ok-bytes.ensures.content
    (subst (λ (bytes : List ℕ). Comes c.log_of.result (step bytes)) c.as_slice.ensures c.log_of.ensures.log)
