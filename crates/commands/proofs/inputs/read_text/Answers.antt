use Rattle.std.proofs.Common.{◌≡◌, ℕ, List, subst}
use Rattle.refusals.proofs.Steps.{comes_then, handed_on}
use Rattle.refusals.specs.Refusals.{Step, Comes}
use Rattle.commands.specs.Inputs.{IsProgramContent, file_of}
use Rattle.commands.specs.FileReadings.{FileReading, reads}
use Rattle.commands.proofs.inputs.read_text.Goals as goal

abbrev step : List ℕ → Step (List ℕ)
step = λ bytes file. file ≡ file_of bytes

pub returns-in_err-bytes-clause-file : goal.returns-in_err-bytes-clause-file
returns-in_err-bytes-clause-file g c =
    let sees : FileReading = reads (g.F.Files.holds c.args.files.now) (g.F.Files.faults c.args.files.now) (g.F.Files.faults c.read_program_file.new.files) in
    handed_on (IsProgramContent sees c.args.name.now) step c.in_err-bytes.field-0.0 c.from_residual.result c.from_residual.ensures c.in_err-bytes.ensures.content

pub returns-clause-file : goal.returns-clause-file
returns-clause-file g c =
    let sees : FileReading = reads (g.F.Files.holds c.args.files.now) (g.F.Files.faults c.args.files.now) (g.F.Files.faults c.read_program_file.new.files) in
    comes_then (IsProgramContent sees c.args.name.now) step c.in_ok-bytes.bytes c.make_file.result c.in_ok-bytes.ensures.content
    (subst (λ (bytes : List ℕ). Comes c.make_file.result (step bytes)) c.as_slice.ensures c.make_file.ensures)
