use Rattle.std.proofs.Common.{◌≡◌, ℕ, List, subst}
use Rattle.pn_types.specs.declared.image.Image.{Image}
use Rattle.refusals.proofs.Steps.{comes_then, handed_on}
use Rattle.refusals.specs.Refusals.{Step, Comes}
use Rattle.commands.specs.Inputs.{IsProgramContent, image_of}
use Rattle.commands.specs.FileReadings.{FileReading, reads}
use Rattle.commands.proofs.inputs.read_program.Goals as goal

abbrev step : List ℕ → Step Image
step = λ bytes image. image ≡ image_of bytes

pub returns-in_err-bytes-clause-program : goal.returns-in_err-bytes-clause-program
returns-in_err-bytes-clause-program g c =
    let sees : FileReading = reads (g.F.Files.holds c.args.files.now) (g.F.Files.faults c.args.files.now) (g.F.Files.faults c.read_program_file.new.files) in
    handed_on (IsProgramContent sees c.args.name.now) step c.in_err-bytes.field-0.0 c.from_residual.result c.from_residual.ensures c.in_err-bytes.ensures.content

pub returns-clause-program : goal.returns-clause-program
returns-clause-program g c =
    let sees : FileReading = reads (g.F.Files.holds c.args.files.now) (g.F.Files.faults c.args.files.now) (g.F.Files.faults c.read_program_file.new.files) in
    comes_then (IsProgramContent sees c.args.name.now) step c.in_ok-bytes.bytes c.load.result c.in_ok-bytes.ensures.content
    (subst (λ (bytes : List ℕ). Comes c.load.result (step bytes)) c.as_slice.ensures c.load.ensures.loads)
