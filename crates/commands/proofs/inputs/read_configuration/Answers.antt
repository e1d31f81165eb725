use Rattle.std.proofs.Common.{ℕ, List, subst}
use Rattle.mdl_ast.specs.declared.items.Conf.{Conf}
use Rattle.refusals.proofs.Steps.{comes_then, handed_on}
use Rattle.refusals.specs.Refusals.{Step, Comes}
use Rattle.commands.specs.Inputs.{IsConfContent, MeansConf}
use Rattle.commands.specs.FileReadings.{FileReading, reads}
use Rattle.commands.proofs.inputs.read_configuration.Goals as goal

abbrev step : List ℕ → Step Conf
step = MeansConf

pub returns-in_err-bytes-clause-configuration : goal.returns-in_err-bytes-clause-configuration
returns-in_err-bytes-clause-configuration g c =
    let sees : FileReading = reads (g.F.Files.holds c.args.files.now) (g.F.Files.faults c.args.files.now) (g.F.Files.faults c.read_file.new.files) in
    handed_on (IsConfContent sees c.args.name.now) step c.in_err-bytes.field-0.0 c.from_residual.result c.from_residual.ensures c.in_err-bytes.ensures.content

pub returns-clause-configuration : goal.returns-clause-configuration
returns-clause-configuration g c =
    let sees : FileReading = reads (g.F.Files.holds c.args.files.now) (g.F.Files.faults c.args.files.now) (g.F.Files.faults c.read_file.new.files) in
    comes_then (IsConfContent sees c.args.name.now) step c.in_ok-bytes.bytes c.configuration.result c.in_ok-bytes.ensures.content
    (subst (λ (bytes : List ℕ). Comes c.configuration.result (step bytes)) c.as_slice.ensures c.configuration.ensures.means)
