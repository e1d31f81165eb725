use Rattle.std.proofs.Common.{ℕ, List, subst}
use Rattle.directives.specs.declared.directive.Directive.{Directive}
use Rattle.refusals.proofs.Steps.{comes_then, handed_on}
use Rattle.refusals.specs.Refusals.{Step, Comes}
use Rattle.commands.specs.Directing.{IsDirectivesContent, MeansDirectives}
use Rattle.commands.specs.FileReadings.{FileReading, reads}
use Rattle.commands.proofs.directing.read_directions.Goals as goal

abbrev step : List ℕ → Step (List Directive)
step = MeansDirectives

pub returns-in_err-text-clause-directives : goal.returns-in_err-text-clause-directives
returns-in_err-text-clause-directives g c =
    let sees : FileReading = reads (g.F.Files.holds c.args.files.now) (g.F.Files.faults c.args.files.now) (g.F.Files.faults c.read_file.new.files) in
    handed_on (IsDirectivesContent sees c.args.name.now) step c.in_err-text.field-0.0 c.from_residual.result c.from_residual.ensures c.in_err-text.ensures.content

pub returns-clause-directives : goal.returns-clause-directives
returns-clause-directives g c =
    let sees : FileReading = reads (g.F.Files.holds c.args.files.now) (g.F.Files.faults c.args.files.now) (g.F.Files.faults c.read_file.new.files) in
    comes_then (IsDirectivesContent sees c.args.name.now) step c.in_ok-text.text c.directives_in.result c.in_ok-text.ensures.content
    (subst (λ (bytes : List ℕ). Comes c.directives_in.result (step bytes)) c.as_slice.ensures c.directives_in.ensures)
