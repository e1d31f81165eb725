use Rattle.std.proofs.Common.{◌≡◌, ℕ, List, Result, Ok, Err, refl}
use Rattle.mdl_ast.specs.declared.items.Conf.{Conf}
use Rattle.pn_types.specs.declared.image.Image.{Image}
use Rattle.refusals.proofs.Steps.{comes_then, handed_on}
use Rattle.refusals.specs.Refusals.{Step, Then}
use Rattle.refusals.specs.declared.fault.Fault.{Fault}
use Rattle.commands.proofs.FileReadingSteps.{program_again, seen_from, configuration_from, refuses_as}
use Rattle.commands.specs.Inputs.{IsProgramOfFile, IsConfiguration}
use Rattle.commands.specs.FileReadings.{FileReading, reads}
use Rattle.commands.specs.declared.inputs.Inputs.{Inputs}
use Rattle.commands.proofs.inputs.read_inputs.Goals as goal

abbrev ended : Image → Conf → Step Inputs
ended image conf inputs = inputs ≡ Ok (record { image = image; conf = conf })

pub returns-in_err-conf-clause-inputs : goal.returns-in_err-conf-clause-inputs
returns-in_err-conf-clause-inputs g c =
    let holds = g.F.Files.holds in
    let faults = g.F.Files.faults in
    let old = c.args.files.now in
    let mid = c.read_program.new.files in
    let new = c.read_configuration.new.files in
    let sees : FileReading = reads (holds old) (faults old) (faults new) in
    let later : FileReading = reads (holds mid) (faults mid) (faults new) in
    let program = program_again (holds old) (faults old) (faults mid) (faults new) c.args.program.now c.in_ok-image.image c.in_ok-image.ensures.program in
    let more : (r : Result (List ℕ) Fault) → later c.args.conf.now r → sees c.args.conf.now r = seen_from (holds old) (holds mid) (faults old) (faults mid) (faults new) c.args.conf.now (c.in_ok-image.ensures.looks.same c.args.conf.now) (c.in_ok-image.ensures.looks.counts c.args.conf.now) in
    let why = refuses_as (λ fault. IsConfiguration later c.args.conf.now (Err fault)) (λ fault. IsConfiguration sees c.args.conf.now (Err fault)) c.in_err-conf.field-0.0 (λ fault. configuration_from later sees c.args.conf.now more (Err fault)) c.in_err-conf.ensures.configuration in
    comes_then (IsProgramOfFile sees c.args.program.now) (λ image. Then (IsConfiguration sees c.args.conf.now) (ended image)) c.in_ok-image.image c.from_residual-in_err-conf.result program
    (handed_on (IsConfiguration sees c.args.conf.now) (ended c.in_ok-image.image) c.in_err-conf.field-0.0 c.from_residual-in_err-conf.result c.from_residual-in_err-conf.ensures why)

pub returns-clause-inputs : goal.returns-clause-inputs
returns-clause-inputs g c =
    let holds = g.F.Files.holds in
    let faults = g.F.Files.faults in
    let old = c.args.files.now in
    let mid = c.read_program.new.files in
    let new = c.read_configuration.new.files in
    let sees : FileReading = reads (holds old) (faults old) (faults new) in
    let later : FileReading = reads (holds mid) (faults mid) (faults new) in
    let program = program_again (holds old) (faults old) (faults mid) (faults new) c.args.program.now c.in_ok-image.image c.in_ok-image.ensures.program in
    let more : (r : Result (List ℕ) Fault) → later c.args.conf.now r → sees c.args.conf.now r = seen_from (holds old) (holds mid) (faults old) (faults mid) (faults new) c.args.conf.now (c.in_ok-image.ensures.looks.same c.args.conf.now) (c.in_ok-image.ensures.looks.counts c.args.conf.now) in
    let conf = configuration_from later sees c.args.conf.now more (Ok c.in_ok-conf.conf) c.in_ok-conf.ensures.configuration in
    (Ok c.in_ok-image.image, program, (Ok c.in_ok-conf.conf, conf, refl))
