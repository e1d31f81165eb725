use Rattle.command_words.specs.Asked.{asked_plan}
use Rattle.refusals.proofs.Steps.{comes_then, handed_on}
use Rattle.refusals.specs.Refusals.{Step, Then}
use Rattle.commands.specs.Plans.{IsPlan}
use Rattle.commands.specs.Found.{IsFound}
use Rattle.commands.specs.Inputs.{AreInputs}
use Rattle.commands.specs.FileReadings.{FileReading, reads}
use Rattle.commands.specs.declared.inputs.Inputs.{Inputs}
use Rattle.commands.specs.declared.texts.Texts.{Texts}
use Rattle.commands.proofs.planning.plan.Goals as goal

pub returns-in_err-found-clause-due : goal.returns-in_err-found-clause-due
returns-in_err-found-clause-due g c =
    let p = asked_plan c.args.request.now in
    let sees : FileReading = reads (g.F.Files.holds c.args.files.now) (g.F.Files.faults c.args.files.now) (g.F.Files.faults c.read_inputs.new.files) in
    let next : Inputs → Step Texts = λ i. Then (IsFound i.image p.harts i.conf) (IsPlan p) in
    let i = c.in_ok-inputs.inputs in
    comes_then (AreInputs sees p.program p.conf) next i c.from_residual-in_err-found.result c.in_ok-inputs.ensures.inputs
    (handed_on (IsFound i.image p.harts i.conf) (IsPlan p) c.in_err-found.field-0.0 c.from_residual-in_err-found.result c.from_residual-in_err-found.ensures c.in_err-found.ensures.found)

pub returns-clause-due : goal.returns-clause-due
returns-clause-due g c =
    let p = asked_plan c.args.request.now in
    let sees : FileReading = reads (g.F.Files.holds c.args.files.now) (g.F.Files.faults c.args.files.now) (g.F.Files.faults c.read_inputs.new.files) in
    let next : Inputs → Step Texts = λ i. Then (IsFound i.image p.harts i.conf) (IsPlan p) in
    let i = c.in_ok-inputs.inputs in
    comes_then (AreInputs sees p.program p.conf) next i c.plan_found.result c.in_ok-inputs.ensures.inputs
    (comes_then (IsFound i.image p.harts i.conf) (IsPlan p) c.in_ok-found.found c.plan_found.result c.in_ok-found.ensures.found c.plan_found.ensures)
