use Rattle.std.proofs.Common.{ℕ, List, Result, subst, sym}
use Rattle.command_words.specs.Asked.{asked_direct}
use Rattle.mdl_shipped.specs.Shipped.{shipped_conf}
use Rattle.directives.specs.Applying.{IsAccepted}
use Rattle.refusals.proofs.Steps.{comes_then, handed_on}
use Rattle.refusals.specs.Refusals.{Step, Then}
use Rattle.refusals.specs.declared.fault.Fault.{Fault}
use Rattle.resource_tree.specs.Resources.{Resources}
use Rattle.commands.proofs.Behind.{looks_behind}
use Rattle.commands.proofs.FileReadingSteps.{comes_as, direction_from, inputs_again, seen_from}
use Rattle.commands.specs.Directing.{IsDirection}
use Rattle.commands.specs.Found.{IsFound}
use Rattle.commands.specs.Inputs.{AreInputs}
use Rattle.commands.specs.FileReadings.{FileReading, reads}
use Rattle.commands.specs.declared.inputs.Inputs.{Inputs}
use Rattle.commands.specs.declared.texts.Texts.{Texts}
use Rattle.commands.proofs.directing.direct.Goals as goal

pub returns-in_err-found-clause-due : goal.returns-in_err-found-clause-due
returns-in_err-found-clause-due g c =
    let r = asked_direct c.args.request.now in
    let sees : FileReading = reads (g.F.Files.holds c.args.files.now) (g.F.Files.faults c.args.files.now) (g.F.Files.faults c.read_inputs.new.files) in
    let next : Inputs → Step Texts = λ i. Then (IsFound i.image r.session.settings.harts i.conf) (λ found. IsDirection r sees i) in
    let i = c.in_ok-inputs.inputs in
    comes_then (AreInputs sees r.session.program r.session.conf) next i c.from_residual-in_err-found.result c.in_ok-inputs.ensures.inputs
    (handed_on (IsFound i.image r.session.settings.harts i.conf) (λ found. IsDirection r sees i) c.in_err-found.field-0.0 c.from_residual-in_err-found.result c.from_residual-in_err-found.ensures c.in_err-found.ensures.found)

pub follow_directions-requires-clause-accepted : goal.follow_directions-requires-clause-accepted
unfolding IsAccepted
follow_directions-requires-clause-accepted g c =
    let found = c.in_ok-found.ensures.found in
    subst (λ (t : Resources). IsAccepted t shipped_conf.items c.in_ok-inputs.inputs.conf.items) (sym found.tree) (c.in_ok-found.found.checked, found.checked)

pub returns-clause-due : goal.returns-clause-due
returns-clause-due g c =
    let holds = g.F.Files.holds in
    let faults = g.F.Files.faults in
    let r = asked_direct c.args.request.now in
    let old = c.args.files.now in
    let mid = c.read_inputs.new.files in
    let new = c.follow_directions.new.files in
    let sees : FileReading = reads (holds old) (faults old) (faults new) in
    let later : FileReading = reads (holds mid) (faults mid) (faults new) in
    let i = c.in_ok-inputs.inputs in
    let next : Inputs → Step Texts = λ i. Then (IsFound i.image r.session.settings.harts i.conf) (λ found. IsDirection r sees i) in
    let inputs = inputs_again (holds old) (faults old) (faults mid) (faults new) r.session.program r.session.conf i c.in_ok-inputs.ensures.inputs in
    let more : (x : Result (List ℕ) Fault) → later r.directives x → sees r.directives x = seen_from (holds old) (holds mid) (faults old) (faults mid) (faults new) r.directives (c.in_ok-inputs.ensures.looks.same r.directives) (c.in_ok-inputs.ensures.looks.counts r.directives) in
    comes_then (AreInputs sees r.session.program r.session.conf) next i c.follow_directions.result inputs
    (comes_then (IsFound i.image r.session.settings.harts i.conf) (λ found. IsDirection r sees i) c.in_ok-found.found c.follow_directions.result c.in_ok-found.ensures.found
    (comes_as (IsDirection r later i) (IsDirection r sees i) (direction_from later sees r more i) c.follow_directions.result c.follow_directions.ensures.due))

pub returns-clause-looks : goal.returns-clause-looks
returns-clause-looks g c =
    looks_behind g.F.Files.holds g.F.Files.faults c.args.files.now c.read_inputs.new.files c.follow_directions.new.files c.in_ok-inputs.ensures.looks.same c.in_ok-inputs.ensures.looks.counts
    c.follow_directions.result c.follow_directions.ensures.looks
