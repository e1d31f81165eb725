use Rattle.std.proofs.Common.{◌≡◌, ◌∙◌, Ok, Err, Result, ap, refl, subst, sym}
use Rattle.code_points.specs.Procedures.{skipped_of}
use Rattle.command_words.specs.Asked.{asked_session}
use Rattle.refusals.proofs.Steps.{comes_then, refused_then}
use Rattle.refusals.specs.Refusals.{Step, Then}
use Rattle.refusals.specs.declared.refusal.Refusal.{Refusal}
use Rattle.session.specs.Given.{AreGiven}
use Rattle.session_spec.specs.Inputs.{Inputs as SessionInputs}
use Rattle.commands.specs.Found.{IsFound}
use Rattle.commands.specs.Given.{inputs_with}
use Rattle.commands.specs.Inputs.{AreInputs}
use Rattle.commands.specs.Runs.{IsPrepared}
use Rattle.commands.specs.FileReadings.{FileReading, reads}
use Rattle.commands.specs.declared.finding.Found.{Found}
use Rattle.commands.specs.declared.inputs.Inputs.{Inputs}
use Rattle.commands.proofs.Prepared.{handed_gives}
use Rattle.commands.proofs.preparing.prepare.Goals as goal

pub returns-in_err-inputs-clause-prepared : goal.returns-in_err-inputs-clause-prepared
returns-in_err-inputs-clause-prepared g c =
    let r = asked_session c.args.request.now in
    let sees : FileReading = reads (g.F.Files.holds c.args.files.now) (g.F.Files.faults c.args.files.now) (g.F.Files.faults c.read_inputs.new.files) in
    let ended : Inputs → Found → Step SessionInputs = λ read found i. i ≡ Ok (inputs_with read.image found r.settings) in
    let next : Inputs → Step SessionInputs = λ read. Then (IsFound read.image r.settings.harts read.conf) (ended read) in
    let e = c.in_err-inputs.field-0.0 in
    handed_gives (IsPrepared r sees) e c.from_residual.result c.from_residual.ensures
    (refused_then (AreInputs sees r.program r.conf) next e c.in_err-inputs.ensures.inputs)

pub returns-in_err-found-clause-prepared : goal.returns-in_err-found-clause-prepared
returns-in_err-found-clause-prepared g c =
    let r = asked_session c.args.request.now in
    let sees : FileReading = reads (g.F.Files.holds c.args.files.now) (g.F.Files.faults c.args.files.now) (g.F.Files.faults c.read_inputs.new.files) in
    let ended : Inputs → Found → Step SessionInputs = λ read found i. i ≡ Ok (inputs_with read.image found r.settings) in
    let next : Inputs → Step SessionInputs = λ read. Then (IsFound read.image r.settings.harts read.conf) (ended read) in
    let read = c.in_ok-inputs.inputs in
    let e = c.in_err-found.field-0.0 in
    let refused : Result SessionInputs Refusal = Err e in
    handed_gives (IsPrepared r sees) e c.from_residual-in_err-found.result c.from_residual-in_err-found.ensures
    (comes_then (AreInputs sees r.program r.conf) next read refused c.in_ok-inputs.ensures.inputs
    (refused_then (IsFound read.image r.settings.harts read.conf) (ended read) e c.in_err-found.ensures.found))

pub returns-clause-prepared : goal.returns-clause-prepared
returns-clause-prepared g c =
    let r = asked_session c.args.request.now in
    let sees : FileReading = reads (g.F.Files.holds c.args.files.now) (g.F.Files.faults c.args.files.now) (g.F.Files.faults c.read_inputs.new.files) in
    let ended : Inputs → Found → Step SessionInputs = λ read found i. i ≡ Ok (inputs_with read.image found r.settings) in
    let next : Inputs → Step SessionInputs = λ read. Then (IsFound read.image r.settings.harts read.conf) (ended read) in
    let read = c.in_ok-inputs.inputs in
    let given : Result SessionInputs Refusal = Ok c.in_ok-prepared.prepared.inputs in
    comes_then (AreInputs sees r.program r.conf) next read given c.in_ok-inputs.ensures.inputs
    (comes_then (IsFound read.image r.settings.harts read.conf) (ended read) c.in_ok-found.found given c.in_ok-found.ensures.found
    (ap (λ (i : SessionInputs). Ok i) c.in_ok-prepared.ensures.inputs))

pub returns-clause-given : goal.returns-clause-given
returns-clause-given g c =
    subst (λ (i : SessionInputs). AreGiven i) (sym c.in_ok-prepared.ensures.inputs) (c.in_ok-found.ensures.runs c.args.request.now.settings c.requires.range refl)

pub returns-clause-skipped : goal.returns-clause-skipped
returns-clause-skipped g c =
    c.in_ok-prepared.ensures.skipped ∙ c.in_ok-found.ensures.skipped ∙ ap (λ (i : SessionInputs). skipped_of i.image) (sym c.in_ok-prepared.ensures.inputs)
