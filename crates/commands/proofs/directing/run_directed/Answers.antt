use Rattle.command_words.specs.Asked.{asked_direct}
use Rattle.refusals.proofs.Steps.{comes_then, handed_on}
use Rattle.refusals.specs.Refusals.{Step}
use Rattle.commands.specs.Found.{IsFound}
use Rattle.commands.specs.Given.{inputs_with}
use Rattle.commands.specs.Runs.{IsInOrder, IsSession, report_alone}
use Rattle.commands.specs.declared.finding.Found.{Found}
use Rattle.commands.specs.declared.texts.Texts.{Texts}
use Rattle.commands.proofs.directing.run_directed.Goals as goal

pub returns-in_err-found : goal.returns-in_err-found
returns-in_err-found g c =
    let r = asked_direct c.args.request.now in
    let next : Found → Step Texts = λ found. IsSession (IsInOrder r.order) report_alone (inputs_with c.args.image found r.session.settings) in
    handed_on (IsFound c.args.image r.session.settings.harts c.args.conf.now) next c.in_err-found.field-0.0 c.from_residual.result c.from_residual.ensures c.in_err-found.ensures.found

pub returns : goal.returns
returns g c =
    let r = asked_direct c.args.request.now in
    let next : Found → Step Texts = λ found. IsSession (IsInOrder r.order) report_alone (inputs_with c.args.image found r.session.settings) in
    comes_then (IsFound c.args.image r.session.settings.harts c.args.conf.now) next c.in_ok-found.found c.direct_found.result c.in_ok-found.ensures.found c.direct_found.ensures
