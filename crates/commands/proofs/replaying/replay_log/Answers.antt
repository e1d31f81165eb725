use Rattle.refusals.proofs.Steps.{comes_then, handed_on}
use Rattle.commands.specs.Found.{IsFound}
use Rattle.commands.specs.Replays.{IsReplay}
use Rattle.commands.proofs.replaying.replay_log.Goals as goal

pub returns-in_err-found : goal.returns-in_err-found
returns-in_err-found g c =
    let i = c.args.inputs in
    let log = c.args.log.now in
    handed_on (IsFound i.image log.settings.harts i.conf) (IsReplay log i.image) c.in_err-found.field-0.0 c.from_residual.result c.from_residual.ensures c.in_err-found.ensures.found

pub returns : goal.returns
returns g c =
    let i = c.args.inputs in
    let log = c.args.log.now in
    comes_then (IsFound i.image log.settings.harts i.conf) (IsReplay log i.image) c.in_ok-found.found c.replay_found.result c.in_ok-found.ensures.found c.replay_found.ensures
