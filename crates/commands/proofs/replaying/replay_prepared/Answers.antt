use Rattle.std.proofs.Common.{◌≡◌, subst, sym}
use Rattle.session.specs.Sessions.{IsStartFault}
use Rattle.session.specs.declared.fault.StartFault.{StartFault}
use Rattle.whole_run.specs.Replayed.{IsReplayFault, misfit_of}
use Rattle.whole_run.specs.declared.misfit.ReplayFault.{ReplayFault}
use Rattle.commands.specs.Replays.{replayed}
use Rattle.commands.proofs.Opened.{unopened_is}
use Rattle.commands.proofs.replaying.replay_prepared.Goals as goal

pub returns-in-Err-NotOpened : goal.returns-in-Err-NotOpened
returns-in-Err-NotOpened g c =
    let i = c.args.prepared.inputs in
    let log = c.args.log.now in
    let refused : IsStartFault i c.in-Err-NotOpened.fault =
    subst (λ (e : ReplayFault). IsReplayFault i c.as_slice-quanta.result.now e) c.in-Err-NotOpened.field-0-is c.in-Err-NotOpened.ensures.refused in
    unopened_is i (λ texts. texts ≡ replayed (misfit_of i log.quanta) log i) c.unopened.result
    (c.unopened.ensures i (subst (λ (f : StartFault). IsStartFault i f) (sym c.in-Err-NotOpened.fault-is) refused))
