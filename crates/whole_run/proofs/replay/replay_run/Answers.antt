use Rattle.std.proofs.Common.{◌≡◌, ℕ, List, Result, Ok, Err, None, ap, subst}
use Rattle.std.specs.Prelude.{IfErr, IfOk}
use Rattle.std.specs.Global.{Vec}
use Rattle.pn_types.specs.declared.quantum.Quantum.{Quantum}
use Rattle.session.specs.Sessions.{SessionData}
use Rattle.session.specs.declared.fault.StartFault.TheVariants.{NoMemory, BadPick}
use Rattle.session_spec.specs.Inputs.{Inputs}
use Rattle.session_spec.specs.Opening.{bad_pick}
use Rattle.whole_run.specs.declared.misfit.ReplayFault.{ReplayFault}
use Rattle.whole_run.specs.declared.misfit.ReplayFault.TheVariants as fault
use Rattle.whole_run.specs.Recorded.{report_of}
use Rattle.whole_run.specs.Replayed.{IsMisfit, IsReplayFault}
use Rattle.whole_run.proofs.replay.replay_run.Goals as goal

-- where no wish is refused, quanta that don't fit are why there is no report
refused : (i : Inputs) (quanta : List Quantum) (r : Result (Vec ℕ) ReplayFault) → bad_pick i ≡ None → IfErr r (IsMisfit i quanta) → IfErr r (IsReplayFault i quanta)
refused i quanta (Ok report) none h = h
refused i quanta (Err (fault.NotOpened NoMemory)) none h = tt
refused i quanta (Err (fault.NotOpened (BadPick metric focus cause))) none h = absurd h
refused i quanta (Err (fault.Misfit misfit)) none h = (none, h.0, h.1)

pub returns-clause-report : goal.returns-clause-report
returns-clause-report g c =
    subst (λ (i : Inputs). IfOk c.run_along.result (λ report. report.items ≡ report_of i c.args.quanta.now c.args.skipped)) (ap (λ (s : SessionData). s.inputs) c.in_ok-session.ensures.begun) c.run_along.ensures.report

pub returns-clause-refused : goal.returns-clause-refused
returns-clause-refused g c =
    refused c.args.inputs c.args.quanta.now c.run_along.result c.in_ok-session.ensures.picked
    (subst (λ (i : Inputs). IfErr c.run_along.result (IsMisfit i c.args.quanta.now)) (ap (λ (s : SessionData). s.inputs) c.in_ok-session.ensures.begun) c.run_along.ensures.misfit)
