use Rattle.std.proofs.Common.{ℕ, List, Some, ap, subst}
use Rattle.std.specs.Prelude.{codes}
use Rattle.command_words.specs.Asked.{asked_stress}
use Rattle.command_words.specs.Requests.{SessionRequest}
use Rattle.outside.specs.Outside.{Holding}
use Rattle.outside.specs.SureFiles.{held_in}
use Rattle.refusals.specs.Refusals.{Comes}
use Rattle.commands.specs.Preparing.{IsPreparedOf}
use Rattle.commands.specs.Runs.{IsPrepared, stress_session, stress_sight}
use Rattle.commands.specs.FileReadings.{FileReading, reads}
use Rattle.commands.proofs.Prepared.{gives_as}
use Rattle.commands.proofs.FileReadingSteps.{prepared_from, seen_sure}
use Rattle.stress_run.specs.Configuration.{configuration_text}
use Rattle.stress_run.specs.Program.{program_text}
use Rattle.commands.proofs.stressing.prepare_made.Goals as goal

pub returns-clause-prepared : goal.returns-clause-prepared
returns-clause-prepared c =
    let r = asked_stress c.args.request in
    let holds : List ℕ → Holding = held_in c.in_ok-files.files in
    let sees : FileReading = reads holds (λ name. 0) (λ name. 0) in
    gives_as (IsPrepared stress_session sees) (IsPrepared stress_session (stress_sight r))
    (prepared_from sees (stress_sight r) stress_session
    (seen_sure holds (codes "program") (program_text r.procs r.seed) (ap (λ (b : List ℕ). Some (Some b)) c.in_ok-files.ensures.program))
    (seen_sure holds (codes "configuration") (configuration_text r.procs) (ap (λ (b : List ℕ). Some (Some b)) c.in_ok-files.ensures.conf)))
    c.prepare.result (subst (λ (s : SessionRequest). Comes c.prepare.result (IsPreparedOf (IsPrepared s sees))) c.session.ensures c.prepare.ensures.prepared)
