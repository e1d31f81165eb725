use Rattle.std.proofs.Common.{◌∙◌, ap, refl, subst, sym}
use Rattle.code_points.specs.Procedures.{skipped_of}
use Rattle.refusals.specs.Refusals.{Comes}
use Rattle.session.specs.Given.{AreGiven}
use Rattle.session_spec.specs.Inputs.{Inputs}
use Rattle.commands.specs.Replays.{IsReplayWith}
use Rattle.commands.proofs.replaying.replay_found.Goals as goal

pub replay_prepared-requires-clause-given : goal.replay_prepared-requires-clause-given
replay_prepared-requires-clause-given g c =
    subst (λ (i : Inputs). AreGiven i) (sym c.in_ok-prepared.ensures.inputs) (c.requires.runs c.args.log.now.settings c.requires.spelled.settings refl)

pub replay_prepared-requires-clause-skipped : goal.replay_prepared-requires-clause-skipped
replay_prepared-requires-clause-skipped g c =
    c.in_ok-prepared.ensures.skipped ∙ c.requires.skipped ∙ ap (λ (i : Inputs). skipped_of i.image) (sym c.in_ok-prepared.ensures.inputs)

pub prepare_found-requires-clause-procs : goal.prepare_found-requires-clause-procs
prepare_found-requires-clause-procs g c = (c.requires.runs c.args.log.now.settings c.requires.spelled.settings refl).procs

pub prepare_found-requires-clause-points : goal.prepare_found-requires-clause-points
prepare_found-requires-clause-points g c = (c.requires.runs c.args.log.now.settings c.requires.spelled.settings refl).points

pub returns : goal.returns
returns g c =
    subst (λ (i : Inputs). Comes c.replay_prepared.result (IsReplayWith c.args.log.now i)) c.in_ok-prepared.ensures.inputs c.replay_prepared.ensures
