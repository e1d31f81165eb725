use Rattle.std.proofs.Common.{◌∙◌, ap, refl, subst, sym}
use Rattle.code_points.specs.Procedures.{skipped_of}
use Rattle.refusals.specs.Refusals.{Comes}
use Rattle.session.specs.Given.{AreGiven}
use Rattle.session_spec.specs.Inputs.{Inputs}
use Rattle.commands.specs.Runs.{IsInOrder, IsSession, report_alone}
use Rattle.commands.proofs.directing.direct_found.Goals as goal

pub prepare_found-requires-clause-procs : goal.prepare_found-requires-clause-procs
prepare_found-requires-clause-procs g c = (c.requires.runs c.args.request.now.session.settings c.requires.ranges.0 refl).procs

pub prepare_found-requires-clause-points : goal.prepare_found-requires-clause-points
prepare_found-requires-clause-points g c = (c.requires.runs c.args.request.now.session.settings c.requires.ranges.0 refl).points

pub direct_prepared-requires-clause-given : goal.direct_prepared-requires-clause-given
direct_prepared-requires-clause-given g c =
    subst (λ (i : Inputs). AreGiven i) (sym c.in_ok-prepared.ensures.inputs) (c.requires.runs c.args.request.now.session.settings c.requires.ranges.0 refl)

pub direct_prepared-requires-clause-skipped : goal.direct_prepared-requires-clause-skipped
direct_prepared-requires-clause-skipped g c =
    c.in_ok-prepared.ensures.skipped ∙ c.requires.skipped ∙ ap (λ (i : Inputs). skipped_of i.image) (sym c.in_ok-prepared.ensures.inputs)

pub returns : goal.returns
returns g c =
    subst (λ (i : Inputs). Comes c.direct_prepared.result (IsSession (IsInOrder c.args.request.now.order) report_alone i)) c.in_ok-prepared.ensures.inputs
    c.direct_prepared.ensures
