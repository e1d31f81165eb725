use Rattle.std.proofs.Common.{ap, subst, sym}
use Rattle.std.specs.List.{AllByRecursion}
use Rattle.quanta_log.specs.Spelling.{IsQuantum}
use Rattle.session.specs.Sessions.{SessionData}
use Rattle.session_spec.specs.Inputs.{Inputs}
use Rattle.test_top.proofs.along.report_of.Goals as goal

pub follow-requires-clause-going : goal.follow-requires-clause-going
follow-requires-clause-going c = ap (λ (s : SessionData). s.closed) c.in-Ok.ensures.begun

pub follow-requires-clause-quanta : goal.follow-requires-clause-quanta
follow-requires-clause-quanta c =
    subst (λ (i : Inputs). AllByRecursion (IsQuantum i.settings.harts) c.args.quanta.now) (sym (ap (λ (s : SessionData). s.inputs) c.in-Ok.ensures.begun)) c.requires.quanta.quanta
