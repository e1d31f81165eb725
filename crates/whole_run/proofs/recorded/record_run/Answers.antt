use Rattle.std.proofs.Common.{ap, subst, sym}
use Rattle.session.specs.Given.{AreGiven}
use Rattle.session.specs.Sessions.{SessionData}
use Rattle.session_spec.specs.Inputs.{Inputs}
use Rattle.whole_run.proofs.recorded.record_run.Goals as goal

pub run_on-requires-clause-given : goal.run_on-requires-clause-given
run_on-requires-clause-given g c = subst (λ (i : Inputs). AreGiven i) (sym (ap (λ (s : SessionData). s.inputs) c.in_ok-session.ensures.begun)) c.requires.given
