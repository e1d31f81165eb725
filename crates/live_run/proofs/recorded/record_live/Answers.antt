use Rattle.std.proofs.Common.{ap, subst, sym}
use Rattle.session.specs.Given.{AreGiven}
use Rattle.session.specs.Sessions.{SessionData}
use Rattle.session_spec.specs.Inputs.{Inputs}
use Rattle.live_run.proofs.recorded.record_live.Goals as goal

pub live_on-requires-clause-given : goal.live_on-requires-clause-given
live_on-requires-clause-given g c κs within = subst (λ (i : Inputs). AreGiven i) (sym (ap (λ (s : SessionData). s.inputs) c.in_ok-session.ensures.begun)) c.requires.given
