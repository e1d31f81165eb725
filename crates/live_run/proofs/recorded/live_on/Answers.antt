use Rattle.std.proofs.Common.{subst, sym}
use Rattle.std.proofs.lemmas.Result.{IfOk-weaker}
use Rattle.session.specs.Given.{AreGiven}
use Rattle.session_spec.specs.Inputs.{Inputs}
use Rattle.whole_run.specs.Recorded.{IsRecordOf}
use Rattle.live_run.proofs.recorded.live_on.Goals as goal

pub record_end-requires-clause-given : goal.record_end-requires-clause-given
record_end-requires-clause-given g c = subst (λ (i : Inputs). AreGiven i) (sym c.in_ok-session.ensures.inputs) c.requires.given

pub returns : goal.returns
returns g c = IfOk-weaker c.record_end.result _ _
    (λ recorded are. record {
      quanta = c.in_ok-session.session.quanta;
      shared = record { whole = c.in_ok-session.ensures.whole; by_workers = c.in_ok-session.ensures.by_workers };
      record_of = subst (λ (i : Inputs). IsRecordOf i c.in_ok-session.session.quanta c.args.course.now.skipped recorded) c.in_ok-session.ensures.inputs are;
    })
    c.record_end.ensures
