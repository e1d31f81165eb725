use Rattle.std.proofs.Common.{◌≡◌, false}
use Rattle.whole_run.proofs.Following.{Following}
use Rattle.whole_run.proofs.replay.follow.Given as goal

abbrev pub invariant-quanta : goal.invariant-quanta
invariant-quanta g l = record {
  follows : Following l.session.inputs l.quanta l.number l.session.quanta;
  inputs : l.session.inputs ≡ l.initial.session.inputs;
  going : l.session.closed ≡ false;
}
