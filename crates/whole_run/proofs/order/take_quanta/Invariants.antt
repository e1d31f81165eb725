use Rattle.std.proofs.Common.{◌≡◌, length}
use Rattle.whole_run.specs.Rounds.{StandAt}
use Rattle.whole_run.proofs.order.take_quanta.Given as goal

abbrev pub invariant-quanta : goal.invariant-quanta
invariant-quanta g l = record {
  stand : StandAt l.rounds l.session;
  seed : l.rounds.seed ≡ l.seed;
  turns : l.rounds.turns ≡ l.turns;
  inputs : l.session.inputs ≡ l.initial.session.inputs;
  number : length l.session.quanta ≡ l.counter;
}
