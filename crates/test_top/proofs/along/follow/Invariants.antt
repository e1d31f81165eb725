use Rattle.std.proofs.Common.{◌≡◌, false}
use Rattle.test_top.proofs.along.follow.Given as goal

abbrev pub invariant-quanta : goal.invariant-quanta
invariant-quanta l = record {
  harts : l.session.inputs.settings.harts ≡ l.initial.session.inputs.settings.harts;
  going : l.session.closed ≡ false;
}
