use Rattle.std.proofs.Common.{◌≡◌}
use Rattle.std.specs.Prelude.{false}
use Rattle.session.specs.Sessions.{state_of}
use Rattle.whole_run.specs.Rounds.{StandAt}
use Rattle.visi_run.specs.Steps.{HasPublished}
use Rattle.visi_run.proofs.run.take_all.Given as goal

-- all samples so far are published, to the same views
abbrev pub invariant-quanta : goal.invariant-quanta
invariant-quanta g l = record {
  stand : StandAt l.rounds l.session;
  seed : l.rounds.seed ≡ l.fn.rounds.seed;
  turns : l.rounds.turns ≡ l.fn.rounds.turns;
  inputs : l.session.inputs ≡ l.initial.session.inputs;
  told : HasPublished l.outlet (state_of l.session) false;
  lines : l.outlet.publisher.lines ≡ l.initial.outlet.publisher.lines;
  cell : l.outlet.writer.cell ≡ l.initial.outlet.writer.cell;
}
