use Rattle.live_run.specs.Serving.{IsServing}
use Rattle.live_run.proofs.worker.serve.Given as goal

abbrev pub invariant-serve : goal.invariant-serve
invariant-serve g l = record {
  can : (goal.iterator-serve g).can_next l.iterator';
  finite : (goal.iterator-serve g).is_finite l.iterator';
  serving : IsServing l.fn.team.harts l.fn.team.workers l.fn.team.turns l.fn.seat.worker l.waits.items l.seat;
}
