use Rattle.live_run.specs.Serving.{AreHartsBelow}
use Rattle.live_run.proofs.worker.harts_of.Given as goal

abbrev pub invariant-loop-hart : goal.invariant-loop-hart
invariant-loop-hart l = AreHartsBelow l.hart l.fn.team.workers l.fn.worker l.own.items
