use Rattle.visi_run.specs.Watching.{IsSameSeat}
use Rattle.visi_run.proofs.view.follow.Given as goal

abbrev pub invariant-follow : goal.invariant-follow
invariant-follow g l = IsSameSeat l.fn.seat l.seat
