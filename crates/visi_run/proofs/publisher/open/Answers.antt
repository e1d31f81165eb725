use Rattle.std.proofs.Common.{ap}
use Rattle.visi_run.specs.declared.line.Log.{Log}
use Rattle.visi_run.proofs.Relays.{begins, forks}
use Rattle.visi_run.proofs.publisher.open.Goals as goal

pub bounded_with-requires-clause-rule : goal.bounded_with-requires-clause-rule
bounded_with-requires-clause-rule c = begins

pub another-other-requires-clause-rule : goal.another-other-requires-clause-rule
another-other-requires-clause-rule c = let v = c.in_ok-sender.ensures.3 in forks _ _ (ap (λ (v : Log). v.sends) v) (ap (λ (v : Log). v.takes) v)
