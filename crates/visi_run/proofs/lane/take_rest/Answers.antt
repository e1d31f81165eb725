use Rattle.std.proofs.Common.{ap}
use Rattle.visi_run.specs.declared.line.Log.{Log}
use Rattle.visi_run.proofs.Relays.{gets, totals}
use Rattle.visi_run.proofs.lane.take_rest.Goals as goal

pub try_recv_as-requires-clause-rule : goal.try_recv_as-requires-clause-rule
try_recv_as-requires-clause-rule g c = let i = c.rest.invariant.is in (gets _ _ (ap (λ (v : Log). v.takes) i), totals _ _ (ap (λ (v : Log). v.sends) i) (ap (λ (v : Log). v.takes) i))
