use Rattle.std.proofs.Common.{ap}
use Rattle.visi_run.specs.declared.line.Log.{Log}
use Rattle.visi_run.proofs.Relays.{gets}
use Rattle.visi_run.proofs.publisher.View.take.Goals as goal

pub try_recv_as-requires-clause-rule : goal.try_recv_as-requires-clause-rule
try_recv_as-requires-clause-rule g c = (gets _ _ (ap (λ (v : Log). v.takes) c.self.invariant.is), λ items views h at. tt)
