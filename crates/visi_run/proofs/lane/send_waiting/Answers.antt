use Rattle.visi_run.proofs.Relays.{sends}
use Rattle.visi_run.proofs.lane.send_waiting.Goals as goal

pub try_send_as-requires-clause-rule : goal.try_send_as-requires-clause-rule
try_send_as-requires-clause-rule g c = (sends _ _ _ _ c.send.invariant.may, λ items views h at. tt)
