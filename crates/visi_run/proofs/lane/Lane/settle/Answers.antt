use Rattle.std.proofs.Common.{ap}
use Rattle.visi_run.specs.declared.line.Log.{Log}
use Rattle.visi_run.proofs.Relays.{merges}
use Rattle.visi_run.proofs.lane.Lane.settle.Goals as goal

pub absorb-requires-clause-rule : goal.absorb-requires-clause-rule
absorb-requires-clause-rule g c = merges _ _ _ _ c.self.invariant.may (ap (λ (v : Log). v.takes) c.watch.invariant.is)
