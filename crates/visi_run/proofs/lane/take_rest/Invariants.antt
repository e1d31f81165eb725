use Rattle.std.proofs.Common.{◌≡◌, true}
use Rattle.crossbeam_channel.specs.Claims.{view, IsSeatAt}
use Rattle.crossbeam_channel.specs.Ends.{receives_on}
use Rattle.visi_run.specs.Lines.{log}
use Rattle.visi_run.proofs.lane.take_rest.Given as goal

abbrev pub invariant-rest : goal.invariant-rest
invariant-rest g l = record {
  pass : IsSeatAt (receives_on l.receiver) l.pass;
  is : view l.pass ≡ log true true (view l.fn.pass).sent l.taken.items;
}
