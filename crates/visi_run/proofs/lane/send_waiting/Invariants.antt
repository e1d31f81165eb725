use Rattle.std.proofs.Common.{◌≡◌, true, ◌++◌}
use Rattle.crossbeam_channel.specs.Claims.{view, IsSeatAt}
use Rattle.crossbeam_channel.specs.Ends.{sends_on}
use Rattle.visi_run.proofs.lane.send_waiting.Given as goal

abbrev pub invariant-send : goal.invariant-send
invariant-send g l = record {
  pass : IsSeatAt (sends_on l.sender) l.pass;
  may : (view l.pass).sends ≡ true;
  moved : (view l.pass).sent ++ l.waiting.items ≡ (view l.fn.pass).sent ++ l.fn.waiting.items;
}
