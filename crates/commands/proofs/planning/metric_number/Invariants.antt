use Rattle.std.proofs.Common.{◌≡◌, drop}
use Rattle.commands.specs.Plans.{metric_named}
use Rattle.commands.proofs.planning.metric_number.Given as goal

abbrev pub invariant-loop-number : goal.invariant-loop-number
invariant-loop-number l = metric_named (drop l.number l.metrics) l.name ≡ metric_named l.metrics l.name
