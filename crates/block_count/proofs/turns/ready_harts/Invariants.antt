use Rattle.std.proofs.Common.{◌≡◌}
use Rattle.machine.specs.Turns.{is_runnable}
use Rattle.turn_order.specs.Orders.{ready_of}
use Rattle.block_count.proofs.turns.ready_harts.Given as goal

abbrev pub invariant-loop-number : goal.invariant-loop-number
invariant-loop-number l = l.ready ≡ ready_of (is_runnable l.machine.core) l.number
