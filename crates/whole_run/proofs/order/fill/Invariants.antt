use Rattle.std.proofs.Common.{◌≡◌, ◌<◌, length}
use Rattle.pn_types.specs.declared.limits.TheConstants.{MAX_QUANTA}
use Rattle.turn_order.specs.Orders.{ready_of}
use Rattle.whole_run.proofs.Ordered.{may_go}
use Rattle.whole_run.proofs.order.fill.Given as goal

abbrev pub invariant-loop-number : goal.invariant-loop-number
invariant-loop-number l = length l.session.quanta < MAX_QUANTA → l.ready ≡ ready_of (may_go l.session.inputs l.session.quanta) l.number
