use Rattle.std.proofs.Common.{◌≡◌, ◌-◌, length}
use Rattle.pn_types.specs.declared.limits.TheConstants.{MAX_QUANTA}
use Rattle.machine.specs.Turns.{is_runnable}
use Rattle.machine.specs.Replays.{replay}
use Rattle.turn_order.specs.Orders.{ready_of}
use Rattle.block_count.specs.Course.{all_quanta}
use Rattle.block_count.proofs.Quanta.{behind}
use Rattle.block_count.proofs.turns.take_quanta.Given as goal

-- the quanta that are left come to the same end
abbrev pub invariant-quanta : goal.invariant-quanta
invariant-quanta l = record {
  harts : length l.machine.core.harts ≡ length l.initial.machine.core.harts;
  ready : l.ready ≡ ready_of (is_runnable l.machine.core) l.harts;
  all : behind (MAX_QUANTA - l.counter) (record { harts = l.harts; turns = l.turns; seed = l.seed }) l.order l.machine.core
      ≡ replay (all_quanta (record { harts = l.harts; turns = l.turns; seed = l.seed }) l.initial.machine.core) l.initial.machine.core;
}
