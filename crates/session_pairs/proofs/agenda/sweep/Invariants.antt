use Rattle.std.proofs.Common.{◌≡◌, ◌-◌}
use Rattle.instrument.specs.Scenes.{Sweeps}
use Rattle.instrumented.specs.Instrumented.{repeated}
use Rattle.session_pairs.proofs.agenda.sweep.Given as goal

abbrev pub invariant-loop : goal.invariant-loop
invariant-loop l = record {
  coming : repeated (l.fn.count - l.counter) Sweeps l.machine.state ≡ repeated l.fn.count Sweeps l.fn.machine.state;
  ready : l.machine.ready ≡ l.fn.machine.ready;
  harts : l.machine.state.core.harts ≡ l.fn.machine.state.core.harts;
}
