use Rattle.std.proofs.Common.{◌≡◌, ◌-◌, ◌≤◌, length}
use Rattle.std.specs.Prelude.{◌||◌, replicate}
use Rattle.entered.specs.Steps.{asks_at, state_after}
use Rattle.entered.proofs.entering.take_quantum.Given as goal

-- the turns that are left do what all do
abbrev pub invariant-loop : goal.invariant-loop
invariant-loop l = record {
  program : l.machine.program ≡ l.initial.machine.program;
  budget : l.machine.budget ≡ l.initial.machine.budget;
  harts : length l.machine.state.harts ≡ l.harts;
  within : l.counter ≤ l.quantum.owns;
  state : state_after l.machine.program l.machine.budget (replicate (l.quantum.owns - l.counter) l.quantum.hart) l.machine.state
      ≡ state_after l.initial.machine.program l.initial.machine.budget (replicate l.quantum.owns l.quantum.hart) l.initial.machine.state;
  asked : (l.begins || asks_at l.machine.program l.machine.budget l.address (replicate (l.quantum.owns - l.counter) l.quantum.hart) l.machine.state)
      ≡ asks_at l.initial.machine.program l.initial.machine.budget l.address (replicate l.quantum.owns l.quantum.hart) l.initial.machine.state;
}
