use Rattle.std.proofs.Common.{◌≡◌, ◌-◌}
use Rattle.test_examples.specs.FirstTurns.{turns}
use Rattle.machine.specs.Replays.{Legal, replay}
use Rattle.test_machine.proofs.patched.events.take_turns.Given as goal

-- what is left of the turns may be taken, and leads where all of them do
abbrev pub invariant-loop : goal.invariant-loop
invariant-loop l = record {
  legal : Legal (turns (l.fn.count - l.counter)) l.machine.core;
  rest : replay (turns (l.fn.count - l.counter)) l.machine.core ≡ replay (turns l.fn.count) l.fn.machine.core;
  room : l.machine.room ≡ l.fn.machine.room;
}
