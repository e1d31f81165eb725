-- The turns of a quantum, and what is done of the agenda after them.
use Rattle.std.specs.Prelude.{ℕ, ◌+◌, ◌-◌, List, length}
use Rattle.machine.specs.Events.{Event}
use Rattle.machine.specs.Replays.{owns}
use Rattle.machine.specs.States.{quantum_turns, settling}
use Rattle.instrument.specs.Scenes.{Hands}
use Rattle.instrumented.specs.Instrumented.{repeated, after_turns}
use Rattle.session_spec.specs.States.{SessionState}

-- these turns are taken; their ticks are time, and the other turns are what patches cost
abbrev pub with_turns : List Event → SessionState → SessionState
with_turns turns k = record k {
  machine = after_turns turns k.machine;
  time = k.time + length (owns turns k.machine.core);
  idle = k.idle + (length turns - length (owns turns k.machine.core));
}

-- the hart takes a number of turns, or fewer where it can take no more
unfoldable pub with_hart : ℕ → ℕ → SessionState → SessionState
with_hart h n k = with_turns (quantum_turns n h k.machine.core) k

-- up to eight entries are handed out
abbrev pub handed_at_once : ℕ
handed_at_once = 8

unfoldable pub with_entries : SessionState → SessionState
with_entries k = record k { machine = repeated handed_at_once Hands k.machine }

-- each hart inside, by number, takes turns until it is outside
unfoldable pub with_quiet : SessionState → SessionState
with_quiet k = with_turns (settling k.machine.core) k
