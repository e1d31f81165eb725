-- How a session's state follows from the unpatched program.
use Rattle.std.specs.Prelude.{◌≡◌, List, length}
use Rattle.rv_exec.specs.Run.{run, IsLegal}
use Rattle.machine.specs.Cores.{start_core}
use Rattle.machine.specs.Events.{Event}
use Rattle.machine.specs.Quanta.{KeepsBudget}
use Rattle.machine.specs.Replays.{Legal, owns, replay}
use Rattle.machine.specs.Same.{SameProgram}
use Rattle.session_spec.specs.Inputs.{Inputs}
use Rattle.session_spec.specs.States.{State}

-- Events, each of which could happen when it came, lead from the start of the image to the session's machine, in which no hart has
-- more ticks than the budget. Those that are ticks are a legal run of the unpatched program, and the machine is that program after
-- this run. The time is the number of these ticks.
pub record IsRun (i : Inputs) (s : State) : Type 0 where
  pub events : List Event
  pub legal : Legal events (start_core i.image i.settings.harts i.settings.budget)
  pub core : (s.kept.machine).core ≡ replay events (start_core i.image i.settings.harts i.settings.budget)
  pub owns : s.owns ≡ owns events (start_core i.image i.settings.harts i.settings.budget)
  pub time : s.kept.time ≡ length s.owns
  pub budget : KeepsBudget (s.kept.machine).core
  pub legal_run : IsLegal i.image i.settings.harts i.settings.budget s.owns
  pub same : SameProgram (s.kept.machine).core (run i.image i.settings.harts s.owns)
