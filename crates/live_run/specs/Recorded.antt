-- What is left of a run that workers shared.
use Rattle.std.specs.Prelude.{List}
use Rattle.pn_types.specs.declared.quantum.Quantum.{Quantum}
use Rattle.session_spec.specs.Inputs.{Inputs}
use Rattle.whole_run.specs.Recorded.{IsRecordOf}
use Rattle.whole_run.specs.declared.recorded.Recorded.{Recorded}
use Rattle.live_run.specs.ByWorkers.{IsShared}
use Rattle.live_run.specs.declared.recorded.LiveCourse.{LiveCourse}

-- The report and the log of a whole list of quanta that the team shared.
pub record IsLiveRecorded (i : Inputs) (c : LiveCourse) (r : Recorded) : Type 0 where
  pub quanta : List Quantum
  pub shared : IsShared i c.team.workers c.team.turns quanta
  pub record_of : IsRecordOf i quanta c.skipped r
