-- The samples that the views of a run are given, and how far they are told that the run is.
use Rattle.std.specs.Prelude.{◌-◌, ◌^◌, Bool, true, List, length, min}
use Rattle.pn_types.specs.declared.quantum.Quantum.{Quantum}
use Rattle.session_spec.specs.declared.data.LatestSample.{LatestSample}
use Rattle.session_spec.specs.Inputs.{Inputs}
use Rattle.session_spec.specs.States.{State}
use Rattle.session_spec.specs.Work.{final_state, after_quanta}
use Rattle.visi_run.specs.declared.dial.Reading.{Reading}

-- The samples of what was wished that a session took after these quanta and at its end, in the order in which they were taken, and
-- of those that were taken together in the order of a report.
unfoldable pub feed_of : Inputs → List Quantum → List LatestSample
feed_of i quanta = (final_state i (after_quanta i quanta)).feed

-- How far a run is: how many samples were published, which is counted in 64 bits up to the greatest number, and its clock.
abbrev pub reading_of : State → Bool → Reading
reading_of s ended = record { published = min (length s.feed) (2 ^ 64 - 1); ticks = s.kept.time; ended = ended }

-- the reading at the end of these quanta
unfoldable pub last_reading : Inputs → List Quantum → Reading
last_reading i quanta = reading_of (final_state i (after_quanta i quanta)) true
