-- What sinks in memory have, and what a writing makes of it.
use Rattle.std.specs.Prelude.{◌≡◌, ℕ, ◌-◌, ◌++◌, List, [], Result, Contains, ◌⊎◌, length, take}
use Rattle.outside.specs.Causes.{count_up}
use Rattle.outside.specs.Outside.{count_after_writing}
use Rattle.std.specs.Result.{result_unwrap_or}

-- The bytes that a sink has and the room for them, the most bytes of one call, the numbers of the calls that are to
-- fail, and how many calls and faults there were.
pub record MemSinkState : Type 0 where
  pub bytes : List ℕ
  pub room : ℕ
  pub piece : ℕ
  pub fails : List ℕ
  pub calls : ℕ
  pub faults : ℕ

-- A sink that no call has written to yet.
abbrev pub new_sink : ℕ → ℕ → List ℕ → MemSinkState
new_sink room piece fails =
    record { bytes = []; room = room; piece = piece; fails = fails; calls = 0; faults = 0 }

-- How many more bytes there is room for.
abbrev pub room_left : MemSinkState → ℕ
room_left sink = sink.room - length sink.bytes

-- The next writing fails: no room is left, or that call is to fail.
abbrev pub RefusesNext : MemSinkState → Type 0
RefusesNext sink = (room_left sink ≡ 0) ⊎ Contains sink.fails sink.calls

-- The bytes that a writing took from the front of its piece.
abbrev pub taken_from : {E : Type 0} → List ℕ → Result ℕ E → List ℕ
taken_from piece result = take (result_unwrap_or result 0) piece

-- The sink after a writing: it has the bytes that were taken, and the call and its fault are counted.
abbrev pub after_writing : {E : Type 0} → MemSinkState → List ℕ → Result ℕ E → MemSinkState
after_writing sink piece result = record sink {
  bytes = sink.bytes ++ taken_from piece result;
  calls = count_up sink.calls;
  faults = count_after_writing sink.faults result;
}

-- The bytes that a sink has and the room for them, and how many faults there were.
pub record SureSinkState : Type 0 where
  pub bytes : List ℕ
  pub room : ℕ
  pub faults : ℕ

-- The sink after a writing: it has the bytes that were taken, and a failure is counted.
abbrev pub after_sure_writing : {E : Type 0} → SureSinkState → List ℕ → Result ℕ E → SureSinkState
after_sure_writing sink piece result = record sink {
  bytes = sink.bytes ++ taken_from piece result;
  faults = count_after_writing sink.faults result;
}
