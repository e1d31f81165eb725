-- A file that was given to files in memory, and what a reading makes of it.
use Rattle.std.specs.Prelude.{ℕ, List, Option, Result, IsNone, Contains, ◌⊎◌}
use Rattle.outside.specs.Causes.{count_up}
use Rattle.outside.specs.Outside.{count_after_reading}

-- A file's bytes, or `None` where it is absent, the numbers of its readings that are to fail, and how many readings
-- and faults there were.
pub record GivenFile : Type 0 where
  pub bytes : Option (List ℕ)
  pub fails : List ℕ
  pub calls : ℕ
  pub faults : ℕ

-- A file that no call has read yet.
abbrev pub new_file : Option (List ℕ) → List ℕ → GivenFile
new_file bytes fails = record { bytes = bytes; fails = fails; calls = 0; faults = 0 }

-- The next reading fails: the file is absent, or that call is to fail.
abbrev pub FailsNext : GivenFile → Type 0
FailsNext file = IsNone file.bytes ⊎ Contains file.fails file.calls

-- The file after a reading: the call is counted, and so is its failure.
abbrev pub after_reading : {E : Type 0} → GivenFile → Result ℕ E → GivenFile
after_reading file result =
    record file { calls = count_up file.calls; faults = count_after_reading file.faults result }
