-- What was seen of files, and which counts of faults rose.
use Rattle.std.specs.Prelude.{◌≡◌, ℕ, List, length, nat_lt, if◌then◌else◌, Result, Ok, Err}
use Rattle.outside.specs.Causes.{Rose}
use Rattle.outside.specs.Outside.{Holding, IsBytes, IsWhole, IsCalm, ReadsOnly}
use Rattle.refusals.specs.Refusals.{Step, Then}
use Rattle.refusals.specs.declared.fault.Fault.{Fault}
use Rattle.refusals.specs.declared.fault.Fault.TheVariants.{Usage, FileFault, BadProgram, BadConf, BadPick, BadLog, TooManyBlocks, BadDirectives, BadReport, BadNewReport, NoProcedure, NoLines, BadLines}
use Rattle.refusals.specs.declared.refusal.Refusal.{Refusal}
use Rattle.refusals.specs.declared.refusal.Refusal.TheVariants as refusal

-- the bytes of the file of a name, or that it could not be read
abbrev pub FileReading : Type 1
FileReading = List ℕ → Step (List ℕ)

-- A file was read to its end, and what it has are bytes; or a reading failed, and the name's count of faults rose.
abbrev pub reads : (List ℕ → Holding) → (List ℕ → ℕ) → (List ℕ → ℕ) → FileReading
reads holds before now name (Ok bytes) = IsWhole (holds name) bytes × IsBytes bytes
reads holds before now name (Err fault) = (fault ≡ FileFault name) × Rose (before name) (now name)

-- the bytes, or this fault where there are more than a number
abbrev pub limited : ℕ → Fault → List ℕ → Result (List ℕ) Fault
limited most too_long bytes = if nat_lt most (length bytes) then Err too_long else Ok bytes

-- what the file of a name has, if its bytes are at most a number
abbrev pub IsContent : FileReading → ℕ → Fault → List ℕ → Step (List ℕ)
IsContent sees most too_long name = Then (sees name) (λ bytes content. content ≡ limited most too_long bytes)

-- the counts of faults after a fault: none rose but that of the file which the fault names
abbrev pub Counted : {F : Type 0} → (F → List ℕ → Holding) → (F → List ℕ → ℕ) → F → F → Fault → Type 0
Counted holds faults old new (FileFault name) = ReadsOnly holds faults name old new
Counted holds faults old new Usage = IsCalm faults old new
Counted holds faults old new (BadProgram fault) = IsCalm faults old new
Counted holds faults old new (BadConf fault) = IsCalm faults old new
Counted holds faults old new (BadPick metric focus cause) = IsCalm faults old new
Counted holds faults old new (BadLog place cause) = IsCalm faults old new
Counted holds faults old new (TooManyBlocks count) = IsCalm faults old new
Counted holds faults old new (BadDirectives fault) = IsCalm faults old new
Counted holds faults old new (BadReport place) = IsCalm faults old new
Counted holds faults old new (BadNewReport place) = IsCalm faults old new
Counted holds faults old new (NoProcedure name) = IsCalm faults old new
Counted holds faults old new NoLines = IsCalm faults old new
Counted holds faults old new (BadLines place) = IsCalm faults old new

-- the counts of faults after an answer
abbrev pub CountedFor : {A F : Type 0} → (F → List ℕ → Holding) → (F → List ℕ → ℕ) → F → F → Result A Fault → Type 0
CountedFor holds faults old new (Ok a) = IsCalm faults old new
CountedFor holds faults old new (Err fault) = Counted holds faults old new fault

-- the counts of faults after a call; where memory runs out none rose
abbrev pub CountedAs : {A F : Type 0} → (F → List ℕ → Holding) → (F → List ℕ → ℕ) → F → F → Result A Refusal → Type 0
CountedAs holds faults old new (Ok a) = IsCalm faults old new
CountedAs holds faults old new (Err refusal.NoMemory) = IsCalm faults old new
CountedAs holds faults old new (Err (refusal.Fault fault)) = Counted holds faults old new fault

-- what every file holds stays the same, and the counts of faults are as the call's answer says
pub record Looks {A F : Type 0}
    (holds : F → List ℕ → Holding) (faults : F → List ℕ → ℕ) (old new : F) (result : Result A Refusal) : Type 0 where
  pub same : (name : List ℕ) → holds new name ≡ holds old name
  pub counts : CountedAs holds faults old new result
