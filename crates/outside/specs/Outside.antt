-- What a reading of a file gives, and what a writing to a sink leaves.
use Rattle.std.specs.Prelude.{◌≡◌, ◌≢◌, ℕ, ◌≤◌, ◌<◌, ⊤, List, [], length, take, drop, slice_index, Option, None, Some, Result, Ok, Err, MatchResult, ◌==◌, if◌then◌else◌, IfOk, IsSome}
use Rattle.std.specs.Io.KnownBytes.{append_known}
use Rattle.outside.specs.Causes.{Rose, count_up}

-- What a file holds: not told, or absent, or these bytes.
abbrev pub Holding : Type 0
Holding = Option (Option (List ℕ))

-- Each is a byte.
abbrev pub IsBytes : List ℕ → Type 0
IsBytes b = (i : ℕ) → slice_index b i < 256

-- The n bytes at the front of the buffer are the file's from `at` on; none come only at or past the end. What is told of a file are bytes.
pub record GivesBytes (file : List ℕ) (at n : ℕ) (buf : List ℕ) : Type 0 where
  pub are : IsBytes file
  pub bytes : take n (drop at file) ≡ take n buf
  pub inside : n ≤ length (drop at file)
  pub end : n ≡ 0 → length file ≤ at

-- These n bytes are of a file that is there, where that is told.
abbrev pub GivesAt : Holding → ℕ → ℕ → List ℕ → Type 0
GivesAt None at n buf = ⊤
GivesAt (Some None) at n buf = ⊥
GivesAt (Some (Some file)) at n buf = GivesBytes file at n buf

-- An `Ok` gives bytes of the file.
abbrev pub Gives : {E : Type 0} → Holding → ℕ → Result ℕ E → List ℕ → Type 0
Gives holding at result buf = IfOk result (λ n. GivesAt holding at n buf)

-- `Ok(n)` appended the first n bytes, and `Err` none; whether the content is told stays as it was.
abbrev pub Gains : {E : Type 0} → Option (List ℕ) → Option (List ℕ) → Result ℕ E → List ℕ → Type 0
Gains old new result piece =
    MatchResult result (λ n. new ≡ append_known old (take n piece)) (λ _. new ≡ old)

-- `Ok(0)` is a fault; any other `Ok` leaves the count.
abbrev pub Counts : {E : Type 0} → ℕ → ℕ → Result ℕ E → Type 0
Counts before now result = IfOk result (λ n. (n ≡ 0 → Rose before now) × (n ≢ 0 → now ≡ before))

-- These bytes are the front of what the file holds, where that is told; where there are some, all of it are bytes.
abbrev pub HasFront : Holding → List ℕ → Type 0
HasFront None bytes = ⊤
HasFront (Some None) bytes = bytes ≡ []
HasFront (Some (Some file)) bytes = (take (length bytes) file ≡ bytes) × (1 ≤ length bytes → IsBytes file)

-- These bytes are all that the file holds, and it is there, where that is told.
abbrev pub IsWhole : Holding → List ℕ → Type 0
IsWhole None bytes = ⊤
IsWhole (Some None) bytes = ⊥
IsWhole (Some (Some file)) bytes = bytes ≡ file

-- The file has more than `most` bytes, where that is told.
abbrev pub IsLonger : Holding → ℕ → Type 0
IsLonger None most = ⊤
IsLonger (Some None) most = ⊥
IsLonger (Some (Some file)) most = (most < length file) × IsBytes file

-- A reading of a name left what every file holds, and raised no count but that of the name, where others are told.
pub record ReadsOnly {F : Type 0} (holds : F → List ℕ → Holding) (faults : F → List ℕ → ℕ)
    (name : List ℕ) (old new : F) : Type 0 where
  pub same : (other : List ℕ) → holds new other ≡ holds old other
  pub rising : (other : List ℕ) → faults old other ≤ faults new other
  pub others : (other : List ℕ) → other ≢ name → IsSome (holds old other) → faults new other ≡ faults old other

-- Every count stayed as it was.
abbrev pub IsCalm : {F : Type 0} → (F → List ℕ → ℕ) → F → F → Type 0
IsCalm faults old new = (other : List ℕ) → faults new other ≡ faults old other

-- The count of faults after a writing: `Ok(0)` and a failure are counted, up to the end of the count's type.
abbrev pub count_after_writing : {E : Type 0} → ℕ → Result ℕ E → ℕ
count_after_writing before (Ok n) = if n == 0 then count_up before else before
count_after_writing before (Err e) = count_up before

-- The count of faults after a reading: a failure is counted, up to the end of the count's type.
abbrev pub count_after_reading : {E : Type 0} → ℕ → Result ℕ E → ℕ
count_after_reading before (Ok n) = before
count_after_reading before (Err e) = count_up before
