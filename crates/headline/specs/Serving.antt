-- What the top call leaves in its sinks.
use Rattle.std.specs.Prelude.{◌≡◌, ◌⊎◌, ℕ, ◌<◌, ◌-◌, ◌^◌, IsSome, List, Option, Some, None, Result, Ok, Err}
use Rattle.command_words.specs.Requests.{request_of}
use Rattle.outside.specs.Outside.{Holding, IsCalm}
use Rattle.refusals.specs.declared.fault.Fault.{Fault}
use Rattle.refusals.specs.declared.fault.Fault.TheVariants.{FileFault}
use Rattle.refusals.specs.declared.refusal.Refusal.{Refusal}
use Rattle.refusals.specs.declared.refusal.Refusal.TheVariants as refusal
use Rattle.headline.specs.Answers.{status_of, texts_of}
use Rattle.headline.specs.Delivery.{IsTorn, Gained}
use Rattle.commands.specs.Due.{AreOne, IsDue, is_live}
use Rattle.commands.specs.FileReadings.{reads, CountedFor}
use Rattle.commands.specs.declared.texts.Texts.{Texts}
use Rattle.headline.specs.declared.replying.Reply.{Reply}

-- An answer is due for words and what was seen of the files. What the files hold stays the same, and no count of faults rose but
-- that of a file which the answer names as unread.
pub record IsOwed {F : Type 0} (holds : F → List ℕ → Holding)
    (faults : F → List ℕ → ℕ) (old new : F) (words : List (List ℕ)) (answer : Result Texts Fault) : Type 0 where
  pub due : IsDue words (reads (holds old) (faults old) (faults new)) answer
  pub same : (name : List ℕ) → holds new name ≡ holds old name
  pub counts : CountedFor holds faults old new answer

-- What each file holds is told, and its count of faults is below the end of its type.
abbrev pub AreFilesKnown : {F : Type 0} → (F → List ℕ → Holding) → (F → List ℕ → ℕ) → F → Type 0
AreFilesKnown holds faults files = (name : List ℕ) → IsSome (holds files name) × (faults files name < 2 ^ 64 - 1)

-- Over files that are told one answer is owed; under `live` the texts may be others.
abbrev pub OneOwed : {F : Type 0} → (F → List ℕ → Holding) → (F → List ℕ → ℕ) → Type 0
OneOwed {F} holds faults = (old new : F) (words : List (List ℕ)) (a b : Result Texts Fault) →
    AreFilesKnown holds faults old → IsOwed holds faults old new words a
    → IsOwed holds faults old new words b → AreOne (is_live (request_of words)) a b

-- Nothing was read beyond what is due: no count of faults rose, or the answer that is due names a file as unread.
abbrev pub IsUntold : {F : Type 0} → (F → List ℕ → Holding) → (F → List ℕ → ℕ) → F → F → List (List ℕ) → Type 0
IsUntold holds faults old new words = IsCalm faults old new ⊎ ((name : List ℕ) × IsOwed holds faults old new words (Err (FileFault name)))

-- both sinks gained the texts of an answer
abbrev pub AreGained : {K L : Type 0} → (K → Option (List ℕ)) → (K → ℕ) → K → K → (L → Option (List ℕ)) → (L → ℕ) → L → L → Texts → Type 0
AreGained hasK faultsK oldK newK hasL faultsL oldL newL texts =
    Gained hasK faultsK oldK newK texts.out × Gained hasL faultsL oldL newL texts.log

-- one sink has only a part of its text: the log, and then the output has nothing; or the output, and then the log has all
abbrev pub AreTorn : {K L : Type 0} → (K → Option (List ℕ)) → (K → ℕ) → K → K → (L → Option (List ℕ)) → (L → ℕ) → L → L → Texts → Type 0
AreTorn hasK faultsK oldK newK hasL faultsL oldL newL texts =
    ((newK ≡ oldK) × IsTorn hasL faultsL oldL newL texts.log)
    ⊎ (Gained hasL faultsL oldL newL texts.log × IsTorn hasK faultsK oldK newK texts.out)

-- a count of faults is below the end of its type, and didn't rise
abbrev pub IsUnchangedCount : ℕ → ℕ → Type 0
IsUnchangedCount before now = (before < 2 ^ 64 - 1) × (now ≡ before)

-- What a call does that serves words, by its status. What its sinks come to is a parameter: that an answer was given to them, that one of
-- them failed on the way, that none was written to, that none lost anything, and that one failed.
pub record IsCall {F : Type 0} (holds : F → List ℕ → Holding) (faults : F → List ℕ → ℕ) (old new : F) (words : List (List ℕ))
    (Gave Tore : Result Texts Fault → Type 0) (Untouched Spared Failed : Type 0) (status : ℕ) : Type 0 where
  -- All but 7 and 8: the answer that is due was given.
  pub answered : (status ≡ 7 → ⊥) → (status ≡ 8 → ⊥)
      → (answer : Result Texts Fault) × IsOwed holds faults old new words answer × (status ≡ status_of answer) × Gave answer
  -- 7: a sink lacks a part of what was due, and its count of faults rose.
  pub torn : status ≡ 7 → (answer : Result Texts Fault) × IsOwed holds faults old new words answer × Tore answer
  -- 8: nothing was written, and nothing was read beyond what is due.
  pub memory : status ≡ 8 → Untouched × IsUntold holds faults old new words
  -- Complete: where texts are due and no sink failed, they were given, or memory ran out.
  pub complete : AreFilesKnown holds faults old → (due : Texts) → IsOwed holds faults old new words (Ok due)
      → Spared → (status ≡ 0) ⊎ (status ≡ 8)
  -- The status tells of a file that could not be read and of a sink that failed.
  pub unread : (name : List ℕ) → (faults new name ≡ faults old name → ⊥) → (status ≡ 3) ⊎ ((status ≡ 7) ⊎ (status ≡ 8))
  pub unwritten : Failed → status ≡ 7

-- A call over a sink for the output and one for the log: each answer leaves bytes for both.
abbrev pub IsServedCall : {F K L : Type 0} → (F → List ℕ → Holding) → (F → List ℕ → ℕ) → F → F → List (List ℕ)
    → (K → Option (List ℕ)) → (K → ℕ) → K → K → (L → Option (List ℕ)) → (L → ℕ) → L → L → ℕ → Type 0
IsServedCall holds faults old new words hasK faultsK oldK newK hasL faultsL oldL newL status =
    IsCall holds faults old new words
    (λ answer. AreGained hasK faultsK oldK newK hasL faultsL oldL newL (texts_of answer))
    (λ answer. AreTorn hasK faultsK oldK newK hasL faultsL oldL newL (texts_of answer))
    ((newK ≡ oldK) × (newL ≡ oldL))
    (IsUnchangedCount (faultsK oldK) (faultsK newK) × IsUnchangedCount (faultsL oldL) (faultsL newL))
    ((faultsK newK ≡ faultsK oldK → ⊥) ⊎ (faultsL newL ≡ faultsL oldL → ⊥))
    status

-- The status and the bytes of an answer.
pub record IsReply (answer : Result Texts Fault) (reply : Reply) : Type 0 where
  pub status : reply.status ≡ status_of answer
  pub texts : reply.texts ≡ texts_of answer

-- The reply is that of the answer which is owed; or memory ran out, and nothing was read beyond what is due.
abbrev pub IsReplied : {F E : Type 0} → (F → List ℕ → Holding) → (F → List ℕ → ℕ) → F → F → List (List ℕ) → Result Reply E → Type 0
IsReplied holds faults old new words (Ok reply) =
    (answer : Result Texts Fault) × IsOwed holds faults old new words answer × IsReply answer reply
IsReplied holds faults old new words (Err e) = IsUntold holds faults old new words

-- for proofs alone: what an answer comes to, where memory didn't run out
abbrev pub told_of : Result Texts Refusal → Option (Result Texts Fault)
told_of (Ok texts) = Some (Ok texts)
told_of (Err (refusal.Fault fault)) = Some (Err fault)
told_of (Err refusal.NoMemory) = None
