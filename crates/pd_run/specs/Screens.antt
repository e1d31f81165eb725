-- What a person sees of a call: the texts that were asked for on standard output and in the log, or a fault on standard error.
use Rattle.std.specs.Prelude.{◌≡◌, ◌⊎◌, ℕ, List, Option, Result, Ok, Err}
use Rattle.command_words.specs.Requests.{request_of}
use Rattle.commands.specs.FileReadings.{reads}
use Rattle.commands.specs.declared.texts.Texts.{Texts}
use Rattle.outside.specs.Outside.{Holding}
use Rattle.refusals.specs.Faults.{fault_line}
use Rattle.refusals.specs.declared.fault.Fault.{Fault}
use Rattle.headline.specs.Answers.{texts_of}
use Rattle.headline.specs.Delivery.{Gained, IsTorn}
use Rattle.headline.specs.Headline.{Tells}
use Rattle.headline.specs.Serving.{AreGained, AreTorn, IsCall, IsUnchangedCount}

-- ---- sinks

-- what a sink has, as far as it is told, and its count of faults
pub record Seen : Type 0 where
  pub has : Option (List ℕ)
  pub faults : ℕ

-- standard output, or the file that stands for it; standard error; and the log
pub record Sinks : Type 0 where
  pub out : Seen
  pub err : Seen
  pub log : Seen

abbrev pub sink_seen : {K : Type 0} → (K → Option (List ℕ)) → (K → ℕ) → K → Seen
sink_seen has faults sink = record { has = has sink; faults = faults sink }

abbrev pub sinks_of : {K E L : Type 0} → (K → Option (List ℕ)) → (K → ℕ) → (E → Option (List ℕ)) → (E → ℕ) → (L → Option (List ℕ)) → (L → ℕ)
    → K → E → L → Sinks
sinks_of hasK faultsK hasE faultsE hasL faultsL out err log =
    record { out = sink_seen hasK faultsK out; err = sink_seen hasE faultsE err; log = sink_seen hasL faultsL log }

-- ---- an answer

-- Texts are gained by standard output and the log, and a fault's line by standard error; the others stay as they were.
abbrev pub IsAnswerShown : Sinks → Sinks → Result Texts Fault → Type 0
IsAnswerShown before after (Ok texts) =
    AreGained (λ s. s.has) (λ s. s.faults) before.out after.out (λ s. s.has) (λ s. s.faults) before.log after.log texts × (after.err ≡ before.err)
IsAnswerShown before after (Err fault) =
    Gained (λ s. s.has) (λ s. s.faults) before.err after.err (fault_line fault) × (after.out ≡ before.out) × (after.log ≡ before.log)

-- One of these has only a part of it.
abbrev pub IsAnswerCut : Sinks → Sinks → Result Texts Fault → Type 0
IsAnswerCut before after (Ok texts) =
    AreTorn (λ s. s.has) (λ s. s.faults) before.out after.out (λ s. s.has) (λ s. s.faults) before.log after.log texts × (after.err ≡ before.err)
IsAnswerCut before after (Err fault) =
    IsTorn (λ s. s.has) (λ s. s.faults) before.err after.err (fault_line fault) × (after.out ≡ before.out) × (after.log ≡ before.log)

-- none of the three failed, or one of them did
abbrev pub AreSpared : Sinks → Sinks → Type 0
AreSpared before after =
    IsUnchangedCount before.out.faults after.out.faults × IsUnchangedCount before.log.faults after.log.faults
    × IsUnchangedCount before.err.faults after.err.faults

abbrev pub HaveFailed : Sinks → Sinks → Type 0
HaveFailed before after =
    (after.out.faults ≡ before.out.faults → ⊥)
    ⊎ ((after.log.faults ≡ before.log.faults → ⊥) ⊎ (after.err.faults ≡ before.err.faults → ⊥))

-- ---- the call

-- A call shows the answer that is due to a person, and returns its texts. With status 0 they tell of the files what the headline says.
pub record IsShownCall {F : Type 0} (holds : F → List ℕ → Holding) (faults : F → List ℕ → ℕ) (old new : F) (words : List (List ℕ))
    (before after : Sinks) (shown : Texts) (status : ℕ) : Type 0 where
  pub served : IsCall holds faults old new words (λ answer. IsAnswerShown before after answer × (shown ≡ texts_of answer)) (IsAnswerCut before after)
      (after ≡ before) (AreSpared before after) (HaveFailed before after) status
  pub told : status ≡ 0 → IsAnswerShown before after (Ok shown) × Tells (request_of words) (reads (holds old) (faults old) (faults new)) shown
