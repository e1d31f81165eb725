-- What is due for words and files.
use Rattle.std.specs.Prelude.{◌≡◌, ℕ, Bool, true, false, List, Option, None, Some, Result, Ok, Err}
use Rattle.command_words.specs.Requests.{Request, run, live, replay, plan, asm, points, relog, stress, blocks, visi, advise, direct, profile, annotate, show, diff, ask, request_of}
use Rattle.refusals.specs.Refusals.{Step}
use Rattle.refusals.specs.declared.fault.Fault.{Fault}
use Rattle.refusals.specs.declared.fault.Fault.TheVariants.{Usage}
use Rattle.commands.specs.Advising.{IsAdviseDue}
use Rattle.commands.specs.Asking.{IsAskDue}
use Rattle.commands.specs.Blocks.{IsBlocksDue}
use Rattle.commands.specs.Differing.{IsDiffDue}
use Rattle.commands.specs.Directing.{IsDirectDue}
use Rattle.commands.specs.Listing.{IsPointsDue, IsAsmDue}
use Rattle.commands.specs.Plans.{IsPlanDue}
use Rattle.commands.specs.Profiles.{IsProfileDue, IsAnnotateDue}
use Rattle.commands.specs.Replays.{IsRelogDue, IsReplayDue}
use Rattle.commands.specs.Runs.{IsRunDue, IsLiveDue, IsVisiDue, IsStressDue}
use Rattle.commands.specs.Showing.{IsShowDue}
use Rattle.commands.specs.FileReadings.{FileReading}
use Rattle.commands.specs.declared.texts.Texts.{Texts}

-- what is due for a request; words that are no command have none
abbrev pub IsDueFor : Option Request → FileReading → Step Texts
IsDueFor None sees texts = texts ≡ Err Usage
IsDueFor (Some (run r)) sees texts = IsRunDue r sees texts
IsDueFor (Some (live r)) sees texts = IsLiveDue r sees texts
IsDueFor (Some (replay r)) sees texts = IsReplayDue r sees texts
IsDueFor (Some (plan r)) sees texts = IsPlanDue r sees texts
IsDueFor (Some (points name)) sees texts = IsPointsDue name sees texts
IsDueFor (Some (asm name)) sees texts = IsAsmDue name sees texts
IsDueFor (Some (relog name)) sees texts = IsRelogDue name sees texts
IsDueFor (Some (stress r)) sees texts = IsStressDue r texts
IsDueFor (Some (blocks r)) sees texts = IsBlocksDue r sees texts
IsDueFor (Some (visi r)) sees texts = IsVisiDue r sees texts
IsDueFor (Some (advise name)) sees texts = IsAdviseDue name sees texts
IsDueFor (Some (direct r)) sees texts = IsDirectDue r sees texts
IsDueFor (Some (profile r)) sees texts = IsProfileDue r sees texts
IsDueFor (Some (annotate r)) sees texts = IsAnnotateDue r sees texts
IsDueFor (Some (show r)) sees texts = IsShowDue r sees texts
IsDueFor (Some (diff r)) sees texts = IsDiffDue r sees texts
IsDueFor (Some (ask r)) sees texts = IsAskDue r sees texts

-- What is due for words and what was seen of files: the texts that were asked for, or the first fault.
abbrev pub IsDue : List (List ℕ) → FileReading → Step Texts
IsDue words sees = IsDueFor (request_of words) sees

-- ---- which results may be due

-- both results are texts, or they are the same
abbrev pub AreLike : Result Texts Fault → Result Texts Fault → Type 0
AreLike (Ok texts) (Ok others) = Unit {0}
AreLike (Ok texts) (Err fault) = ⊥
AreLike (Err fault) (Ok texts) = ⊥
AreLike (Err fault) (Err other) = fault ≡ other

-- the request is for a run that workers share
abbrev pub is_live : Option Request → Bool
is_live (Some (live r)) = true
is_live asked = false

-- under `live` they are alike, otherwise the same
abbrev pub AreOne : Bool → Result Texts Fault → Result Texts Fault → Type 0
AreOne true a b = AreLike a b
AreOne false a b = a ≡ b
