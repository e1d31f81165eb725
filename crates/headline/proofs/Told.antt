-- What follows for a call that serves words.
use Rattle.std.proofs.Common.{◌≡◌, ◌≢◌, ℕ, List, Option, Result, Ok, Err, sym, ◌∙◌, arith}
use Rattle.command_words.specs.Requests.{request_of}
use Rattle.commands.specs.FileReadings.{reads}
use Rattle.commands.specs.declared.texts.Texts.{Texts}
use Rattle.outside.specs.Outside.{Holding}
use Rattle.headline.specs.Answers.{status_of, texts_of}
use Rattle.headline.specs.Serving.{AreGained, IsOwed, IsServedCall}
use Rattle.refusals.specs.Faults.{fault_status}
use Rattle.refusals.specs.declared.fault.Fault.{Fault}
use Rattle.refusals.specs.declared.fault.Fault.TheVariants.{Usage, FileFault, BadProgram, BadConf, BadPick, BadLog, TooManyBlocks, BadDirectives, BadReport, BadNewReport, NoProcedure, NoLines, BadLines}
use Rattle.headline.specs.Headline.{Tells}
use Rattle.headline.specs.Program.{IsTold, OwedIsHonest}

not_zero : (fault : Fault) → fault_status fault ≢ 0
not_zero Usage e = omega arith
not_zero (FileFault name) e = omega arith
not_zero (BadProgram fault) e = omega arith
not_zero (BadConf fault) e = omega arith
not_zero (BadPick metric focus cause) e = omega arith
not_zero (BadLog place cause) e = omega arith
not_zero (TooManyBlocks count) e = omega arith
not_zero (BadDirectives fault) e = omega arith
not_zero (BadReport place) e = omega arith
not_zero (BadNewReport place) e = omega arith
not_zero (NoProcedure name) e = omega arith
not_zero NoLines e = omega arith
not_zero (BadLines place) e = omega arith

module _ {F K L : Type 0} (holds : F → List ℕ → Holding) (faults : F → List ℕ → ℕ) (old new : F) (words : List (List ℕ))
    (hasK : K → Option (List ℕ)) (faultsK : K → ℕ) (oldK newK : K) (hasL : L → Option (List ℕ)) (faultsL : L → ℕ) (oldL newL : L) (status : ℕ)
    (honest : OwedIsHonest holds faults) where
  -- both sinks gained texts that tell what the headline says
  abbrev Telling : Type 0
  Telling = (texts : Texts) × AreGained hasK faultsK oldK newK hasL faultsL oldL newL texts × Tells (request_of words) (reads (holds old) (faults old) (faults new)) texts

  gave : (answer : Result Texts Fault) → IsOwed holds faults old new words answer → status ≡ status_of answer
      → AreGained hasK faultsK oldK newK hasL faultsL oldL newL (texts_of answer) → status ≡ 0 → Telling
  gave (Ok texts) owed is gained zero = (texts, gained, honest old new words texts owed)
  gave (Err fault) owed is gained zero = absurd (not_zero fault (sym is ∙ zero))

  pub told : IsServedCall holds faults old new words hasK faultsK oldK newK hasL faultsL oldL newL status → IsTold holds faults old new words hasK faultsK oldK newK hasL faultsL oldL newL status
  told served = record {
    served = served;
    told = λ zero. let a = served.answered (λ e. omega arith) (λ e. omega arith) in gave a.0 a.1 a.2 a.3 zero;
  }
