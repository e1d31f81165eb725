-- What is owed for words, from what their answer came to.
use Rattle.std.proofs.Common.{◌≡◌, inl, inr, ℕ, List, Some, Result, Ok, Err, refl, subst, arith}
use Rattle.std.specs.Prelude.{IfOk}
use Rattle.outside.specs.Outside.{Holding}
use Rattle.refusals.specs.Refusals.{Comes}
use Rattle.refusals.specs.declared.fault.Fault.{Fault}
use Rattle.refusals.specs.declared.fault.Fault.TheVariants.{Usage, FileFault, BadProgram, BadConf, BadPick, BadLog, TooManyBlocks, BadDirectives, BadReport, BadNewReport, NoProcedure, NoLines, BadLines}
use Rattle.refusals.specs.declared.refusal.Refusal.{Refusal}
use Rattle.refusals.specs.declared.refusal.Refusal.TheVariants as refusal
use Rattle.commands.specs.Due.{IsDue}
use Rattle.headline.specs.Serving.{IsOwed, IsReplied, IsReply, IsUntold, told_of}
use Rattle.headline.specs.declared.replying.Reply.{Reply}
use Rattle.commands.specs.FileReadings.{reads, Counted, Looks}
use Rattle.commands.specs.declared.texts.Texts.{Texts}

module _ {F : Type 0} (holds : F → List ℕ → Holding) (faults : F → List ℕ → ℕ) (old new : F) (words : List (List ℕ)) where
  abbrev Owed : Result Texts Fault → Type 0
  Owed = IsOwed holds faults old new words

  abbrev IsComing : Result Texts Refusal → Type 0
  IsComing r = Comes r (IsDue words (reads (holds old) (faults old) (faults new)))

  pub owed : (r : Result Texts Refusal) (answer : Result Texts Fault) → IsComing r → Looks holds faults old new r → told_of r ≡ Some answer → Owed answer
  owed (Ok texts) answer due looks e =
      let same : Ok texts ≡ answer = cc in
      subst Owed same (record { due = due; same = looks.same; counts = looks.counts })
  owed (Err (refusal.Fault fault)) answer due looks e =
      let same : Err fault ≡ answer = cc in
      subst Owed same (record { due = due; same = looks.same; counts = looks.counts })
  owed (Err refusal.NoMemory) answer due looks e = absurd (cc)

  untold_fault : (fault : Fault) → IsComing (Err (refusal.Fault fault)) → Looks {A = Texts} holds faults old new (Err (refusal.Fault fault)) → IsUntold holds faults old new words
  untold_fault Usage due looks = inl looks.counts
  untold_fault (FileFault name) due looks = inr (name, record { due = due; same = looks.same; counts = looks.counts })
  untold_fault (BadProgram fault) due looks = inl looks.counts
  untold_fault (BadConf fault) due looks = inl looks.counts
  untold_fault (BadPick metric focus why) due looks = inl looks.counts
  untold_fault (BadLog place why) due looks = inl looks.counts
  untold_fault (TooManyBlocks count) due looks = inl looks.counts
  untold_fault (BadDirectives fault) due looks = inl looks.counts
  untold_fault (BadReport place) due looks = inl looks.counts
  untold_fault (BadNewReport place) due looks = inl looks.counts
  untold_fault (NoProcedure name) due looks = inl looks.counts
  untold_fault NoLines due looks = inl looks.counts
  untold_fault (BadLines place) due looks = inl looks.counts

  pub untold : (r : Result Texts Refusal) → IsComing r → Looks holds faults old new r → IsUntold holds faults old new words
  untold (Ok texts) due looks = inl looks.counts
  untold (Err (refusal.Fault fault)) due looks = untold_fault fault due looks
  untold (Err refusal.NoMemory) due looks = inl looks.counts

  -- what is handed over is what is owed
  pub replied : {E : Type 0} (r : Result Texts Refusal) (reply : Result Reply E) → IsComing r → Looks holds faults old new r
      → IfOk reply (λ given. (answer : Result Texts Fault) × (told_of r ≡ Some answer) × IsReply answer given) → IsReplied holds faults old new words reply
  replied r (Ok reply) due looks given = (given.0, owed r given.0 due looks given.1, given.2)
  replied r (Err e) due looks given = untold r due looks

-- an answer for which no file was read
pub unlooked : {A F : Type 0} (holds : F → List ℕ → Holding) (faults : F → List ℕ → ℕ) (files : F) (r : Result A Refusal) → Looks holds faults files files r
unlooked holds faults files (Ok a) = record { same = λ name. refl; counts = λ name. refl }
unlooked holds faults files (Err refusal.NoMemory) = record { same = λ name. refl; counts = λ name. refl }
unlooked {A} {F} holds faults files (Err (refusal.Fault fault)) = record { same = λ name. refl; counts = by fault }
  where
    by : (fault : Fault) → Counted holds faults files files fault
    by Usage = λ name. refl
    by (FileFault name) = record { same = λ other. refl; rising = λ other. omega arith; others = λ other apart told. refl }
    by (BadProgram fault) = λ name. refl
    by (BadConf fault) = λ name. refl
    by (BadPick metric focus why) = λ name. refl
    by (BadLog place why) = λ name. refl
    by (TooManyBlocks count) = λ name. refl
    by (BadDirectives fault) = λ name. refl
    by (BadReport place) = λ name. refl
    by (BadNewReport place) = λ name. refl
    by (NoProcedure path) = λ name. refl
    by NoLines = λ name. refl
    by (BadLines place) = λ name. refl
