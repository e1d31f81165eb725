-- What follows of the answer that was given: it is complete, and tells of each fault of files and sinks.
use Rattle.std.proofs.Common.{◌≡◌, ℕ, ◌+◌, Bool, true, false, List, Option, Some, Result, Ok, Err, inl, inr, ◌⊎◌, refl, ap, ◌∙◌, arith}
use Rattle.std.proofs.Math.Nat.{min-eq_left}
use Rattle.std.proofs.lemmas.Bool.{cases_eq}
use Rattle.command_words.specs.Requests.{request_of}
use Rattle.outside.specs.Causes.{count_up}
use Rattle.outside.specs.Outside.{Holding}
use Rattle.refusals.specs.declared.fault.Fault.{Fault}
use Rattle.refusals.specs.declared.fault.Fault.TheVariants.{Usage, FileFault, BadProgram, BadConf, BadPick, BadLog, TooManyBlocks, BadDirectives, BadReport, BadNewReport, NoProcedure, NoLines, BadLines}
use Rattle.headline.specs.Answers.{status_of, texts_of}
use Rattle.headline.specs.Delivery.{IsTorn}
use Rattle.commands.specs.Due.{AreOne, IsDue, is_live}
use Rattle.commands.specs.FileReadings.{reads, Looks}
use Rattle.refusals.specs.Refusals.{Comes}
use Rattle.refusals.specs.declared.refusal.Refusal.{Refusal}
use Rattle.headline.specs.Serving.{AreGained, AreFilesKnown, AreTorn, IsCall, IsOwed, IsServedCall, IsUnchangedCount, IsUntold, OneOwed, told_of}
use Rattle.commands.specs.declared.texts.Texts.{Texts}
use Rattle.headline.proofs.Served.{owed, untold}

-- a sink that was torn isn't spared
pub torn_rises : {K : Type 0} (has : K → Option (List ℕ)) (count : K → ℕ) (old new : K) (bytes : List ℕ) → IsTorn has count old new bytes → IsUnchangedCount (count old) (count new) → ⊥
torn_rises has count old new bytes torn spared =
    let below = spared.0 in
    let same = spared.1 in
    let up : count_up (count old) ≡ count old + 1 = min-eq_left (omega arith) in
    let rose = torn.cause in
    omega arith

-- an answer that is one with texts is texts
status_zero : (live : Bool) (due : Texts) (answer : Result Texts Fault) → AreOne live (Ok due) answer → status_of answer ≡ 0
status_zero live due (Ok texts) e = refl
status_zero true due (Err fault) e = absurd e
status_zero false due (Err fault) e = absurd (cc)

-- what is said of sinks where they were given, torn, left alone, spared and failed
pub record AreSinks (Gave Tore : Result Texts Fault → Type 0) (Untouched Spared Failed : Type 0) : Type 0 where
  pub torn : (answer : Result Texts Fault) → Tore answer → Spared → ⊥
  pub given : (answer : Result Texts Fault) → Gave answer → Failed → ⊥
  pub alone : Untouched → Failed → ⊥

module _ {F : Type 0} (holds : F → List ℕ → Holding) (faults : F → List ℕ → ℕ) (old new : F) (words : List (List ℕ))
    (Gave Tore : Result Texts Fault → Type 0) (Untouched Spared Failed : Type 0) (result : ℕ) where
  abbrev Owed : Result Texts Fault → Type 0
  Owed = IsOwed holds faults old new words

  -- by the answer that was given
  pub record IsAnswered : Type 0 where
    pub answered : (result ≡ 7 → ⊥) → (result ≡ 8 → ⊥) → (answer : Result Texts Fault) × Owed answer × (result ≡ status_of answer) × Gave answer
    pub torn : result ≡ 7 → (answer : Result Texts Fault) × Owed answer × Tore answer
    pub memory : result ≡ 8 → Untouched × IsUntold holds faults old new words

  module _ (sinks : AreSinks Gave Tore Untouched Spared Failed) (a : IsAnswered) where
    complete : OneOwed holds faults → AreFilesKnown holds faults old → (due : Texts) → Owed (Ok due) → Spared → (result ≡ 0) ⊎ (result ≡ 8)
    complete one told due owed spared = by (cases_eq result 7) (cases_eq result 8)
      where
        by : (result ≡ 7) ⊎ (result ≡ 7 → ⊥) → (result ≡ 8) ⊎ (result ≡ 8 → ⊥) → (result ≡ 0) ⊎ (result ≡ 8)
        by (inl seven) x = let t = a.torn seven in absurd (sinks.torn t.0 t.2 spared)
        by (inr other) (inl eight) = inr eight
        by (inr other) (inr sound) =
            let given = a.answered other sound in
            inl (given.2 ∙ status_zero (is_live (request_of words)) due given.0 (one old new words (Ok due) given.0 told owed given.1))

    -- an answer for which a count of the files rose names a file as unread
    status_three : (name : List ℕ) → (faults new name ≡ faults old name → ⊥) → (answer : Result Texts Fault) → Owed answer → status_of answer ≡ 3
    status_three name rose (Ok texts) owed = absurd (rose (owed.counts name))
    status_three name rose (Err Usage) owed = absurd (rose (owed.counts name))
    status_three name rose (Err (FileFault file)) owed = refl
    status_three name rose (Err (BadProgram fault)) owed = absurd (rose (owed.counts name))
    status_three name rose (Err (BadConf fault)) owed = absurd (rose (owed.counts name))
    status_three name rose (Err (BadPick metric focus why)) owed = absurd (rose (owed.counts name))
    status_three name rose (Err (BadLog place why)) owed = absurd (rose (owed.counts name))
    status_three name rose (Err (TooManyBlocks count)) owed = absurd (rose (owed.counts name))
    status_three name rose (Err (BadDirectives fault)) owed = absurd (rose (owed.counts name))
    status_three name rose (Err (BadReport place)) owed = absurd (rose (owed.counts name))
    status_three name rose (Err (BadNewReport place)) owed = absurd (rose (owed.counts name))
    status_three name rose (Err (NoProcedure path)) owed = absurd (rose (owed.counts name))
    status_three name rose (Err NoLines) owed = absurd (rose (owed.counts name))
    status_three name rose (Err (BadLines place)) owed = absurd (rose (owed.counts name))

    unread : (name : List ℕ) → (faults new name ≡ faults old name → ⊥) → (result ≡ 3) ⊎ ((result ≡ 7) ⊎ (result ≡ 8))
    unread name rose = by (cases_eq result 7) (cases_eq result 8)
      where
        by : (result ≡ 7) ⊎ (result ≡ 7 → ⊥) → (result ≡ 8) ⊎ (result ≡ 8 → ⊥) → (result ≡ 3) ⊎ ((result ≡ 7) ⊎ (result ≡ 8))
        by (inl seven) x = inr (inl seven)
        by (inr other) (inl eight) = inr (inr eight)
        by (inr other) (inr sound) = let given = a.answered other sound in inl (given.2 ∙ status_three name rose given.0 given.1)

    unwritten : Failed → result ≡ 7
    unwritten failed = by (cases_eq result 7) (cases_eq result 8)
      where
        by : (result ≡ 7) ⊎ (result ≡ 7 → ⊥) → (result ≡ 8) ⊎ (result ≡ 8 → ⊥) → result ≡ 7
        by (inl seven) x = seven
        by (inr other) (inl eight) = absurd (sinks.alone (a.memory eight).0 failed)
        by (inr other) (inr sound) = let given = a.answered other sound in absurd (sinks.given given.0 given.3 failed)

    -- and so all of it
    pub is_call : OneOwed holds faults → IsCall holds faults old new words Gave Tore Untouched Spared Failed result
    is_call one = record { answered = a.answered; torn = a.torn; memory = a.memory; complete = complete one; unread = unread; unwritten = unwritten }

-- ---- a sink for the output and one for the log

module _ {F K L : Type 0} (holds : F → List ℕ → Holding) (faults : F → List ℕ → ℕ) (old new : F) (words : List (List ℕ))
    (hasK : K → Option (List ℕ)) (faultsK : K → ℕ) (oldK newK : K) (hasL : L → Option (List ℕ)) (faultsL : L → ℕ) (oldL newL : L) (result : ℕ) where
  abbrev Gained : Result Texts Fault → Type 0
  Gained answer = AreGained hasK faultsK oldK newK hasL faultsL oldL newL (texts_of answer)

  abbrev Torn : Result Texts Fault → Type 0
  Torn answer = AreTorn hasK faultsK oldK newK hasL faultsL oldL newL (texts_of answer)

  abbrev Same : Type 0
  Same = (newK ≡ oldK) × (newL ≡ oldL)

  abbrev Unchanged : Type 0
  Unchanged = IsUnchangedCount (faultsK oldK) (faultsK newK) × IsUnchangedCount (faultsL oldL) (faultsL newL)

  abbrev Risen : Type 0
  Risen = (faultsK newK ≡ faultsK oldK → ⊥) ⊎ (faultsL newL ≡ faultsL oldL → ⊥)

  not_torn : (answer : Result Texts Fault) → Torn answer → Unchanged → ⊥
  not_torn answer (inl t) spared = torn_rises hasL faultsL oldL newL (texts_of answer).log t.1 spared.1
  not_torn answer (inr t) spared = torn_rises hasK faultsK oldK newK (texts_of answer).out t.1 spared.0

  not_risen : (faultsK newK ≡ faultsK oldK) → (faultsL newL ≡ faultsL oldL) → Risen → ⊥
  not_risen k l (inl rises) = rises k
  not_risen k l (inr rises) = rises l

  -- by what an answer comes to, where it is given to the sinks
  pub given : (r : Result Texts Refusal) → OneOwed holds faults → Comes r (IsDue words (reads (holds old) (faults old) (faults new))) → Looks holds faults old new r
      → ((result ≡ 7 → ⊥) → (result ≡ 8 → ⊥) → (answer : Result Texts Fault) × (told_of r ≡ Some answer) × (result ≡ status_of answer) × Gained answer)
      → (result ≡ 7 → (answer : Result Texts Fault) × (told_of r ≡ Some answer) × Torn answer) → (result ≡ 8 → Same)
      → IsServedCall holds faults old new words hasK faultsK oldK newK hasL faultsL oldL newL result
  given r one due looks answered torn memory =
      let sinks : AreSinks Gained Torn Same Unchanged Risen = record {
        torn = not_torn;
        given = λ answer gained. not_risen (gained.0).calm (gained.1).calm;
        alone = λ same. not_risen (ap faultsK same.0) (ap faultsL same.1);
      } in
      let is : IsAnswered holds faults old new words Gained Torn Same Unchanged Risen result = record {
        answered = λ other sound. let a = answered other sound in (a.0, owed holds faults old new words r a.0 due looks a.1, a.2, a.3);
        torn = λ seven. let a = torn seven in (a.0, owed holds faults old new words r a.0 due looks a.1, a.2);
        memory = λ eight. (memory eight, untold holds faults old new words r due looks);
      } in
      is_call holds faults old new words Gained Torn Same Unchanged Risen result sinks is one
