-- What was looked at of files by a step after one that came to a value.
use Rattle.std.proofs.Common.{◌≡◌, ℕ, List, Result, Ok, Err, sym, ◌∙◌, subst, arith}
use Rattle.std.specs.Prelude.{IsSome}
use Rattle.outside.specs.Outside.{Holding, IsCalm}
use Rattle.refusals.specs.declared.fault.Fault.{Fault}
use Rattle.refusals.specs.declared.fault.Fault.TheVariants.{Usage, FileFault, BadProgram, BadConf, BadPick, BadLog, TooManyBlocks, BadDirectives, BadReport, BadNewReport, NoProcedure, NoLines, BadLines}
use Rattle.refusals.specs.declared.refusal.Refusal.{Refusal}
use Rattle.refusals.specs.declared.refusal.Refusal.TheVariants as refusal
use Rattle.commands.specs.FileReadings.{Counted, Looks}

module _ {F : Type 0} (holds : F → List ℕ → Holding) (faults : F → List ℕ → ℕ) (old mid new : F) (same : (name : List ℕ) → holds mid name ≡ holds old name) (calm : IsCalm faults old mid) where
  calm_behind : IsCalm faults mid new → IsCalm faults old new
  calm_behind later name = later name ∙ calm name

  counted_behind : (fault : Fault) → Counted holds faults mid new fault → Counted holds faults old new fault
  counted_behind Usage later = calm_behind later
  counted_behind (FileFault unread) later = record {
    same = λ name. later.same name ∙ same name;
    rising = λ name. omega (arith, later.rising name, calm name);
    others = λ name apart told. later.others name apart (subst (λ h. IsSome h) (sym (same name)) told) ∙ calm name;
  }
  counted_behind (BadProgram fault) later = calm_behind later
  counted_behind (BadConf fault) later = calm_behind later
  counted_behind (BadPick metric focus why) later = calm_behind later
  counted_behind (BadLog place why) later = calm_behind later
  counted_behind (TooManyBlocks count) later = calm_behind later
  counted_behind (BadDirectives fault) later = calm_behind later
  counted_behind (BadReport place) later = calm_behind later
  counted_behind (BadNewReport place) later = calm_behind later
  counted_behind (NoProcedure name) later = calm_behind later
  counted_behind NoLines later = calm_behind later
  counted_behind (BadLines place) later = calm_behind later

  pub looks_behind : {A : Type 0} (r : Result A Refusal) → Looks holds faults mid new r → Looks holds faults old new r
  looks_behind (Ok a) later = record { same = λ name. later.same name ∙ same name; counts = calm_behind later.counts }
  looks_behind (Err refusal.NoMemory) later = record { same = λ name. later.same name ∙ same name; counts = calm_behind later.counts }
  looks_behind (Err (refusal.Fault fault)) later = record { same = λ name. later.same name ∙ same name; counts = counted_behind fault later.counts }
