-- Over files that are told one answer is owed; under `live` the texts may be others.
use Rattle.std.proofs.Common.{◌≡◌, ◌≢◌, ℕ, ◌+◌, ◌-◌, ◌^◌, ◌<◌, List, Some, None, Bool, true, false, Result, Ok, Err, refl, sym, ap, ◌∙◌, arith}
use Rattle.std.proofs.Math.Nat.{min-eq_left}
use Rattle.std.proofs.lemmas.Slice.Eq.{bytes_eq-Decides}
use Rattle.std.specs.Prelude.{IsSome}
use Rattle.std.specs.Str.{bytes_eq}
use Rattle.command_words.specs.Requests.{request_of}
use Rattle.outside.specs.Causes.{count_up, Rose}
use Rattle.outside.specs.Outside.{Holding, IsWhole, IsCalm}
use Rattle.refusals.proofs.Steps.{IsOne}
use Rattle.refusals.specs.declared.fault.Fault.{Fault}
use Rattle.refusals.specs.declared.fault.Fault.TheVariants.{Usage, FileFault, BadProgram, BadConf, BadPick, BadLog, TooManyBlocks, BadDirectives, BadReport, BadNewReport, NoProcedure, NoLines, BadLines}
use Rattle.commands.proofs.OneDue.{Laws, due_once, of_same}
use Rattle.commands.proofs.Rising.{NotFile, rises}
use Rattle.commands.specs.Due.{AreOne, is_live}
use Rattle.headline.specs.Serving.{AreFilesKnown, IsOwed}
use Rattle.commands.specs.FileReadings.{reads, Counted}
use Rattle.commands.specs.declared.texts.Texts.{Texts}

-- what may be told of a fault
data Naming : Fault → Type 0 where
  File : (name : List ℕ) → Naming (FileFault name)
  Other : (fault : Fault) → NotFile fault → Naming fault

naming : (fault : Fault) → Naming fault
naming Usage = Other Usage tt
naming (FileFault name) = File name
naming (BadProgram fault) = Other (BadProgram fault) tt
naming (BadConf fault) = Other (BadConf fault) tt
naming (BadPick metric focus why) = Other (BadPick metric focus why) tt
naming (BadLog place why) = Other (BadLog place why) tt
naming (TooManyBlocks count) = Other (TooManyBlocks count) tt
naming (BadDirectives fault) = Other (BadDirectives fault) tt
naming (BadReport place) = Other (BadReport place) tt
naming (BadNewReport place) = Other (BadNewReport place) tt
naming (NoProcedure name) = Other (NoProcedure name) tt
naming NoLines = Other NoLines tt
naming (BadLines place) = Other (BadLines place) tt

pub same_bytes : (holding : Holding) (x y : List ℕ) → IsSome holding → IsWhole holding x → IsWhole holding y → x ≡ y
same_bytes None x y told a b = absurd (cc)
same_bytes (Some None) x y told a b = absurd a
same_bytes (Some (Some file)) x y told a b = a ∙ sym b

not_risen : (before now : ℕ) → before < 2 ^ 64 - 1 → now ≡ before → Rose before now → ⊥
not_risen before now below same rose =
    let up : count_up before ≡ before + 1 = min-eq_left (omega arith) in
    omega arith

module _ {F : Type 0} (holds : F → List ℕ → Holding) (faults : F → List ℕ → ℕ) (old new : F) (told : AreFilesKnown holds faults old) where
  calm_of : (fault : Fault) → NotFile fault → Counted holds faults old new fault → IsCalm faults old new
  calm_of Usage other c = c
  calm_of (FileFault name) other c = absurd other
  calm_of (BadProgram fault) other c = c
  calm_of (BadConf fault) other c = c
  calm_of (BadPick metric focus why) other c = c
  calm_of (BadLog place why) other c = c
  calm_of (TooManyBlocks count) other c = c
  calm_of (BadDirectives fault) other c = c
  calm_of (BadReport place) other c = c
  calm_of (BadNewReport place) other c = c
  calm_of (NoProcedure name) other c = c
  calm_of NoLines other c = c
  calm_of (BadLines place) other c = c

  seen_once : IsCalm faults old new → (name : List ℕ) → IsOne (reads (holds old) (faults old) (faults new) name)
  seen_once calm name (Ok x) (Ok y) a b = ap (λ (bytes : List ℕ). Ok bytes) (same_bytes (holds old name) x y (told name).0 a.0 b.0)
  seen_once calm name (Ok x) (Err g) a b = absurd (not_risen (faults old name) (faults new name) (told name).1 (calm name) b.1)
  seen_once calm name (Err f) (Ok y) a b = absurd (not_risen (faults old name) (faults new name) (told name).1 (calm name) a.1)
  seen_once calm name (Err f) (Err g) a b = ap (λ (fault : Fault). Err fault) (a.0 ∙ sym b.0)

  module _ (laws : Laws) (words : List (List ℕ)) where
    abbrev Owed : Result Texts Fault → Type 0
    Owed = IsOwed holds faults old new words

    abbrev Same : Result Texts Fault → Result Texts Fault → Type 0
    Same = AreOne (is_live (request_of words))

    of_equal : (live : Bool) (a b : Result Texts Fault) → a ≡ b → AreOne live a b
    of_equal true a b e = of_same a b e
    of_equal false a b e = e

    calm_once : IsCalm faults old new → (a b : Result Texts Fault) → Owed a → Owed b → Same a b
    calm_once calm a b owed other = due_once laws (reads (holds old) (faults old) (faults new)) (seen_once calm) words a b owed.due other.due

    risen : (name : List ℕ) → Owed (Err (FileFault name)) → Rose (faults old name) (faults new name)
    risen name owed = rises (holds old) (faults old) (faults new) name words owed.due

    same_name : (m n : List ℕ) → Owed (Err (FileFault m)) → Owed (Err (FileFault n)) → (t : Bool) → bytes_eq m n ≡ t → m ≡ n
    same_name m n a b true e = (bytes_eq-Decides m n).0 e
    same_name m n a b false e =
        let apart : n ≢ m = λ same. let yes = (bytes_eq-Decides m n).1 (sym same) in cc in
        absurd (not_risen (faults old n) (faults new n) (told n).1 (a.counts.others n apart (told n).0) (risen n b))

    abbrev refused : Fault → Result Texts Fault
    refused fault = Err fault

    fault_once : (f g : Fault) → Naming f → Naming g → Owed (refused f) → Owed (refused g) → Same (refused f) (refused g)
    fault_once f g (Other e h) y a b = calm_once (calm_of f h a.counts) (Err f) (Err g) a b
    fault_once f g (File m) (Other e h) a b = absurd (not_risen (faults old m) (faults new m) (told m).1 (calm_of g h b.counts m) (risen m a))
    fault_once f g (File m) (File n) a b =
        of_equal (is_live (request_of words)) (refused (FileFault m)) (refused (FileFault n)) (ap (λ (name : List ℕ). refused (FileFault name)) (same_name m n a b (bytes_eq m n) refl))

    pub owed_once : (a b : Result Texts Fault) → Owed a → Owed b → Same a b
    owed_once (Ok x) b owed other = calm_once owed.counts (Ok x) b owed other
    owed_once (Err f) (Ok y) owed other = calm_once other.counts (Err f) (Ok y) owed other
    owed_once (Err f) (Err g) owed other = fault_once f g (naming f) (naming g) owed other
