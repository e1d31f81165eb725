-- What is read from a line on.
use Rattle.std.proofs.Common.{◌≡◌, ℕ, zero, suc, ◌+◌, ◌<◌, ◌≤◌, ◌&&◌, nat_lt, Bool, true, false, Option, Some, None, Result, Ok, Err, List, [], ◌∷◌, ◌++◌, length, drop, refl, sym, ap, ◌∙◌, arith, append_assoc, add-one, IfSome}
use Rattle.std.specs.Option.{option_and_then, option_map_or, option_to_list}
use Rattle.std.specs.List.{All}
use Rattle.std.proofs.lemmas.List.Elements.{All-append, All-cons, All-nil}
use Rattle.std.proofs.lemmas.Bool.{ltb-true}
use Rattle.advice.specs.Advice.{HasTicks}
use Rattle.advice.specs.Lines.{due_after, first_line, is_true, told_in, true_form}
use Rattle.advice.specs.Reading.{Step, onto, step, step_on, verdicts_from}
use Rattle.advice.specs.Words.{has_form, number_at}
use Rattle.advice.specs.declared.due.Due.{Due}
use Rattle.advice.specs.declared.fault.ReportFault.{ReportFault}
use Rattle.advice.specs.declared.fault.ReportFault.TheVariants.{BadReport}
use Rattle.advice.specs.declared.verdict.Verdict.{Verdict}

both : (a b : Bool) → (a && b) ≡ true → b ≡ true
both true b e = e
both false b e = cc

-- a true line has ticks
pub true_ticks : (line : List ℕ) → is_true line ≡ true → 0 < number_at 12 line
true_ticks line e = ltb-true 0 (number_at 12 line) (both (has_form true_form line) (nat_lt 0 (number_at 12 line)) e)

-- ---- a line that was read

-- its bytes are passed
passing : (due : Due) (at k : ℕ) (bytes : List ℕ) → k ≤ length bytes → verdicts_from due at k bytes ≡ verdicts_from due (at + k) 0 (drop k bytes)
passing due at zero bytes h = let same : at ≡ at + 0 = omega arith in ap (λ (n : ℕ). verdicts_from due n 0 bytes) same
passing due at (suc k) [] h = absurd (omega arith)
passing due at (suc k) (byte ∷ bytes) h =
    let same : at + 1 + k ≡ at + suc k = omega arith in
    passing due (at + 1) k bytes (omega arith) ∙ ap (λ (n : ℕ). verdicts_from due n 0 (drop k bytes)) same

-- a line of the form that is due
stepped : (due next : Due) (bytes line : List ℕ) → first_line due bytes ≡ Some line → due_after due line ≡ Some next → step due bytes ≡ Some (record { length = length line; told = told_in due line; next = next })
stepped due next bytes line first said = rw (first, said) refl

pub line_step : (due next : Due) (at : ℕ) (bytes line : List ℕ) → length line < length bytes → first_line due bytes ≡ Some line → due_after due line ≡ Some next → verdicts_from due at 0 bytes ≡ onto (option_to_list (told_in due line)) (verdicts_from next (at + (length line + 1)) 0 (drop (length line + 1) bytes))
line_step due next at [] line h first said = absurd (omega arith)
line_step due next at (byte ∷ bytes) line h first said =
    let place : at + 1 + length line ≡ at + (length line + 1) = omega arith in
    let rest : verdicts_from next (at + 1) (length line) bytes ≡ verdicts_from next (at + (length line + 1)) 0 (drop (length line + 1) (byte ∷ bytes)) =
    passing next (at + 1) (length line) bytes (omega arith)
    ∙ ap (λ (n : ℕ). verdicts_from next n 0 (drop (length line) bytes)) place
    ∙ rw add-one refl in
    ap (λ (o : Option Step). option_map_or (λ s. onto (option_to_list s.told) (verdicts_from s.next (at + 1) s.length bytes)) o (Err (BadReport at))) (stepped due next (byte ∷ bytes) line first said)
    ∙ ap (onto (option_to_list (told_in due line))) rest

-- a line that isn't
refused : (due : Due) (bytes line : List ℕ) → first_line due bytes ≡ Some line → due_after due line ≡ None → step due bytes ≡ None
refused due bytes line first wrong = rw (first, wrong) refl

pub fault_step : (due : Due) (at : ℕ) (bytes line : List ℕ) → 0 < length bytes → first_line due bytes ≡ Some line → due_after due line ≡ None → verdicts_from due at 0 bytes ≡ Err (BadReport at)
fault_step due at [] line h first wrong = absurd (omega arith)
fault_step due at (byte ∷ bytes) line h first wrong =
    ap (λ (o : Option Step). option_map_or (λ s. onto (option_to_list s.told) (verdicts_from s.next (at + 1) s.length bytes)) o (Err (BadReport at))) (refused due (byte ∷ bytes) line first wrong)

-- a line without its LF
pub cut_step : (due : Due) (at : ℕ) (bytes : List ℕ) → 0 < length bytes → first_line due bytes ≡ None → verdicts_from due at 0 bytes ≡ Err (BadReport at)
cut_step due at [] h cut = absurd (omega arith)
cut_step due at (byte ∷ bytes) h cut =
    ap (λ (o : Option (List ℕ)). option_map_or (λ s. onto (option_to_list s.told) (verdicts_from s.next (at + 1) s.length bytes)) (option_and_then (step_on due) o) (Err (BadReport at))) cut

-- ---- verdicts

pub onto_onto : (vs ws : List Verdict) (r : Result (List Verdict) ReportFault) → onto vs (onto ws r) ≡ onto (vs ++ ws) r
onto_onto vs ws (Ok rest) = ap Ok (sym (append_assoc vs ws rest))
onto_onto vs ws (Err fault) = refl

-- with a verdict that has ticks all have some
pub ticks_onto : (vs : List Verdict) (v : Option Verdict) → All HasTicks vs → IfSome v HasTicks → All HasTicks (vs ++ option_to_list v)
ticks_onto vs None all one = All-append HasTicks vs [] all (All-nil HasTicks)
ticks_onto vs (Some v) all one = All-append HasTicks vs (v ∷ []) all (All-cons HasTicks v [] one (All-nil HasTicks))
