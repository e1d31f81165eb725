-- What the words of a node's line tell.
use Rattle.std.proofs.Common.{◌≡◌, ℕ, ◌<◌, ◌==◌, Bool, true, false, Option, Some, None, List, [], ◌∷◌, length, slice_get, codes, refl, ap, ap₂, ◌∙◌, arith}
use Rattle.std.specs.Option.{unwrap_or}
use Rattle.std.proofs.lemmas.Bool.{lt-ltb}
use Rattle.std.proofs.lemmas.List.Splits.{length-slice_split}
use Rattle.advice.specs.Lines.{barred_form, false_form, is_false, is_node, is_true, is_untold, verdict_of_line, true_form, verdict_of, waiting_form}
use Rattle.advice.specs.Words.{are_as, has_form, is_number, decimal_number, word_at, words}
use Rattle.advice.specs.declared.verdict.Verdict.{Verdict}
use Rattle.advice.proofs.Fits.{head_forms, head_words, number_is, number_there, verdict_forms, verdict_fits, word_there}

-- a node's line, and the verdict that it tells
pub record TellsVerdict (line : List ℕ) (v : Option Verdict) : Type 0 where
  pub node : is_node line ≡ true
  pub told : verdict_of line ≡ v

abbrev true_forms : List (List ℕ)
true_forms = codes "true" ∷ verdict_forms

abbrev false_forms : List (List ℕ)
false_forms = codes "false" ∷ verdict_forms

abbrev waiting_forms : List (List ℕ)
waiting_forms = codes "waiting" ∷ codes "seen" ∷ codes "NUMBER" ∷ codes "of" ∷ codes "NUMBER" ∷ []

abbrev barred_forms : List (List ℕ)
barred_forms = codes "barred" ∷ codes "ANYTHING" ∷ []

anything : (ws : List (List ℕ)) → 0 < length ws → are_as (codes "ANYTHING" ∷ []) ws ≡ true
anything [] h = absurd (omega arith)
anything (w ∷ ws) h = refl

module _ (line number phase parent hypothesis focus : List ℕ) where
  abbrev pub IsHeaded : List (List ℕ) → Type 0
  IsHeaded ws = (words line ≡ head_words number phase parent hypothesis focus ws) × ((fs : List (List ℕ)) → are_as (head_forms fs) (head_words number phase parent hypothesis focus ws) ≡ are_as fs ws)

  as_form : (form : List ℕ) (fs ws : List (List ℕ)) → IsHeaded ws → words form ≡ head_forms fs → has_form form line ≡ are_as fs ws
  as_form form fs ws is e = ap₂ are_as e is.0 ∙ is.1 fs

  word_is : (k : ℕ) (ws : List (List ℕ)) → IsHeaded ws → word_at k line ≡ unwrap_or (slice_get (head_words number phase parent hypothesis focus ws) k) []
  word_is k ws is = word_there k line (head_words number phase parent hypothesis focus ws) is.0

  abbrev verdict_words : List ℕ → List ℕ → List ℕ → List ℕ → List ℕ → List (List ℕ)
  verdict_words verdict value ticks from to = verdict ∷ codes "value" ∷ value ∷ codes "ticks" ∷ ticks ∷ codes "from" ∷ from ∷ codes "to" ∷ to ∷ []

  module _ (value ticks from to : List ℕ) (n m : ℕ) (a : decimal_number value ≡ Some n) (b : decimal_number ticks ≡ Some m) (c : is_number from ≡ true) (d : is_number to ≡ true) where
    told_is : (holds : Bool) (verdict : List ℕ) → IsHeaded (verdict_words verdict value ticks from to) → verdict_of_line holds line ≡ record { hypothesis = hypothesis; holds = holds; value = n; ticks = m }
    told_is holds verdict is =
        let ws = verdict_words verdict value ticks from to in
        rw (word_is 6 ws is, number_there 10 n value line (word_is 10 ws is) a, number_there 12 m ticks line (word_is 12 ws is) b) refl

    pub tells_true : IsHeaded (verdict_words (codes "true") value ticks from to) → 0 < m → TellsVerdict line (Some (record { hypothesis = hypothesis; holds = true; value = n; ticks = m }))
    tells_true is some =
        let ws = verdict_words (codes "true") value ticks from to in
        let form : has_form true_form line ≡ true = as_form true_form true_forms ws is refl ∙ verdict_fits value ticks from to (number_is n value a) (number_is m ticks b) c d in
        let said : is_true line ≡ true = rw (form, number_there 12 m ticks line (word_is 12 ws is) b, lt-ltb 0 m some) refl in
        record { node = rw said refl; told = rw said (ap Some (told_is true (codes "true") is)) }

    pub tells_false : IsHeaded (verdict_words (codes "false") value ticks from to) → TellsVerdict line (Some (record { hypothesis = hypothesis; holds = false; value = n; ticks = m }))
    tells_false is =
        let ws = verdict_words (codes "false") value ticks from to in
        let no : has_form true_form line ≡ false = as_form true_form true_forms ws is refl in
        let form : is_false line ≡ true = as_form false_form false_forms ws is refl ∙ verdict_fits value ticks from to (number_is n value a) (number_is m ticks b) c d in
        let other : is_true line ≡ false = rw no refl in
        record { node = rw (other, form) refl; told = rw (other, form) (ap Some (told_is false (codes "false") is)) }

  untold : (ws : List (List ℕ)) → IsHeaded ws → are_as true_forms ws ≡ false → are_as false_forms ws ≡ false → is_untold line ≡ true → TellsVerdict line None
  untold ws is a b said =
      let not_true : is_true line ≡ false = rw (as_form true_form true_forms ws is refl ∙ a) refl in
      let not_false : is_false line ≡ false = as_form false_form false_forms ws is refl ∙ b in
      record { node = rw (not_true, not_false) said; told = rw (not_true, not_false) refl }

  pub tells_waiting : (seen window : List ℕ) → is_number seen ≡ true → is_number window ≡ true → IsHeaded (codes "waiting" ∷ codes "seen" ∷ seen ∷ codes "of" ∷ window ∷ []) → TellsVerdict line None
  tells_waiting seen window a b is =
      let ws = codes "waiting" ∷ codes "seen" ∷ seen ∷ codes "of" ∷ window ∷ [] in
      let fits : are_as waiting_forms ws ≡ true = rw (a, b) refl in
      let form : has_form waiting_form line ≡ true = as_form waiting_form waiting_forms ws is refl ∙ fits in
      untold ws is refl refl (rw form refl)

  pub tells_barred : (cause : List ℕ) → IsHeaded (codes "barred" ∷ words cause) → TellsVerdict line None
  tells_barred cause is =
      let ws = codes "barred" ∷ words cause in
      let some : 0 < length (words cause) = omega (arith, length-slice_split (λ byte. byte == 32) cause) in
      let no : has_form waiting_form line ≡ false = as_form waiting_form waiting_forms ws is refl in
      let form : has_form barred_form line ≡ true = as_form barred_form barred_forms ws is refl ∙ anything (words cause) some in
      untold ws is refl refl (rw (no, form) refl)
