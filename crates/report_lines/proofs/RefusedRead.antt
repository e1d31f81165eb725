-- The line of a refused wish is read.
use Rattle.std.proofs.Common.{◌≡◌, ℕ, cond, Bool, true, false, List, [], ◌∷◌, ◌++◌, codes, refl, ap, ◌∙◌}
use Rattle.std.specs.Fmt.{decimal}
use Rattle.std.specs.List.{list_all}
use Rattle.std.proofs.lemmas.List.{append_assoc}
use Rattle.pn_types.specs.Texts.{cause_text}
use Rattle.pn_types.specs.declared.pick.PickCause.{PickCause}
use Rattle.report.specs.ShownTexts.{refused_line}
use Rattle.advice.specs.Words.{words}
use Rattle.advice.proofs.Fits.{word_there}
use Rattle.advice.proofs.Spaced.{all_append, before, digits_above, is_above, is_word}
use Rattle.report_lines.specs.Causes.{cause_at}
use Rattle.report_lines.specs.Laws.{RefusedIsRead}
use Rattle.report_lines.specs.Lines.{refused_of_line}
use Rattle.report_lines.specs.Readable.{Is64Bit, IsCause}
use Rattle.report_lines.proofs.Bodies.{body_is, words_and_text}
use Rattle.report_lines.proofs.CausesRead.{cause_read, cause_words, words_of_cause}
use Rattle.report_lines.proofs.NumbersRead.{before_read}

-- whether the metric was to be shown
abbrev wish_word : Bool → List ℕ
wish_word show = cond show (codes "show") (codes "drop")

-- the time, with a colon behind it
abbrev time_word : ℕ → List ℕ
time_word at = decimal at ++ 58 ∷ []

abbrev heads : Bool → List ℕ → List ℕ → ℕ → List (List ℕ) → List (List ℕ)
heads show metric focus at ws = codes "refused" ∷ wish_word show ∷ metric ∷ focus ∷ codes "at" ∷ time_word at ∷ ws

regroup : (show : Bool) (metric focus : List ℕ) (at : ℕ) (cause : List ℕ) → codes "refused " ++ (cond show (codes "show ") (codes "drop ") ++ ((metric ++ (codes " " ++ focus)) ++ (codes " at " ++ (decimal at ++ (codes ": " ++ (cause ++ codes "\n")))))) ≡ before (heads show metric focus at []) cause ++ 10 ∷ []
regroup true metric focus at cause = simp append_assoc
regroup false metric focus at cause = simp append_assoc

wish_above : (show : Bool) → is_word (wish_word show) ≡ true
wish_above true = refl
wish_above false = refl

time_above : (at : ℕ) → is_word (time_word at) ≡ true
time_above at = all_append is_above (decimal at) (58 ∷ []) (digits_above 10 at) refl

module _ (line metric focus : List ℕ) (at : ℕ) (cause : PickCause) (h : Is64Bit at) (k : IsCause cause) where
  told : (show : Bool) → words line ≡ heads show metric focus at (cause_words cause) → cause_at 6 line ≡ cause
  told show is =
      let ws = heads show metric focus at (cause_words cause) in
      cause_read cause 6 line k
      (record { first = word_there 6 line ws is; second = word_there 7 line ws is; third = word_there 8 line ws is; object = word_there 9 line ws is; count = word_there 9 line ws is; last = word_there 10 line ws is })

  wish_read : (show : Bool) → words line ≡ heads show metric focus at (cause_words cause) → refused_of_line line ≡ record { show = show; metric = metric; focus = focus; at = at; cause = cause }
  wish_read true is = rw (told true is, is, before_read at 58 h) refl
  wish_read false is = rw (told false is, is, before_read at 58 h) refl

pub refused_is_read : RefusedIsRead
refused_is_read part line h is =
    let front = heads part.show part.metric part.focus part.at [] in
    let text = cause_text part.cause in
    let same : line ≡ before front text = body_is line (before front text) (refused_line part) is (regroup part.show part.metric part.focus part.at text) in
    let above : list_all is_word front ≡ true = rw (wish_above part.show, h.metric, h.focus, time_above part.at) refl in
    wish_read line part.metric part.focus part.at part.cause h.at h.cause part.show (ap words same ∙ words_and_text front text (cause_words part.cause) above (words_of_cause part.cause))
