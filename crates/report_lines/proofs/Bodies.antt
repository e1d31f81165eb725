-- The words of lines.
use Rattle.std.proofs.Common.{◌≡◌, ℕ, true, List, [], ◌∷◌, ◌++◌, ap, ◌∙◌}
use Rattle.std.specs.List.{list_all}
use Rattle.std.proofs.lemmas.List.{append_cancel_right}
use Rattle.advice.specs.Words.{words}
use Rattle.advice.proofs.Spaced.{before, is_word, one_word, words_before}
use Rattle.report_lines.specs.Laws.{IsLine}

-- the line of a text is what stands before the text's LF
pub body_is : (line body text : List ℕ) → IsLine line text → text ≡ body ++ 10 ∷ [] → line ≡ body
body_is line body text is e = append_cancel_right line body (10 ∷ []) (is ∙ e)

-- words with one more behind them
pub words_and_last : (ws : List (List ℕ)) (last : List ℕ) → list_all is_word ws ≡ true → is_word last ≡ true → words (before ws last) ≡ ws ++ last ∷ []
words_and_last ws last h k = words_before ws last h ∙ ap (λ (l : List (List ℕ)). ws ++ l) (one_word last k)

-- the words of a text with words before it
pub words_and_text : (ws : List (List ℕ)) (text : List ℕ) (more : List (List ℕ)) → list_all is_word ws ≡ true → words text ≡ more → words (before ws text) ≡ ws ++ more
words_and_text ws text more h k = words_before ws text h ∙ ap (λ (l : List (List ℕ)). ws ++ l) k
