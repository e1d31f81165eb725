-- The line of a bin is read.
use Rattle.std.proofs.Common.{◌≡◌, ℕ, true, List, [], ◌∷◌, ◌++◌, codes, refl, ap, ◌∙◌}
use Rattle.std.specs.Fmt.{decimal}
use Rattle.std.specs.List.{list_all}
use Rattle.std.proofs.lemmas.List.{append_assoc}
use Rattle.advice.specs.Words.{words}
use Rattle.advice.proofs.Fits.{number_read}
use Rattle.advice.proofs.Spaced.{before, digits_above, is_word}
use Rattle.report_lines.specs.Laws.{BinIsRead}
use Rattle.report_lines.proofs.Bodies.{body_is, words_and_last}

abbrev front : List ℕ → List ℕ → List ℕ → List (List ℕ)
front n from to = codes "bin" ∷ n ∷ codes "from" ∷ from ∷ codes "to" ∷ to ∷ codes "value" ∷ []

regroup : (n from to sum : List ℕ) → codes "bin " ++ (n ++ (codes " from " ++ (from ++ (codes " to " ++ (to ++ (codes " value " ++ (sum ++ codes "\n"))))))) ≡ before (front n from to) sum ++ 10 ∷ []
regroup n from to sum = simp append_assoc

pub bin_is_read : BinIsRead
bin_is_read n bin line h is =
    let before_sum = front (decimal n) (decimal bin.from) (decimal bin.to) in
    let above : list_all is_word before_sum ≡ true = rw (digits_above 10 n, digits_above 10 bin.from, digits_above 10 bin.to) refl in
    let same : line ≡ before before_sum (decimal bin.sum) = body_is line (before before_sum (decimal bin.sum)) _ is (regroup (decimal n) (decimal bin.from) (decimal bin.to) (decimal bin.sum)) in
    let all : words line ≡ before_sum ++ decimal bin.sum ∷ [] = ap words same ∙ words_and_last before_sum (decimal bin.sum) above (digits_above 10 bin.sum) in
    rw (all, number_read bin.from h.from, number_read bin.to h.to, number_read bin.sum h.sum) refl
