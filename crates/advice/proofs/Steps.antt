-- Each line of a report, and what is due after it.
use Rattle.std.proofs.Common.{◌≡◌, ℕ, suc, ◌+◌, ◌-◌, ◌<◌, ◌==◌, ◌||◌, not, true, false, Some, Ok, List, [], ◌∷◌, ◌++◌, length, slice_get, codes, refl, ap, ◌∙◌, arith, length-append}
use Rattle.std.specs.Option.{option_to_list}
use Rattle.std.proofs.lemmas.Bool.{lt-ltb, ne_eqb}
use Rattle.std.proofs.Math.Seq.{drop-append-add, take-append_seam}
use Rattle.pn_text.specs.Bytes.{begins_with}
use Rattle.pn_text.specs.Lines.{is_lf}
use Rattle.pn_text.proofs.WordLexemes.{prefix_len-append}
use Rattle.advice.specs.Lines.{due_after, first_line, is_node, is_search, is_shown, to_lf, told_in, verdict_of}
use Rattle.advice.specs.Reading.{onto, verdicts_from}
use Rattle.advice.specs.Seams.{is_one_line}
use Rattle.advice.specs.Words.{are_as, has_form, is_number, decimal_number, words}
use Rattle.advice.specs.declared.due.Due.{Due}
use Rattle.advice.specs.declared.due.Due.TheVariants.{Title, Counts, Harts, Output, Shown, Nodes}
use Rattle.advice.specs.declared.verdict.Verdict.{Verdict}
use Rattle.advice.proofs.Fits.{number_is, number_there, word_there}
use Rattle.advice.proofs.ReadLines.{line_step}

-- wherever these bytes stand, they tell these verdicts
abbrev pub Reads : Due → List ℕ → List Verdict → Type 0
Reads due bytes vs = (at : ℕ) → verdicts_from due at 0 bytes ≡ Ok vs

-- ---- any line

pub to_lf_line : (line rest : List ℕ) → is_one_line line ≡ true → to_lf (line ++ 10 ∷ rest) ≡ Some line
to_lf_line line rest h =
    let place = prefix_len-append (λ b. not (is_lf b)) line (10 ∷ rest) h refl in
    let inside : length line < length (line ++ 10 ∷ rest) = omega (arith, length-append line (10 ∷ rest)) in
    rw (place, lt-ltb (length line) (length (line ++ 10 ∷ rest)) inside) (ap Some (take-append_seam line (10 ∷ rest)))

pub step_on : (due next : Due) (line rest : List ℕ) (vs : List Verdict) → first_line due (line ++ 10 ∷ rest) ≡ Some line → due_after due line ≡ Some next → Reads next rest vs → Reads due (line ++ 10 ∷ rest) (option_to_list (told_in due line) ++ vs)
step_on due next line rest vs first said more at =
    let inside : length line < length (line ++ 10 ∷ rest) = omega (arith, length-append line (10 ∷ rest)) in
    line_step due next at (line ++ 10 ∷ rest) line inside first said
    ∙ ap (λ (bytes : List ℕ). onto (option_to_list (told_in due line)) (verdicts_from next (at + (length line + 1)) 0 bytes)) (drop-append-add line (10 ∷ rest) 1)
    ∙ ap (onto (option_to_list (told_in due line))) (more (at + (length line + 1)))

-- ---- each line

pub title_step : (rest : List ℕ) (vs : List Verdict) → Reads Counts rest vs → Reads Title (codes "paradyn report 1\n" ++ rest) vs
title_step rest vs = step_on Title Counts (codes "paradyn report 1") rest vs (to_lf_line (codes "paradyn report 1") rest refl) refl

pub hart_step : (n : ℕ) (line rest : List ℕ) (vs : List Verdict) → is_one_line line ≡ true → begins_with (codes "hart ") line ≡ true → Reads (Harts n) rest vs → Reads (Harts (suc n)) (line ++ 10 ∷ rest) vs
hart_step n line rest vs one said =
    let more : (suc n == 0) ≡ false = ne_eqb (suc n) 0 (λ e. omega arith) in
    let left : suc n - 1 ≡ n = omega arith in
    step_on (Harts (suc n)) (Harts n) line rest vs (to_lf_line line rest one) (rw (more, said, left) refl)

get_seam : (xs : List ℕ) (y : ℕ) (ys : List ℕ) → slice_get (xs ++ y ∷ ys) (length xs) ≡ Some y
get_seam [] y ys = refl
get_seam (x ∷ xs) y ys = get_seam xs y ys

pub output_step : (output rest : List ℕ) (vs : List Verdict) → Reads Shown rest vs → Reads (Output (length output)) (output ++ 10 ∷ rest) vs
output_step output rest vs =
    step_on (Output (length output)) Shown output rest vs (rw (get_seam output 10 rest) (ap Some (take-append_seam output (10 ∷ rest)))) refl

pub shown_step : (line rest : List ℕ) (vs : List Verdict) → is_one_line line ≡ true → is_shown line ≡ true → Reads Shown rest vs → Reads Shown (line ++ 10 ∷ rest) vs
shown_step line rest vs one said = step_on Shown Shown line rest vs (to_lf_line line rest one) (rw said refl)

pub node_step : (n : ℕ) (line rest : List ℕ) (vs : List Verdict) → is_one_line line ≡ true → is_node line ≡ true → Reads (Nodes n) rest vs → Reads (Nodes (suc n)) (line ++ 10 ∷ rest) (option_to_list (verdict_of line) ++ vs)
node_step n line rest vs one said =
    let left : suc n - 1 ≡ n = omega arith in
    step_on (Nodes (suc n)) (Nodes n) line rest vs (to_lf_line line rest one) (rw (lt-ltb 0 (suc n) (omega arith), said, left) refl)

-- ---- lines with numbers

pub counts_due : (harts ticks samples skipped line : List ℕ) (count : ℕ) → words line ≡ codes "harts" ∷ harts ∷ codes "ticks" ∷ ticks ∷ codes "samples" ∷ samples ∷ codes "skipped" ∷ skipped ∷ [] → decimal_number harts ≡ Some count → is_number ticks ≡ true → is_number samples ≡ true → is_number skipped ≡ true → due_after Counts line ≡ Some (Harts count)
counts_due harts ticks samples skipped line count is a b c d =
    let form : has_form (codes "harts NUMBER ticks NUMBER samples NUMBER skipped NUMBER") line ≡ true =
    ap (are_as (words (codes "harts NUMBER ticks NUMBER samples NUMBER skipped NUMBER"))) is ∙ rw (number_is count harts a, b, c, d) refl in
    rw (form, number_there 1 count harts line (word_there 1 line _ is) a) refl

pub output_due : (number line : List ℕ) (count : ℕ) → words line ≡ codes "output" ∷ number ∷ [] → decimal_number number ≡ Some count → due_after (Harts 0) line ≡ Some (Output count)
output_due number line count is a =
    let form : has_form (codes "output NUMBER") line ≡ true = ap (are_as (words (codes "output NUMBER"))) is ∙ rw (number_is count number a) refl in
    rw (form, number_there 1 count number line (word_there 1 line _ is) a) refl

-- after the number of nodes stands nothing, or that there are no more
pub nodes_due : (number line : List ℕ) (tail : List (List ℕ)) (count : ℕ) → words line ≡ codes "search" ∷ codes "nodes" ∷ number ∷ tail → decimal_number number ≡ Some count → is_shown line ≡ false → (are_as [] tail || are_as (codes "full" ∷ []) tail) ≡ true → due_after Shown line ≡ Some (Nodes count)
nodes_due number line tail count is a other said =
    let search : is_search line ≡ true =
    ap (λ (all : List (List ℕ)). are_as (words (codes "search nodes NUMBER")) all || are_as (words (codes "search nodes NUMBER full")) all) is
    ∙ rw (number_is count number a) said in
    rw (other, search, number_there 2 count number line (word_there 2 line _ is) a) refl
