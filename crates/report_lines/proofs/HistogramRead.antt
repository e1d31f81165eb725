-- The line of a histogram is read, whose units may have spaces.
use Rattle.std.proofs.Common.{◌≡◌, ℕ, suc, ◌+◌, ◌-◌, ◌==◌, cond, Bool, true, false, Option, Some, None, List, [], ◌∷◌, ◌++◌, length, take, drop, slice_get, codes, refl, sym, ap, ◌∙◌, arith, length-append, zero-add}
use Rattle.std.specs.Fmt.{decimal}
use Rattle.std.specs.List.{list_all, onto_first, slice_split}
use Rattle.std.specs.Option.{unwrap_or}
use Rattle.std.proofs.lemmas.List.{append_assoc, drop_at, take_at}
use Rattle.report.specs.ShownTexts.{from_text, histogram_head}
use Rattle.report.specs.declared.parts.ShownPart.{ShownPart}
use Rattle.advice.specs.Words.{word_at, words}
use Rattle.advice.proofs.Fits.{word_there}
use Rattle.advice.proofs.Spaced.{before, digits_above, is_word}
use Rattle.report_lines.specs.Laws.{HistogramIsRead}
use Rattle.report_lines.specs.Lines.{back_length, bins_of_line, front_length, histogram_of_line, last_at, units_in_line}
use Rattle.report_lines.specs.Readable.{Is64Bit, IsHistogramPart}
use Rattle.report_lines.proofs.Bodies.{body_is, words_and_last, words_and_text}
use Rattle.report_lines.proofs.NumbersRead.{moment_read, number_in_read}

-- ---- words on both sides of a space

onto_append : (byte : ℕ) (ps qs : List (List ℕ)) (text : List ℕ) → ps ≡ slice_split (λ b. b == 32) text → onto_first byte (ps ++ qs) ≡ onto_first byte ps ++ qs
onto_append byte [] qs text is = absurd (no_parts text is)
  where
    onto_some : (b : ℕ) (ps : List (List ℕ)) → [] ≡ onto_first b ps → ⊥
    onto_some b [] e = cc
    onto_some b (p ∷ ps) e = cc

    either_some : (t : Bool) (b : ℕ) (ps : List (List ℕ)) → [] ≡ cond t ([] ∷ ps) (onto_first b ps) → ⊥
    either_some true b ps e = cc
    either_some false b ps e = onto_some b ps e

    no_parts : (text : List ℕ) → [] ≡ slice_split (λ b. b == 32) text → ⊥
    no_parts [] e = cc
    no_parts (b ∷ bs) e = either_some (b == 32) b (slice_split (λ c. c == 32) bs) e
onto_append byte (p ∷ ps) qs text is = refl

-- the words of two texts with a space between them
words_between : (a b : List ℕ) → words (a ++ 32 ∷ b) ≡ words a ++ words b
words_between [] b = refl
words_between (byte ∷ a) b = by (byte == 32) (words_between a b)
  where
    by : (t : Bool) → words (a ++ 32 ∷ b) ≡ words a ++ words b → cond t ([] ∷ words (a ++ 32 ∷ b)) (onto_first byte (words (a ++ 32 ∷ b))) ≡ cond t ([] ∷ words a) (onto_first byte (words a)) ++ words b
    by true rest = ap (λ (ws : List (List ℕ)). [] ∷ ws) rest
    by false rest = ap (onto_first byte) rest ∙ onto_append byte (words a) (words b) a refl

-- ---- the words before and behind the units

abbrev heads : List ℕ → List ℕ → List (List ℕ)
heads metric focus = codes "histogram" ∷ metric ∷ focus ∷ codes "units" ∷ []

abbrev tail_fronts : List ℕ → List ℕ → List (List ℕ)
tail_fronts from bins = codes "from" ∷ from ∷ codes "bins" ∷ bins ∷ codes "width" ∷ []

abbrev tail_words : List ℕ → List ℕ → List ℕ → List (List ℕ)
tail_words from bins width = codes "from" ∷ from ∷ codes "bins" ∷ bins ∷ codes "width" ∷ width ∷ []

abbrev tail_text : List ℕ → List ℕ → List ℕ → List ℕ
tail_text from bins width = before (tail_fronts from bins) width

regroup : (metric focus units from bins width : List ℕ) → codes "histogram " ++ ((metric ++ (codes " " ++ focus)) ++ (codes " units " ++ (units ++ (codes " from " ++ (from ++ (codes " bins " ++ (bins ++ (codes " width " ++ (width ++ codes "\n"))))))))) ≡ before (heads metric focus) (units ++ 32 ∷ tail_text from bins width) ++ 10 ∷ []
regroup metric focus units from bins width = simp append_assoc

from_above : (from : Option ℕ) → is_word (from_text from) ≡ true
from_above None = refl
from_above (Some n) = digits_above 10 n

-- ---- places from the end on

get_behind : (xs ys : List (List ℕ)) (i : ℕ) → slice_get (xs ++ ys) (length xs + i) ≡ slice_get ys i
get_behind [] ys i = ap (slice_get ys) (zero-add i)
get_behind (x ∷ xs) ys i =
    let next : length (x ∷ xs) + i ≡ suc (length xs + i) = omega arith in
    ap (slice_get (x ∷ (xs ++ ys))) next ∙ get_behind xs ys i

last_there : (line : List ℕ) (front back : List (List ℕ)) (place i : ℕ) → words line ≡ front ++ back → place + i ≡ length back → last_at place line ≡ unwrap_or (slice_get back i) []
last_there line front back place i is e =
    let many : length (words line) ≡ length front + length back = ap length is ∙ length-append front back in
    let there : length (words line) - place ≡ length front + i = omega arith in
    ap (λ (k : ℕ). word_at k line) there ∙ word_there (length front + i) line (front ++ back) is
    ∙ ap (λ (o : Option (List ℕ)). unwrap_or o []) (get_behind front back i)

-- ---- the units

cut : (a b c line : List ℕ) (front back : ℕ) → line ≡ a ++ (b ++ c) → length a ≡ front → length c ≡ back → take (length line - back - front) (drop front line) ≡ b
cut a b c line front back is f g =
    let long : length line ≡ length a + (length b + length c) = ap length is ∙ length-append a (b ++ c) ∙ ap (λ (n : ℕ). length a + n) (length-append b c) in
    let count : length line - back - front ≡ length b = omega arith in
    rw (count, is, drop_at a (b ++ c) front f) (take_at b c (length b) refl)

abbrev front_text : List ℕ → List ℕ → List ℕ
front_text metric focus = codes "histogram " ++ (metric ++ (codes " " ++ (focus ++ codes " units ")))

abbrev back_text : List ℕ → List ℕ → List ℕ → List ℕ
back_text from bins width = codes " from " ++ (from ++ (codes " bins " ++ (bins ++ (codes " width " ++ width))))

parted : (metric focus units from bins width : List ℕ) → before (heads metric focus) (units ++ 32 ∷ tail_text from bins width) ≡ front_text metric focus ++ (units ++ back_text from bins width)
parted metric focus units from bins width = simp append_assoc

length-front : (metric focus : List ℕ) → length (front_text metric focus) ≡ length metric + length focus + 18
length-front metric focus = simp length-append (omega arith)

length-back : (from bins width : List ℕ) → length (back_text from bins width) ≡ length from + length bins + length width + 19
length-back from bins width = simp length-append (omega arith)

module _ (bins : ℕ) (part : ShownPart) (line : List ℕ) (sized : Is64Bit bins) (h : IsHistogramPart part) where
  abbrev from_word : List ℕ
  from_word = from_text part.from

  abbrev bins_word : List ℕ
  bins_word = decimal bins

  abbrev width_word : List ℕ
  width_word = decimal part.width

  abbrev body : List ℕ
  body = before (heads part.metric part.focus) (part.units ++ 32 ∷ tail_text from_word bins_word width_word)

  heads_above : list_all is_word (heads part.metric part.focus) ≡ true
  heads_above = rw (h.metric, h.focus) refl

  fronts_above : list_all is_word (tail_fronts from_word bins_word) ≡ true
  fronts_above = rw (from_above part.from, digits_above 10 bins) refl

  tail_is : words (tail_text from_word bins_word width_word) ≡ tail_words from_word bins_word width_word
  tail_is = words_and_last (tail_fronts from_word bins_word) width_word fronts_above (digits_above 10 part.width)

  body_words : words body ≡ heads part.metric part.focus ++ (words part.units ++ tail_words from_word bins_word width_word)
  body_words =
      words_and_text (heads part.metric part.focus) (part.units ++ 32 ∷ tail_text from_word bins_word width_word) (words part.units ++ tail_words from_word bins_word width_word) heads_above
      (words_between part.units (tail_text from_word bins_word width_word) ∙ ap (λ (ws : List (List ℕ)). words part.units ++ ws) tail_is)

  module _ (same : line ≡ body) where
    all : words line ≡ heads part.metric part.focus ++ (words part.units ++ tail_words from_word bins_word width_word)
    all = ap words same ∙ body_words

    first_word : word_at 1 line ≡ part.metric
    first_word = word_there 1 line _ all

    second_word : word_at 2 line ≡ part.focus
    second_word = word_there 2 line _ all

    last_word : (place i : ℕ) → place + i ≡ 6 → last_at place line ≡ unwrap_or (slice_get (tail_words from_word bins_word width_word) i) []
    last_word place i e = last_there line (heads part.metric part.focus ++ words part.units) (tail_words from_word bins_word width_word) place i (all ∙ sym (append_assoc (heads part.metric part.focus) (words part.units) (tail_words from_word bins_word width_word))) e

    from_is : last_at 5 line ≡ from_word
    from_is = last_word 5 1 refl

    bins_is : last_at 3 line ≡ bins_word
    bins_is = last_word 3 3 refl

    width_is : last_at 1 line ≡ width_word
    width_is = last_word 1 5 refl

    front_is : length (front_text part.metric part.focus) ≡ front_length line
    front_is = rw (first_word, second_word) (length-front part.metric part.focus)

    back_is : length (back_text from_word bins_word width_word) ≡ back_length line
    back_is = rw (from_is, bins_is, width_is) (length-back from_word bins_word width_word)

    units_is : units_in_line line ≡ part.units
    units_is = cut (front_text part.metric part.focus) part.units (back_text from_word bins_word width_word) line (front_length line) (back_length line) (same ∙ parted part.metric part.focus part.units from_word bins_word width_word) front_is back_is

    told : histogram_of_line line ≡ record part { bins = [] }
    told = rw (units_is, from_is, width_is, first_word, second_word, moment_read part.from h.from, number_in_read part.width h.width) refl

    counted : bins_of_line line ≡ bins
    counted = rw bins_is (number_in_read bins sized)

pub histogram_is_read : HistogramIsRead
histogram_is_read bins part line sized h is =
    let text = body bins part line sized h in
    let same : line ≡ text = body_is line text (histogram_head bins part) is (regroup part.metric part.focus part.units (from_text part.from) (decimal bins) (decimal part.width)) in
    (told bins part line sized h same, counted bins part line sized h same)
