-- What was written word by word is read again as those words.
use Rattle.std.proofs.Common.{◌≡◌, ℕ, ◌+◌, ◌-◌, ◌&&◌, ◌||◌, nat_lt, Bool, true, false, List, [], ◌∷◌, ◌++◌, map, length, drop, refl, sym, ◌∙◌, ap, subst, arith}
use Rattle.std.specs.List.{list_all}
use Rattle.std.proofs.lemmas.Bool.{and_parts}
use Rattle.std.proofs.lemmas.List.{take_at, drop_at, append_assoc, append-nil, length-append, map-append}
use Rattle.pn_text.specs.Places.{first_place, behind_byte, after_bytes}
use Rattle.pn_text.specs.Bytes.{is_white_space}
use Rattle.pn_text.specs.Blanks.{blank_len}
use Rattle.pn_text.specs.Tokens.{lexeme, lexeme_at}
use Rattle.pn_text.specs.Scans.{Rest, rest_after, after_blanks, token_at, onto, scan, tokens_of}
use Rattle.pn_text.specs.Words.{Word, word_of, Reads, is_word}
use Rattle.pn_text.specs.Writing.{word_text, goes_on, stand_apart, pieces_text, words_in, follow, are_legible}
use Rattle.pn_text.specs.declared.place.Place.{Place}
use Rattle.pn_text.specs.declared.lexeme.Lexeme.{Lexeme}
use Rattle.pn_text.proofs.WordLexemes.{kind_of, stops, word_reads, word_as-word_text}
use Rattle.pn_text.proofs.WordEnds.{blank_len-append, word_no_blank, white_stops, apart_stops}
use Rattle.pn_text.proofs.ScanSteps.{after, scan_at_token, scan_at_end}
use Rattle.pn_text.proofs.Spans.{at-behind_bytes}

and_assoc : (a b c : Bool) → (a && (b && c)) ≡ ((a && b) && c)
and_assoc true b c = refl
and_assoc false b c = refl

pub behind_bytes-append : (place : Place) (xs ys : List ℕ) → after_bytes place (xs ++ ys) ≡ after_bytes (after_bytes place xs) ys
behind_bytes-append place [] ys = refl
behind_bytes-append place (x ∷ xs) ys = behind_bytes-append (behind_byte place x) xs ys

-- what is left after a gap
behind_gap : (place : Place) (gap next : List ℕ) → list_all is_white_space gap ≡ true → blank_len false next ≡ 0 → after_blanks (record { place = place; bytes = gap ++ next }) ≡ record { place = after_bytes place gap; bytes = next }
behind_gap place gap next white none =
    let len : blank_len false (gap ++ next) ≡ length gap = omega (arith, blank_len-append gap next white) in
    rw (len, take_at gap next (length gap) refl, drop_at gap next (length gap) refl) refl

-- what is left after a text and a gap
behind_both : (place : Place) (text gap next : List ℕ) → list_all is_white_space gap ≡ true → blank_len false next ≡ 0 → after_blanks (rest_after (length text) (record { place = place; bytes = text ++ (gap ++ next) })) ≡ record { place = after_bytes (after_bytes place text) gap; bytes = next }
behind_both place text gap next white none =
    rw (take_at text (gap ++ next) (length text) refl, drop_at text (gap ++ next) (length text) refl)
    (behind_gap (after_bytes place text) gap next white none)

-- the word whose text stands at a place of the source
word_there : (source front more : List ℕ) (word : Word) (place : Place) → source ≡ front ++ (word_text word ++ more) → place.at ≡ length front → word_of source (token_at place (lexeme (kind_of word) (length (word_text word)))) ≡ word
word_there source front more word place e at =
    let len : place.at + length (word_text word) - place.at ≡ length (word_text word) = omega arith in
    let there : drop place.at source ≡ word_text word ++ more = rw (e, at) (drop_at front (word_text word ++ more) (length front) refl) in
    rw (len, there, take_at (word_text word) more (length (word_text word)) refl) (word_as-word_text word)

-- a word, a gap, and what is read after them
word_step : (source front gap next : List ℕ) (word : Word) (place last : Place) (words : List Word) → is_word word ≡ true → stops (goes_on word) (gap ++ next) ≡ true → list_all is_white_space gap ≡ true → blank_len false next ≡ 0 → source ≡ front ++ (word_text word ++ (gap ++ next)) → place.at ≡ length front → Reads source (scan (record { place = after_bytes (after_bytes place (word_text word)) gap; bytes = next })) words last → Reads source (scan (record { place = place; bytes = word_text word ++ (gap ++ next) })) (word ∷ words) last
word_step source front gap next word place last words is stop white none e at reads =
    let rest : Rest = record { place = place; bytes = word_text word ++ (gap ++ next) } in
    let found : Lexeme = lexeme (kind_of word) (length (word_text word)) in
    let first : scan rest ≡ onto (token_at place found) (scan (after rest found)) = scan_at_token rest found (word_reads word (gap ++ next) place is stop) in
    let there : after rest found ≡ record { place = after_bytes (after_bytes place (word_text word)) gap; bytes = next } = behind_both place (word_text word) gap next white none in
    let all : scan rest ≡ onto (token_at place found) (scan (record { place = after_bytes (after_bytes place (word_text word)) gap; bytes = next })) = first ∙ ap (λ r. onto (token_at place found) (scan r)) there in
    record {
      words = ap (λ s. map (word_of source) s.tokens) all ∙ rw (word_there source front (gap ++ next) word place e at, reads.words) refl;
      end = ap (λ s. s.ending) all ∙ reads.end;
    }

-- nothing but the end
end_reads : (source : List ℕ) (place : Place) → Reads source (scan (record { place = place; bytes = [] })) [] place
unfolding lexeme_at
end_reads source place =
    let all = scan_at_end (record { place = place; bytes = [] }) refl in
    record { words = ap (λ s. map (word_of source) s.tokens) all; end = ap (λ s. s.ending) all }

-- a gap, or words that stand apart
gap_stops : (left right : Word) (gap more : List ℕ) → list_all is_white_space gap ≡ true → is_word right ≡ true → (nat_lt 0 (length gap) || stand_apart left right) ≡ true → stops (goes_on left) (gap ++ (word_text right ++ more)) ≡ true
gap_stops left right [] more white is h = apart_stops left right more is h
gap_stops left right (byte ∷ bytes) more white is h = white_stops left byte (bytes ++ (word_text right ++ more)) (and_parts (is_white_space byte) (list_all is_white_space bytes) white).0

tail_stops : (left : Word) (tail : List ℕ) → list_all is_white_space tail ≡ true → stops (goes_on left) tail ≡ true
tail_stops left [] white = refl
tail_stops left (byte ∷ bytes) white = white_stops left byte bytes (and_parts (is_white_space byte) (list_all is_white_space bytes) white).0

regroup : (a b c d : List ℕ) → (a ++ (b ++ c)) ++ d ≡ a ++ (b ++ (c ++ d))
regroup a b c d = append_assoc a (b ++ c) d ∙ ap (λ x. a ++ x) (append_assoc b c d)

reads_on : (source front tail : List ℕ) (word : Word) (pieces : List (List ℕ × Word)) (place : Place) → is_word word ≡ true → follow word pieces ≡ true → list_all is_white_space tail ≡ true → source ≡ front ++ (word_text word ++ (pieces_text pieces ++ tail)) → place.at ≡ length front → Reads source (scan (record { place = place; bytes = word_text word ++ (pieces_text pieces ++ tail) })) (word ∷ words_in pieces) (after_bytes place (word_text word ++ (pieces_text pieces ++ tail)))
reads_on source front tail word [] place is h white e at =
    let text = word_text word in
    let behind_word = after_bytes (after_bytes place text) tail in
    let all = tail ++ [] in
    let same : all ≡ tail = append-nil tail in
    let whole : source ≡ front ++ (text ++ all) = rw same e in
    let stop : stops (goes_on word) all ≡ true = rw same (tail_stops word tail white) in
    let reads = word_step source front tail [] word place behind_word [] is stop white refl whole at (end_reads source behind_word) in
    rw (behind_bytes-append place text tail) (subst (λ (t : List ℕ). Reads source (scan (record { place = place; bytes = text ++ t })) (word ∷ []) behind_word) same reads)
reads_on source front tail word (piece ∷ pieces) place is h white e at =
    let text = word_text word in
    let gap = piece.0 in
    let right = piece.1 in
    let next = word_text right ++ (pieces_text pieces ++ tail) in
    let each = and_parts (list_all is_white_space gap && is_word right && (nat_lt 0 (length gap) || stand_apart word right)) (follow right pieces) h in
    let parts = and_parts (list_all is_white_space gap && is_word right) (nat_lt 0 (length gap) || stand_apart word right) each.0 in
    let two = and_parts (list_all is_white_space gap) (is_word right) parts.0 in
    let same : (gap ++ (word_text right ++ pieces_text pieces)) ++ tail ≡ gap ++ next = regroup gap (word_text right) (pieces_text pieces) tail in
    let whole : source ≡ front ++ (text ++ (gap ++ next)) = rw same at e in
    let middle = after_bytes (after_bytes place text) gap in
    let stop = gap_stops word right gap (pieces_text pieces ++ tail) two.0 two.1 parts.1 in
    let further : source ≡ (front ++ (text ++ gap)) ++ next = whole ∙ sym (regroup front text gap next) in
    let there : middle.at ≡ length (front ++ (text ++ gap)) =
    omega (arith, at-behind_bytes (after_bytes place text) gap, at-behind_bytes place text, length-append front (text ++ gap), length-append text gap) in
    let reads = reads_on source (front ++ (text ++ gap)) tail right pieces middle two.1 each.1 white further there in
    let last = after_bytes middle next in
    let all = word_step source front gap next word place last (right ∷ words_in pieces) is stop two.0 (word_no_blank right (pieces_text pieces ++ tail) two.1) whole at reads in
    rw (same, behind_bytes-append place text (gap ++ next), behind_bytes-append (after_bytes place text) gap next) all

-- Words that are written legibly, and then white space, are read as those words, and the text ends after them.
pub legible_reads : (pieces : List (List ℕ × Word)) (tail : List ℕ) → are_legible pieces ≡ true → list_all is_white_space tail ≡ true → Reads (pieces_text pieces ++ tail) (tokens_of (pieces_text pieces ++ tail)) (words_in pieces) (after_bytes first_place (pieces_text pieces ++ tail))
unfolding tokens_of
legible_reads [] tail h white =
    let same : tail ++ [] ≡ tail = append-nil tail in
    let there : after_blanks (record { place = first_place; bytes = tail }) ≡ record { place = after_bytes first_place tail; bytes = [] } = rw same at (behind_gap first_place tail [] white refl) in
    subst (λ (r : Rest). Reads tail (scan r) [] (after_bytes first_place tail)) (sym there) (end_reads tail (after_bytes first_place tail))
legible_reads (piece ∷ pieces) tail h white =
    let gap = piece.0 in
    let word = piece.1 in
    let next = word_text word ++ (pieces_text pieces ++ tail) in
    let each = and_parts (list_all is_white_space gap && is_word word) (follow word pieces) h in
    let two = and_parts (list_all is_white_space gap) (is_word word) each.0 in
    let same : (gap ++ (word_text word ++ pieces_text pieces)) ++ tail ≡ gap ++ next = regroup gap (word_text word) (pieces_text pieces) tail in
    let middle = after_bytes first_place gap in
    let there : after_blanks (record { place = first_place; bytes = gap ++ next }) ≡ record { place = middle; bytes = next } = behind_gap first_place gap next two.0 (word_no_blank word (pieces_text pieces ++ tail) two.1) in
    let at : middle.at ≡ length gap = omega (arith, at-behind_bytes first_place gap) in
    let reads : Reads (gap ++ next) (scan (record { place = middle; bytes = next })) (word ∷ words_in pieces) (after_bytes middle next) = reads_on (gap ++ next) gap tail word pieces middle two.1 each.1 white refl at in
    rw (same, behind_bytes-append first_place gap next)
    (subst (λ (r : Rest). Reads (gap ++ next) (scan r) (word ∷ words_in pieces) (after_bytes middle next)) (sym there) reads)

-- ---- writing one list of words after another

-- the word that stands last
abbrev pub last_word : Word → List (List ℕ × Word) → Word
last_word left [] = left
last_word left (piece ∷ pieces) = last_word piece.1 pieces

pub written-append : (xs ys : List (List ℕ × Word)) → pieces_text (xs ++ ys) ≡ pieces_text xs ++ pieces_text ys
written-append [] ys = refl
written-append (x ∷ xs) ys = rw (written-append xs ys) (sym (regroup x.0 (word_text x.1) (pieces_text xs) (pieces_text ys)))

pub words_in-append : (xs ys : List (List ℕ × Word)) → words_in (xs ++ ys) ≡ words_in xs ++ words_in ys
words_in-append xs ys = map-append (λ piece. piece.1) xs ys

pub follow-append : (left : Word) (xs ys : List (List ℕ × Word)) → follow left (xs ++ ys) ≡ (follow left xs && follow (last_word left xs) ys)
follow-append left [] ys = refl
follow-append left (x ∷ xs) ys =
    let front = list_all is_white_space x.0 && is_word x.1 && (nat_lt 0 (length x.0) || stand_apart left x.1) in
    rw (follow-append x.1 xs ys) (and_assoc front (follow x.1 xs) (follow (last_word x.1 xs) ys))
