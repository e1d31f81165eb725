-- The words of a legible text, and where they stand.
use Rattle.std.proofs.Common.{◌≡◌, ℕ, ◌+◌, ◌-◌, ◌&&◌, ◌||◌, nat_lt, true, false, List, [], ◌∷◌, ◌++◌, map, length, drop, refl, sym, ◌∙◌, ap, subst, arith}
use Rattle.std.specs.List.{list_all}
use Rattle.std.proofs.lemmas.Bool.{and_parts}
use Rattle.std.proofs.lemmas.List.{take_at, drop_at, append_assoc, append-nil, length-append}
use Rattle.pn_text.specs.Places.{first_place, after_bytes}
use Rattle.pn_text.specs.Bytes.{is_white_space}
use Rattle.pn_text.specs.Blanks.{blank_len}
use Rattle.pn_text.specs.Tokens.{lexeme, lexeme_at}
use Rattle.pn_text.specs.Scans.{Rest, rest_after, after_blanks, token_at, onto, scan, tokens_of}
use Rattle.pn_text.specs.Words.{Word, word_of, is_word}
use Rattle.pn_text.specs.Writing.{word_text, goes_on, stand_apart, pieces_text, follow, are_legible}
use Rattle.pn_text.specs.declared.place.Place.{Place}
use Rattle.pn_text.proofs.WordLexemes.{kind_of, stops, word_reads, word_as-word_text}
use Rattle.pn_text.proofs.WordEnds.{blank_len-append, word_no_blank, white_stops, apart_stops}
use Rattle.pn_text.proofs.ScanSteps.{scan_at_token, scan_at_end}
use Rattle.pn_text.proofs.Spans.{at-behind_bytes}
use Rattle.mdl_parse.specs.WordsInText.{PlacedWord, placed_word, placed_words}

abbrev pub Piece : Type 0
Piece = List ℕ × Word

abbrev placed_at : Place → Word → PlacedWord
placed_at place word = record { word = word; line = place.line; col = place.col }

-- words after their gaps, from a place on
abbrev pub placed : Place → List Piece → List PlacedWord
placed place [] = []
placed place (piece ∷ pieces) = placed_at (after_bytes place piece.0) piece.1 ∷ placed (after_bytes (after_bytes place piece.0) (word_text piece.1)) pieces

behind_gap : (place : Place) (gap next : List ℕ) → list_all is_white_space gap ≡ true → blank_len false next ≡ 0 → after_blanks (record { place = place; bytes = gap ++ next }) ≡ record { place = after_bytes place gap; bytes = next }
behind_gap place gap next white none =
    let len : blank_len false (gap ++ next) ≡ length gap = omega (arith, blank_len-append gap next white) in
    rw (len, take_at gap next (length gap) refl, drop_at gap next (length gap) refl) refl

behind_both : (place : Place) (text gap next : List ℕ) → list_all is_white_space gap ≡ true → blank_len false next ≡ 0 → after_blanks (rest_after (length text) (record { place = place; bytes = text ++ (gap ++ next) })) ≡ record { place = after_bytes (after_bytes place text) gap; bytes = next }
behind_both place text gap next white none =
    rw (take_at text (gap ++ next) (length text) refl, drop_at text (gap ++ next) (length text) refl)
    (behind_gap (after_bytes place text) gap next white none)

-- the words that a scan of a source finds
abbrev found_in : List ℕ → Rest → List PlacedWord
found_in source rest = map (placed_word source) (scan rest).tokens

module _ (source : List ℕ) where
  -- a word, a gap, and what is found after them
  word_step : (front gap next : List ℕ) (word : Word) (place : Place) (more : List PlacedWord) → is_word word ≡ true → stops (goes_on word) (gap ++ next) ≡ true → list_all is_white_space gap ≡ true → blank_len false next ≡ 0 → source ≡ front ++ (word_text word ++ (gap ++ next)) → place.at ≡ length front → found_in source (record { place = after_bytes (after_bytes place (word_text word)) gap; bytes = next }) ≡ more → found_in source (record { place = place; bytes = word_text word ++ (gap ++ next) }) ≡ placed_at place word ∷ more
  word_step front gap next word place more is stop white none e at reads =
      let text = word_text word in
      let rest : Rest = record { place = place; bytes = text ++ (gap ++ next) } in
      let lexed = lexeme (kind_of word) (length text) in
      let all : scan rest ≡ onto (token_at place lexed) (scan (record { place = after_bytes (after_bytes place text) gap; bytes = next })) =
      scan_at_token rest lexed (word_reads word (gap ++ next) place is stop) ∙ ap (λ r. onto (token_at place lexed) (scan r)) (behind_both place text gap next white none) in
      let len : place.at + length text - place.at ≡ length text = omega arith in
      let there : drop place.at source ≡ text ++ (gap ++ next) = rw (e, at) (drop_at front (text ++ (gap ++ next)) (length front) refl) in
      let own : word_of source (token_at place lexed) ≡ word = rw (len, there, take_at text (gap ++ next) (length text) refl) (word_as-word_text word) in
      ap (λ s. map (placed_word source) s.tokens) all ∙ rw (own, reads) refl

  end_found : (place : Place) → found_in source (record { place = place; bytes = [] }) ≡ []
  unfolding lexeme_at
  end_found place = ap (λ s. map (placed_word source) s.tokens) (scan_at_end (record { place = place; bytes = [] }) refl)

gap_stops : (left right : Word) (gap more : List ℕ) → list_all is_white_space gap ≡ true → is_word right ≡ true → (nat_lt 0 (length gap) || stand_apart left right) ≡ true → stops (goes_on left) (gap ++ (word_text right ++ more)) ≡ true
gap_stops left right [] more white is h = apart_stops left right more is h
gap_stops left right (byte ∷ bytes) more white is h = white_stops left byte (bytes ++ (word_text right ++ more)) (and_parts (is_white_space byte) (list_all is_white_space bytes) white).0

tail_stops : (left : Word) (tail : List ℕ) → list_all is_white_space tail ≡ true → stops (goes_on left) (tail ++ []) ≡ true
tail_stops left [] white = refl
tail_stops left (byte ∷ bytes) white = white_stops left byte (bytes ++ []) (and_parts (is_white_space byte) (list_all is_white_space bytes) white).0

regroup : (a b c d : List ℕ) → (a ++ (b ++ c)) ++ d ≡ a ++ (b ++ (c ++ d))
regroup a b c d = append_assoc a (b ++ c) d ∙ ap (λ x. a ++ x) (append_assoc b c d)

found_on : (source front tail : List ℕ) (word : Word) (pieces : List Piece) (place : Place) → is_word word ≡ true → follow word pieces ≡ true → list_all is_white_space tail ≡ true → source ≡ front ++ (word_text word ++ (pieces_text pieces ++ tail)) → place.at ≡ length front → found_in source (record { place = place; bytes = word_text word ++ (pieces_text pieces ++ tail) }) ≡ placed_at place word ∷ placed (after_bytes place (word_text word)) pieces
found_on source front tail word [] place is h white e at =
    let text = word_text word in
    let same : tail ++ [] ≡ tail = append-nil tail in
    let whole : source ≡ front ++ (text ++ (tail ++ [])) = rw same e in
    let found = word_step source front tail [] word place [] is (tail_stops word tail white) white refl whole at (end_found source (after_bytes (after_bytes place text) tail)) in
    subst (λ (t : List ℕ). found_in source (record { place = place; bytes = text ++ t }) ≡ placed_at place word ∷ []) same found
found_on source front tail word (piece ∷ pieces) place is h white e at =
    let text = word_text word in
    let gap = piece.0 in
    let right = piece.1 in
    let next = word_text right ++ (pieces_text pieces ++ tail) in
    let each = and_parts (list_all is_white_space gap && is_word right && (nat_lt 0 (length gap) || stand_apart word right)) (follow right pieces) h in
    let parts = and_parts (list_all is_white_space gap && is_word right) (nat_lt 0 (length gap) || stand_apart word right) each.0 in
    let two = and_parts (list_all is_white_space gap) (is_word right) parts.0 in
    let same : (gap ++ (word_text right ++ pieces_text pieces)) ++ tail ≡ gap ++ next = regroup gap (word_text right) (pieces_text pieces) tail in
    let whole : source ≡ front ++ (text ++ (gap ++ next)) = rw same at e in
    let middle = after_bytes (after_bytes place text) gap in
    let further : source ≡ (front ++ (text ++ gap)) ++ next = whole ∙ sym (regroup front text gap next) in
    let there : middle.at ≡ length (front ++ (text ++ gap)) =
    omega (arith, at-behind_bytes (after_bytes place text) gap, at-behind_bytes place text, length-append front (text ++ gap), length-append text gap) in
    rw same
    (word_step source front gap next word place (placed_at middle right ∷ placed (after_bytes middle (word_text right)) pieces) is (gap_stops word right gap (pieces_text pieces ++ tail) two.0 two.1 parts.1) two.0 (word_no_blank right (pieces_text pieces ++ tail) two.1) whole at
    (found_on source (front ++ (text ++ gap)) tail right pieces middle two.1 each.1 white further there))

-- legible words stand where they were written
pub placed_there : (pieces : List Piece) (tail : List ℕ) → are_legible pieces ≡ true → list_all is_white_space tail ≡ true → placed_words (pieces_text pieces ++ tail) ≡ placed first_place pieces
unfolding tokens_of
placed_there [] tail h white =
    let same : tail ++ [] ≡ tail = append-nil tail in
    let there : after_blanks (record { place = first_place; bytes = tail }) ≡ record { place = after_bytes first_place tail; bytes = [] } = rw same at (behind_gap first_place tail [] white refl) in
    ap (found_in tail) there ∙ end_found tail (after_bytes first_place tail)
placed_there (piece ∷ pieces) tail h white =
    let gap = piece.0 in
    let word = piece.1 in
    let next = word_text word ++ (pieces_text pieces ++ tail) in
    let each = and_parts (list_all is_white_space gap && is_word word) (follow word pieces) h in
    let two = and_parts (list_all is_white_space gap) (is_word word) each.0 in
    let same : (gap ++ (word_text word ++ pieces_text pieces)) ++ tail ≡ gap ++ next = regroup gap (word_text word) (pieces_text pieces) tail in
    let middle = after_bytes first_place gap in
    let there : after_blanks (record { place = first_place; bytes = gap ++ next }) ≡ record { place = middle; bytes = next } = behind_gap first_place gap next two.0 (word_no_blank word (pieces_text pieces ++ tail) two.1) in
    let at : middle.at ≡ length gap = omega (arith, at-behind_bytes first_place gap) in
    rw same (ap (found_in (gap ++ next)) there ∙ found_on (gap ++ next) gap tail word pieces middle two.1 each.1 white refl at)
