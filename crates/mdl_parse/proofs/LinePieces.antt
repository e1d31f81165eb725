-- The words of lines can be read again.
use Rattle.std.proofs.Common.{◌≡◌, ℕ, zero, suc, ◌&&◌, ◌||◌, nat_lt, Bool, true, false, List, [], ◌∷◌, ◌++◌, length, refl, sym, ap, ap₂, ◌∙◌, arith, codes, if◌then◌else◌}
use Rattle.std.specs.List.{flat_map, list_all}
use Rattle.std.proofs.lemmas.Bool.{and_parts, lt-ltb}
use Rattle.std.proofs.lemmas.List.{append_assoc, append-nil}
use Rattle.std.proofs.lemmas.List.Folds.{list_all-append}
use Rattle.pn_text.specs.Bytes.{is_white_space}
use Rattle.pn_text.specs.Words.{Word, is_word}
use Rattle.pn_text.specs.Writing.{word_text, stand_apart, pieces_text, words_in, follow, are_legible}
use Rattle.pn_text.proofs.Legible.{written-append, words_in-append}
use Rattle.mdl_parse.specs.Printing.{is_tight, gap, text_after, indent, LevelLine, line_text}

abbrev Piece : Type 0
Piece = List ℕ × Word

-- ---- the pieces of lines

abbrev pub word_pieces : Word → List Word → List Piece
word_pieces left [] = []
word_pieces left (w ∷ words) = (gap left w, w) ∷ word_pieces w words

-- words after a gap
abbrev pub line_pieces : List ℕ → List Word → List Piece
line_pieces space [] = []
line_pieces space (w ∷ words) = (space, w) ∷ word_pieces w words

-- what stands between a line and the next
abbrev pub next_gap : List ℕ → ℕ → List Word → List ℕ
next_gap space level [] = space ++ (indent level ++ codes "\n")
next_gap space level (w ∷ words) = codes "\n"

abbrev pub pieces : List ℕ → List LevelLine → List Piece
pieces space [] = []
pieces space (line ∷ lines) = line_pieces (space ++ indent line.0) line.1 ++ pieces (next_gap space line.0 line.1) lines

abbrev pub last_gap : List ℕ → List LevelLine → List ℕ
last_gap space [] = space
last_gap space (line ∷ lines) = last_gap (next_gap space line.0 line.1) lines

-- ---- their text

behind_written : (left : Word) (words : List Word) → text_after left words ≡ pieces_text (word_pieces left words)
behind_written left [] = refl
behind_written left (w ∷ words) = ap (λ (t : List ℕ). gap left w ++ (word_text w ++ t)) (behind_written w words)

line_written : (space : List ℕ) (level : ℕ) (words : List Word) (more : List ℕ) → space ++ (line_text (level, words) ++ more) ≡ pieces_text (line_pieces (space ++ indent level) words) ++ (next_gap space level words ++ more)
unfolding line_text
line_written space level [] more = sym (append_assoc space (indent level ++ codes "\n") more)
line_written space level (w ∷ words) more =
    let text = word_text w ++ text_after w words in
    let same : text ≡ word_text w ++ pieces_text (word_pieces w words) = ap (λ (t : List ℕ). word_text w ++ t) (behind_written w words) in
    ap (λ (t : List ℕ). space ++ t) (append_assoc (indent level) (text ++ codes "\n") more ∙ ap (λ (t : List ℕ). indent level ++ t) (append_assoc text (codes "\n") more))
    ∙ sym (append_assoc space (indent level) (text ++ (codes "\n" ++ more)))
    ∙ sym (append_assoc (space ++ indent level) text (codes "\n" ++ more))
    ∙ ap (λ (t : List ℕ). ((space ++ indent level) ++ t) ++ (codes "\n" ++ more)) same

pub lines_written : (space : List ℕ) (lines : List LevelLine) → space ++ flat_map line_text lines ≡ pieces_text (pieces space lines) ++ last_gap space lines
lines_written space [] = append-nil space
lines_written space (line ∷ lines) =
    let next = next_gap space line.0 line.1 in
    let first = line_pieces (space ++ indent line.0) line.1 in
    line_written space line.0 line.1 (flat_map line_text lines)
    ∙ ap (λ (t : List ℕ). pieces_text first ++ t) (lines_written next lines)
    ∙ sym (append_assoc (pieces_text first) (pieces_text (pieces next lines)) (last_gap next lines))
    ∙ ap (λ (t : List ℕ). t ++ last_gap next lines) (sym (written-append first (pieces next lines)))

-- ---- their words

words_in_words : (left : Word) (words : List Word) → words_in (word_pieces left words) ≡ words
words_in_words left [] = refl
words_in_words left (w ∷ words) = ap (λ (t : List Word). w ∷ t) (words_in_words w words)

words_in_line : (space : List ℕ) (words : List Word) → words_in (line_pieces space words) ≡ words
words_in_line space [] = refl
words_in_line space (w ∷ words) = ap (λ (t : List Word). w ∷ t) (words_in_words w words)

abbrev pub line_words : List LevelLine → List Word
line_words lines = flat_map (λ line. line.1) lines

pub words_in_lines : (space : List ℕ) (lines : List LevelLine) → words_in (pieces space lines) ≡ line_words lines
words_in_lines space [] = refl
words_in_lines space (line ∷ lines) =
    words_in-append (line_pieces (space ++ indent line.0) line.1) (pieces (next_gap space line.0 line.1) lines)
    ∙ ap₂ (λ (x y : List Word). x ++ y) (words_in_line (space ++ indent line.0) line.1) (words_in_lines (next_gap space line.0 line.1) lines)

-- ---- they are legible

abbrev is_white : List ℕ → Bool
is_white bytes = list_all is_white_space bytes

both_true : (a b : Bool) → a ≡ true → b ≡ true → (a && b) ≡ true
both_true a b e f = rw (e, f) refl

white-append : (a b : List ℕ) → is_white a ≡ true → is_white b ≡ true → is_white (a ++ b) ≡ true
white-append a b e f = list_all-append is_white_space a b ∙ both_true (is_white a) (is_white b) e f

indent_white : (level : ℕ) → is_white (indent level) ≡ true
indent_white zero = refl
indent_white (suc level) = indent_white level

next_white : (space : List ℕ) (level : ℕ) (words : List Word) → is_white space ≡ true → is_white (next_gap space level words) ≡ true
next_white space level [] e = white-append space (indent level ++ codes "\n") e (white-append (indent level) (codes "\n") (indent_white level) refl)
next_white space level (w ∷ words) e = refl

some : (x : ℕ) (a : List ℕ) → nat_lt 0 (length (x ∷ a)) ≡ true
some x a = lt-ltb 0 (length (x ∷ a)) (omega arith)

-- some bytes, and a line's end
ended : (a : List ℕ) → nat_lt 0 (length (a ++ codes "\n")) ≡ true
ended [] = refl
ended (x ∷ a) = some x (a ++ codes "\n")

next_some : (space : List ℕ) (level : ℕ) (words : List Word) → nat_lt 0 (length (next_gap space level words)) ≡ true
next_some space level [] = ap (λ (t : List ℕ). nat_lt 0 (length t)) (sym (append_assoc space (indent level) (codes "\n"))) ∙ ended (space ++ indent level)
next_some space level (w ∷ words) = refl

some-append : (a b : List ℕ) → nat_lt 0 (length a) ≡ true → nat_lt 0 (length (a ++ b)) ≡ true
some-append [] b e = absurd cc
some-append (x ∷ a) b e = some x (a ++ b)

-- a gap between two words is white, and they stand apart where there is none
gap_fits : (left right : Word) → (is_white (gap left right) ≡ true) × ((nat_lt 0 (length (gap left right)) || stand_apart left right) ≡ true)
unfolding gap
gap_fits left right = by (is_tight left right) (stand_apart left right)
  where
    by : (t b : Bool) → (is_white (if t && b then [] else codes " ") ≡ true) × ((nat_lt 0 (length (if t && b then [] else codes " ")) || b) ≡ true)
    by true true = (refl, refl)
    by true false = (refl, refl)
    by false true = (refl, refl)
    by false false = (refl, refl)

abbrev Follows : List Piece → Type 0
Follows rest = (left : Word) → follow left rest ≡ true

words_follow : (w : Word) (words : List Word) (rest : List Piece) → list_all is_word words ≡ true → Follows rest → follow w (word_pieces w words ++ rest) ≡ true
words_follow w [] rest e f = f w
words_follow w (v ∷ words) rest e f =
    let parts = and_parts (is_word v) (list_all is_word words) e in
    let fits = gap_fits w v in
    let first = both_true (is_white (gap w v) && is_word v) (nat_lt 0 (length (gap w v)) || stand_apart w v) (both_true (is_white (gap w v)) (is_word v) fits.0 parts.0) fits.1 in
    both_true (is_white (gap w v) && is_word v && (nat_lt 0 (length (gap w v)) || stand_apart w v)) (follow v (word_pieces v words ++ rest)) first (words_follow v words rest parts.1 f)

or_left : (a b : Bool) → a ≡ true → (a || b) ≡ true
or_left a b e = rw e refl

line_follows : (space : List ℕ) (words : List Word) (rest : List Piece) → is_white space ≡ true → nat_lt 0 (length space) ≡ true → list_all is_word words ≡ true → Follows rest → Follows (line_pieces space words ++ rest)
line_follows space [] rest white some e f left = f left
line_follows space (w ∷ words) rest white some e f left =
    let parts = and_parts (is_word w) (list_all is_word words) e in
    let first = both_true (is_white space && is_word w) (nat_lt 0 (length space) || stand_apart left w) (both_true (is_white space) (is_word w) white parts.0) (or_left (nat_lt 0 (length space)) (stand_apart left w) some) in
    both_true (is_white space && is_word w && (nat_lt 0 (length space) || stand_apart left w)) (follow w (word_pieces w words ++ rest)) first (words_follow w words rest parts.1 f)

lines_follow : (space : List ℕ) (lines : List LevelLine) → is_white space ≡ true → nat_lt 0 (length space) ≡ true → list_all is_word (line_words lines) ≡ true → Follows (pieces space lines)
lines_follow space [] white some e left = refl
lines_follow space (line ∷ lines) white some e left =
    let parts = and_parts (list_all is_word line.1) (list_all is_word (line_words lines)) (sym (list_all-append is_word line.1 (line_words lines)) ∙ e) in
    line_follows (space ++ indent line.0) line.1 (pieces (next_gap space line.0 line.1) lines)
    (white-append space (indent line.0) white (indent_white line.0)) (some-append space (indent line.0) some) parts.0
    (lines_follow (next_gap space line.0 line.1) lines (next_white space line.0 line.1 white) (next_some space line.0 line.1) parts.1) left

-- pieces that may stand after any word may stand first
legible_first : (rest : List Piece) → Follows rest → are_legible rest ≡ true
legible_first [] f = refl
legible_first (p ∷ rest) f = go (is_white p.0) (is_word p.1) (nat_lt 0 (length p.0) || stand_apart p.1 p.1) (follow p.1 rest) (f p.1)
  where
    go : (a b c d : Bool) → (a && b && c && d) ≡ true → (a && b && d) ≡ true
    go true true true d e = e
    go true true false d e = absurd cc
    go true false c d e = absurd cc
    go false b c d e = absurd cc

line_legible : (space : List ℕ) (words : List Word) (rest : List Piece) → is_white space ≡ true → list_all is_word words ≡ true → Follows rest → are_legible (line_pieces space words ++ rest) ≡ true
line_legible space [] rest white e f = legible_first rest f
line_legible space (w ∷ words) rest white e f =
    let parts = and_parts (is_word w) (list_all is_word words) e in
    both_true (is_white space && is_word w) (follow w (word_pieces w words ++ rest)) (both_true (is_white space) (is_word w) white parts.0) (words_follow w words rest parts.1 f)

pub lines_legible : (lines : List LevelLine) → list_all is_word (line_words lines) ≡ true → are_legible (pieces [] lines) ≡ true
lines_legible [] e = refl
lines_legible (line ∷ lines) e =
    let parts = and_parts (list_all is_word line.1) (list_all is_word (line_words lines)) (sym (list_all-append is_word line.1 (line_words lines)) ∙ e) in
    line_legible (indent line.0) line.1 (pieces (next_gap [] line.0 line.1) lines) (indent_white line.0) parts.0
    (lines_follow (next_gap [] line.0 line.1) lines (next_white [] line.0 line.1 refl) (next_some [] line.0 line.1) parts.1)

pub last_white : (space : List ℕ) (lines : List LevelLine) → is_white space ≡ true → is_white (last_gap space lines) ≡ true
last_white space [] e = e
last_white space (line ∷ lines) e = last_white (next_gap space line.0 line.1) lines (next_white space line.0 line.1 e)
