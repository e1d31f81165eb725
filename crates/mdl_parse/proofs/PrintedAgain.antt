-- What is printed of a configuration spells it again, but for lines.
use Rattle.std.proofs.Common.{◌≡◌, ℕ, true, List, [], ◌∷◌, ◌++◌, map, refl, sym, ap, subst, ◌∙◌}
use Rattle.std.specs.List.{flat_map, list_all}
use Rattle.pn_text.specs.Words.{Word, is_word, word_of, words_of, Reads}
use Rattle.pn_text.specs.Writing.{pieces_text}
use Rattle.pn_text.specs.Scans.{tokens_of}
use Rattle.pn_text.specs.Places.{first_place, after_bytes}
use Rattle.pn_text.specs.declared.place.Place.{Place}
use Rattle.pn_text.specs.declared.token.Token.{Token}
use Rattle.pn_text.proofs.Legible.{legible_reads}
use Rattle.pn_text.proofs.ReadWords.{words_of-are_words}
use Rattle.mdl_ast.specs.declared.items.Conf.{Conf}
use Rattle.mdl_ast.specs.declared.items.Item.{Item}
use Rattle.mdl_parse.specs.WordsInText.{PlacedWord, TreeWord, Starts, Goes, Spells, placed_word, placed_words}
use Rattle.mdl_parse.specs.ItemGrammar.{conf_tree_words}
use Rattle.mdl_parse.specs.Meaning.{most_conditions, IsConf}
use Rattle.mdl_parse.specs.Printing.{item_lines, line_text, conf_text}
use Rattle.mdl_parse.specs.ButLines.{IsSpelled, SpellsAgain}
use Rattle.mdl_parse.proofs.Relining.{words_at, plain_words}
use Rattle.mdl_parse.proofs.RelinedItems.{items_relined}
use Rattle.mdl_parse.proofs.LinePieces.{pieces, last_gap, line_words, lines_written, words_in_lines, lines_legible, last_white}
use Rattle.mdl_parse.proofs.LineWords.{items_same}
use Rattle.mdl_parse.proofs.SameLines.{conf_text-but_lines}

-- ---- the words of a spelled configuration are words

spelled_words : (tree_words : List TreeWord) (words_ahead : List PlacedWord) → Spells tree_words words_ahead → plain_words tree_words ≡ words_at words_ahead
spelled_words [] [] h = refl
spelled_words [] (s ∷ words_ahead) h = absurd h
spelled_words (m ∷ tree_words) [] h = absurd h
spelled_words (Starts line w ∷ tree_words) (s ∷ words_ahead) h = rw (h.0.0, spelled_words tree_words words_ahead h.1) refl
spelled_words (Goes w ∷ tree_words) (s ∷ words_ahead) h = rw (h.0, spelled_words tree_words words_ahead h.1) refl

tokens_words : (text : List ℕ) (tokens : List Token) → words_at (map (placed_word text) tokens) ≡ map (word_of text) tokens
tokens_words text [] = refl
tokens_words text (t ∷ tokens) = ap (λ (ws : List Word). word_of text t ∷ ws) (tokens_words text tokens)

text_words : (text : List ℕ) → words_at (placed_words text) ≡ words_of text
text_words text = tokens_words text (tokens_of text).tokens

conf_are_words : (text : List ℕ) (c : Conf) → IsConf text c → list_all is_word (plain_words (conf_tree_words c)) ≡ true
conf_are_words text c h =
    ap (list_all is_word) (spelled_words (conf_tree_words c) (placed_words text) h.spelled.words ∙ text_words text)
    ∙ words_of-are_words text

-- ---- the canonical text

conf_reads : (c : Conf) → list_all is_word (plain_words (conf_tree_words c)) ≡ true → (last : Place) × Reads (conf_text c) (tokens_of (conf_text c)) (plain_words (conf_tree_words c)) last
unfolding conf_text
conf_reads c are =
    let lines = flat_map item_lines c.items in
    let same : line_words lines ≡ plain_words (conf_tree_words c) = items_same c.items in
    let words = ap (list_all is_word) same ∙ are in
    let text = pieces_text (pieces [] lines) ++ last_gap [] lines in
    let whole : flat_map line_text lines ≡ text = lines_written [] lines in
    let reads = legible_reads (pieces [] lines) (last_gap [] lines) (lines_legible lines words) (last_white [] lines refl) in
    let last = after_bytes first_place text in
    let all : Reads text (tokens_of text) (plain_words (conf_tree_words c)) last = subst (λ (ws : List Word). Reads text (tokens_of text) ws last) (words_in_lines [] lines ∙ same) reads in
    (last, subst (λ (t : List ℕ). Reads t (tokens_of t) (plain_words (conf_tree_words c)) last) (sym whole) all)

spelled_again : (text : List ℕ) (c : Conf) → IsConf text c → SpellsAgain (conf_text c) c
spelled_again text c h =
    let reads = conf_reads c (conf_are_words text c h) in
    let printed = conf_text c in
    let words : words_at (placed_words printed) ≡ plain_words (conf_tree_words c) = text_words printed ∙ reads.1.words in
    let x = items_relined c.items (placed_words printed) words in
    record {
      again = record { items = x.again };
      spells = record { last = reads.0; end = reads.1.end; spelled = record { words = x.spelled; shaped = x.shaped most_conditions h.spelled.shaped } };
      same = ap (λ (items : List Item). record { items = items }) x.same;
    }

pub printed_again : (c : Conf) → IsSpelled c → SpellsAgain (conf_text c) c
printed_again c s =
    let again = spelled_again s.text s.conf s.spells in
    let same : conf_text s.conf ≡ conf_text c = sym (conf_text-but_lines s.conf) ∙ ap conf_text s.same ∙ conf_text-but_lines c in
    record {
      again = again.again;
      spells = subst (λ (text : List ℕ). IsConf text again.again) same again.spells;
      same = again.same ∙ s.same;
    }
