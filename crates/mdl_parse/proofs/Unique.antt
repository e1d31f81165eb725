-- A text has one meaning.
use Rattle.std.proofs.Common.{◌≡◌, ℕ, true, List, [], ◌∷◌, ◌++◌, map, sym, ap, subst, ◌∙◌, arith}
use Rattle.std.specs.List.{list_all}
use Rattle.std.proofs.lemmas.Bool.{and_parts}
use Rattle.std.proofs.lemmas.List.{append_assoc}
use Rattle.pn_text.specs.Scans.{tokens_of}
use Rattle.pn_text.specs.Words.{is_word, word_of}
use Rattle.pn_text.specs.declared.token.Token.{Token}
use Rattle.pn_text.proofs.ReadWords.{words_of-are_words}
use Rattle.mdl_ast.specs.declared.items.Conf.{Conf}
use Rattle.mdl_ast.specs.declared.items.Item.{Item}
use Rattle.mdl_parse.specs.declared.refusal.Refusal.{Refusal}
use Rattle.mdl_parse.specs.declared.refusal.Refusal.TheVariants.{Unexpected, TooDeep}
use Rattle.mdl_parse.specs.declared.fault.SyntaxKind.{SyntaxKind}
use Rattle.mdl_parse.specs.WordsInText.{PlacedWord, AreWords, placed_words, placed_word}
use Rattle.mdl_parse.specs.Meaning.{most_conditions, AreOf, Begin, IsConf, CantFollow, IsFault, AtWord, AtBytes, AtLast}
use Rattle.mdl_parse.proofs.Rules.{ok_is}
use Rattle.mdl_parse.proofs.Exact.{read_again}

tokens_are_words : (text : List ℕ) (tokens : List Token) → list_all is_word (map (word_of text) tokens) ≡ true → AreWords (map (placed_word text) tokens)
tokens_are_words text [] h = tt
tokens_are_words text (token ∷ tokens) h =
    let parts = and_parts (is_word (word_of text token)) (list_all is_word (map (word_of text) tokens)) h in
    (parts.0, tokens_are_words text tokens parts.1)

pub text_words : (text : List ℕ) → AreWords (placed_words text)
text_words text = tokens_are_words text (tokens_of text).tokens (words_of-are_words text)

pub words_behind : (a b : List PlacedWord) → AreWords (a ++ b) → AreWords b
words_behind [] b h = h
words_behind (x ∷ a) b h = words_behind a b h.1

-- no configuration can have a word that can't follow
pub never_both : (why : Refusal) (words_ahead : List PlacedWord) → CantFollow why words_ahead → Begin most_conditions words_ahead → ⊥
never_both Unexpected words_ahead cant b = cant most_conditions b
never_both TooDeep words_ahead cant b = cant.0 b

pub conf_or_fault : (text : List ℕ) (c : Conf) (line col : ℕ) (kind : SyntaxKind) → IsConf text c → IsFault text line col kind → ⊥
conf_or_fault text c line col kind i (AtWord before placed after why e b cant) =
    let whole : placed_words text ≡ (before ++ (placed ∷ [])) ++ after = e ∙ sym (append_assoc before (placed ∷ []) after) in
    never_both why (before ++ (placed ∷ [])) cant (record {
      whole = c;
      tail = after;
      words = words_behind (before ++ (placed ∷ [])) after (subst AreWords whole (text_words text));
      spelled = subst (λ (t : List PlacedWord). AreOf most_conditions t c) whole i.spelled;
    })
conf_or_fault text c line col kind i (AtBytes fault e b) = (let f = sym i.end ∙ e in absurd cc)
conf_or_fault text c line col kind i (AtLast last e b none) = none c i.spelled

pub one_conf : (text : List ℕ) (c d : Conf) → IsConf text c → IsConf text d → c ≡ d
one_conf text c d i j =
    let e = sym (read_again most_conditions most_conditions (placed_words text) c (omega arith) i.spelled) ∙ read_again most_conditions most_conditions (placed_words text) d (omega arith) j.spelled in
    let same : c.items ≡ d.items = ap (λ (p : List Item × List PlacedWord). p.0) (ok_is (c.items, []) (d.items, []) e) in
    ap (λ (items : List Item). record { items = items }) same
