-- A token in view and those after it.
use Rattle.std.proofs.Common.{◌≡◌, ℕ, ◌≤◌, Option, Some, None, List, [], ◌∷◌, length, map, sym, ap, subst, ◌∙◌, arith}
use Rattle.pn_text.specs.Scans.{Scan, Ending, AreSpans}
use Rattle.pn_text.specs.declared.token.Token.{Token}
use Rattle.mdl_parse.specs.Lexing.{tokens_ahead, HasEnded}
use Rattle.mdl_parse.specs.Steps.{words_after}
use Rattle.mdl_parse.specs.WordsInText.{PlacedWord, placed_word}
use Rattle.directives.specs.Ahead.{Ahead, ahead_after, in_view, StandIn}

abbrev ahead_of : List PlacedWord → Ending → Ahead
ahead_of words_ahead ending = record { words_ahead = words_ahead; ending = ending }

spans_earlier : (at : ℕ) (tokens : List Token) (len : ℕ) → AreSpans at tokens len → AreSpans 0 tokens len
spans_earlier at [] len h = omega arith
spans_earlier at (token ∷ tokens) len h = (omega arith, h.1, h.2)

spans_within : (at : ℕ) (tokens : List Token) (len : ℕ) → AreSpans at tokens len → at ≤ len
spans_within at [] len h = h
spans_within at (token ∷ tokens) len h = let k = spans_within token.to tokens len h.2 in omega arith

-- the token in view stands in the text
pub view_stands : (text : List ℕ) (token : Option Token) (scan : Scan) (t : Token) → StandIn text token scan → token ≡ Some t → (t.from ≤ t.to) × (t.to ≤ length text)
view_stands text None scan t h e = absurd cc
view_stands text (Some u) scan t h e =
    let same : u ≡ t = cc in
    subst (λ (x : Token). (x.from ≤ x.to) × (x.to ≤ length text)) same (omega arith, spans_within u.to scan.tokens (length text) h.spans.2)

pub advanced_stands : (text : List ℕ) (token next : Option Token) (scan after : Scan) → StandIn text token scan → tokens_ahead next after ≡ scan.tokens → HasEnded next after → StandIn text next after
advanced_stands text None next scan after h e d = record { spans = subst (λ (t : List Token). AreSpans 0 t (length text)) (sym (e ∙ h.ended)) h.spans; ended = d }
advanced_stands text (Some token) next scan after h e d = record { spans = subst (λ (t : List Token). AreSpans 0 t (length text)) (sym e) (spans_earlier token.to scan.tokens (length text) h.spans.2); ended = d }

pub advanced_words : (text : List ℕ) (token next : Option Token) (scan after : Scan) → StandIn text token scan → tokens_ahead next after ≡ scan.tokens → (in_view text next after).words_ahead ≡ words_after (in_view text token scan).words_ahead
advanced_words text None next scan after h e = ap (map (placed_word text)) (e ∙ h.ended)
advanced_words text (Some token) next scan after h e = ap (map (placed_word text)) e

pub new_stands : (text : List ℕ) (token : Option Token) (scan : Scan) (tokens : List Token) → tokens_ahead token scan ≡ tokens → AreSpans 0 tokens (length text) → HasEnded token scan → StandIn text token scan
new_stands text token scan tokens e h d = record { spans = subst (λ (t : List Token). AreSpans 0 t (length text)) (sym e) h; ended = d }

pub advanced_view : (text : List ℕ) (token next : Option Token) (scan after : Scan) → StandIn text token scan → tokens_ahead next after ≡ scan.tokens → after.ending ≡ scan.ending → in_view text next after ≡ ahead_after (in_view text token scan)
advanced_view text token next scan after h e k =
    ap (λ (s : List PlacedWord). ahead_of s after.ending) (advanced_words text token next scan after h e) ∙ ap (ahead_of (words_after (in_view text token scan).words_ahead)) k
