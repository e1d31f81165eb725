-- The tokens of a text ascend, none is empty, and all stand in the text.
use Rattle.std.proofs.Common.{◌≡◌, ℕ, zero, suc, ◌+◌, ◌≤◌, ◌==◌, not, cond, Bool, true, false, codes, Option, Some, None, Result, Ok, Err, List, [], ◌∷◌, length, take, refl, ◌∙◌, ap, arith}
use Rattle.std.proofs.lemmas.List.{length-drop, length-take-le}
use Rattle.std.proofs.lemmas.Bool.{cond_both}
use Rattle.pn_text.specs.Bytes.{is_white_space, begins_with}
use Rattle.pn_text.specs.Places.{first_place, behind_byte, after_bytes}
use Rattle.pn_text.specs.Blanks.{blank_len}
use Rattle.pn_text.specs.Tokens.{lexeme_at}
use Rattle.pn_text.specs.Scans.{Rest, Scan, rest_after, after_blanks, scan_on, scan_in, scan, tokens_of, AreSpans}
use Rattle.pn_text.specs.declared.place.Place.{Place}
use Rattle.pn_text.specs.declared.token.Token.{Token}
use Rattle.pn_text.specs.declared.token.LexFault.{LexFault}
use Rattle.pn_text.specs.declared.lexeme.Lexeme.{Lexeme}
use Rattle.pn_text.proofs.LexemeLens.{Stands, lexeme_stands}
use Rattle.pn_text.proofs.ScanSteps.{after}

-- a place after bytes is that many further
pub at-behind_bytes : (place : Place) (bytes : List ℕ) → (after_bytes place bytes).at ≡ place.at + length bytes
at-behind_bytes place [] = omega arith
at-behind_bytes place (byte ∷ bytes) = at-behind_bytes (behind_byte place byte) bytes ∙ omega arith

-- no more blanks stand first than bytes
pub blank_len-le-length : (in_comment : Bool) (bytes : List ℕ) → blank_len in_comment bytes ≤ length bytes
blank_len-le-length in_comment [] = omega arith
blank_len-le-length true (byte ∷ bytes) = omega (arith, blank_len-le-length (not (byte == 10)) bytes)
blank_len-le-length false (byte ∷ bytes) =
    cond_both (begins_with (codes "//") (byte ∷ bytes)) (blank_len true bytes + 1) (cond (is_white_space byte) (blank_len false bytes + 1) 0) (λ n. n ≤ length (byte ∷ bytes))
    (λ _. omega (arith, blank_len-le-length true bytes))
    (λ _. cond_both (is_white_space byte) (blank_len false bytes + 1) 0 (λ n. n ≤ length (byte ∷ bytes)) (λ _. omega (arith, blank_len-le-length false bytes)) (λ _. omega arith))

-- the text is as long as what lies before and what is left
abbrev AddsUp : Rest → ℕ → Type 0
AddsUp rest len = rest.place.at + length rest.bytes ≡ len

pub behind_adds : (n : ℕ) (rest : Rest) (len : ℕ) → n ≤ length rest.bytes → AddsUp rest len → AddsUp (rest_after n rest) len
behind_adds n rest len h e =
    let at : (after_bytes rest.place (take n rest.bytes)).at ≡ rest.place.at + n = at-behind_bytes rest.place (take n rest.bytes) ∙ ap (λ k. rest.place.at + k) (length-take-le n rest.bytes h) in
    omega (arith, at, length-drop n rest.bytes)

pub behind_blanks_adds : (rest : Rest) (len : ℕ) → AddsUp rest len → AddsUp (after_blanks rest) len
behind_blanks_adds rest len e = behind_adds (blank_len false rest.bytes) rest len (blank_len-le-length false rest.bytes) e

-- spans from a place on are spans from one before it on
earlier : (a b : ℕ) (tokens : List Token) (len : ℕ) → a ≤ b → AreSpans b tokens len → AreSpans a tokens len
earlier a b [] len h s = omega arith
earlier a b (token ∷ tokens) len h s = (omega (arith, s.0), s.1, s.2)

spans_on : (more : Rest → Scan) (rest : Rest) (first : Result (Option Lexeme) LexFault) (len : ℕ) → AddsUp rest len → ((found : Lexeme) → first ≡ Ok (Some found) → Stands found rest.bytes) → ((next : Rest) → AddsUp next len → AreSpans next.place.at (more next).tokens len) → AreSpans rest.place.at (scan_on more rest first).tokens len
spans_on more rest (Err fault) len e stands go = omega arith
spans_on more rest (Ok None) len e stands go = omega arith
spans_on more rest (Ok (Some found)) len e stands go =
    let here = stands found refl in
    let middle = rest_after found.len rest in
    let at : middle.place.at ≡ rest.place.at + found.len = at-behind_bytes rest.place (take found.len rest.bytes) ∙ ap (λ k. rest.place.at + k) (length-take-le found.len rest.bytes here.inside) in
    let further : middle.place.at ≤ (after rest found).place.at = omega (arith, at-behind_bytes middle.place (take (blank_len false middle.bytes) middle.bytes)) in (
      omega arith,
      omega (arith, here.some),
      earlier (rest.place.at + found.len) (after rest found).place.at (more (after rest found)).tokens len (omega arith)
          (go (after rest found) (behind_blanks_adds middle len (behind_adds found.len rest len here.inside e))),
    )

spans_in : (n : ℕ) (rest : Rest) (len : ℕ) → AddsUp rest len → AreSpans rest.place.at (scan_in n rest).tokens len
spans_in zero rest len e = omega arith
spans_in (suc n) rest len e =
    spans_on (scan_in n) rest (lexeme_at rest.place rest.bytes) len e
    (λ found f. lexeme_stands rest.place rest.bytes found f)
    (λ next f. spans_in n next len f)

pub spans-scan : (rest : Rest) (len : ℕ) → AddsUp rest len → AreSpans rest.place.at (scan rest).tokens len
unfolding scan
spans-scan rest len e = spans_in (length rest.bytes) rest len e

pub spans-tokens_of : (text : List ℕ) → AreSpans 0 (tokens_of text).tokens (length text)
unfolding tokens_of
spans-tokens_of text =
    let start : Rest = record { place = first_place; bytes = text } in
    earlier 0 (after_blanks start).place.at (scan (after_blanks start)).tokens (length text) (omega arith)
    (spans-scan (after_blanks start) (length text) (behind_blanks_adds start (length text) (omega arith)))

-- a text has no more tokens than bytes
spans_count : (at : ℕ) (tokens : List Token) (len : ℕ) → AreSpans at tokens len → at + length tokens ≤ len
spans_count at [] len s = omega (arith, s)
spans_count at (token ∷ tokens) len s = omega (arith, s.0, s.1, spans_count token.to tokens len s.2)

pub length-tokens_of : (text : List ℕ) → length (tokens_of text).tokens ≤ length text
length-tokens_of text = omega (arith, spans_count 0 (tokens_of text).tokens (length text) (spans-tokens_of text))
