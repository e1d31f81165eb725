-- Scanning, token by token.
use Rattle.std.proofs.Common.{◌≡◌, ℕ, zero, suc, ◌+◌, ◌<◌, ◌≤◌, ◌==◌, cond, inl, inr, false, Option, Some, None, Result, Ok, Err, List, [], ◌∷◌, length, take, drop, refl, sym, ◌∙◌, ap, arith}
use Rattle.std.proofs.lemmas.List.{length-drop, length-take-le, drop-drop}
use Rattle.std.specs.List.{prefix_len}
use Rattle.pn_text.specs.Numbers.{is_digit}
use Rattle.pn_text.specs.Bytes.{begins_name, is_name_byte}
use Rattle.pn_text.specs.Places.{after_bytes}
use Rattle.pn_text.specs.Blanks.{blank_len}
use Rattle.pn_text.specs.Tokens.{lexeme, number_at, string_at, other_at, or_fault, lexeme_at}
use Rattle.pn_text.specs.Scans.{Rest, Scan, AtEnd, AtFault, rest_after, after_blanks, token_at, onto, scan_on, scan_in, scan, place_of, fault_place}
use Rattle.pn_text.specs.declared.place.Place.{Place}
use Rattle.pn_text.specs.declared.token.LexFault.{LexFault}
use Rattle.pn_text.specs.declared.token.LexFault.TheVariants.{BadByte, OpenString, BigNumber}
use Rattle.pn_text.specs.declared.token.TokenKind.TheVariants as kind
use Rattle.pn_text.specs.declared.lexeme.Lexeme.{Lexeme}
use Rattle.pn_text.proofs.LexemeLens.{chosen, Stands, lexeme_stands}

-- what is left after a token and blanks
abbrev pub after : Rest → Lexeme → Rest
after rest found = after_blanks (rest_after found.len rest)

-- it is shorter
pub shorter : (rest : Rest) (found : Lexeme) → Stands found rest.bytes → length (after rest found).bytes < length rest.bytes
shorter rest found h =
    omega (arith, h.some, h.inside, length-drop (blank_len false (drop found.len rest.bytes)) (drop found.len rest.bytes), length-drop found.len rest.bytes)

-- two ways to go on that agree after what stands first
same_on : (more less : Rest → Scan) (rest : Rest) (first : Result (Option Lexeme) LexFault) → ((found : Lexeme) → first ≡ Ok (Some found) → more (after rest found) ≡ less (after rest found)) → scan_on more rest first ≡ scan_on less rest first
same_on more less rest (Err fault) h = refl
same_on more less rest (Ok None) h = refl
same_on more less rest (Ok (Some found)) h = ap (onto (token_at rest.place found)) (h found refl)

none_left : (more : Rest → Scan) (place : Place) (bytes : List ℕ) → length bytes ≤ 0 → record { tokens = []; ending = AtEnd place } ≡ scan_on more (record { place = place; bytes = bytes }) (lexeme_at place bytes)
unfolding lexeme_at
none_left more place [] h = refl
none_left more place (byte ∷ bytes) h = absurd (omega arith)

-- as many steps as bytes are enough
enough : (n m : ℕ) (rest : Rest) → length rest.bytes ≤ n → length rest.bytes ≤ m → scan_in n rest ≡ scan_in m rest
enough zero zero rest h k = refl
enough zero (suc m) rest h k = none_left (scan_in m) rest.place rest.bytes h
enough (suc n) zero rest h k = sym (none_left (scan_in n) rest.place rest.bytes k)
enough (suc n) (suc m) rest h k =
    same_on (scan_in n) (scan_in m) rest (lexeme_at rest.place rest.bytes)
    (λ found e.
    let less = shorter rest found (lexeme_stands rest.place rest.bytes found e) in
    enough n m (after rest found) (omega arith) (omega arith))

-- a scan is what stands first, and the scan after it
pub scan_step : (rest : Rest) → scan rest ≡ scan_on scan rest (lexeme_at rest.place rest.bytes)
unfolding scan
scan_step rest =
    enough (length rest.bytes) (suc (length rest.bytes)) rest (omega arith) (omega arith)
    ∙ same_on (scan_in (length rest.bytes)) scan rest (lexeme_at rest.place rest.bytes)
    (λ found e.
    let less = shorter rest found (lexeme_stands rest.place rest.bytes found e) in
    enough (length rest.bytes) (length (after rest found).bytes) (after rest found) (omega arith) (omega arith))

-- at a token
pub scan_at_token : (rest : Rest) (found : Lexeme) → lexeme_at rest.place rest.bytes ≡ Ok (Some found) → scan rest ≡ onto (token_at rest.place found) (scan (after rest found))
scan_at_token rest found e = scan_step rest ∙ ap (scan_on scan rest) e

-- at the end
pub scan_at_end : (rest : Rest) → lexeme_at rest.place rest.bytes ≡ Ok None → scan rest ≡ record { tokens = []; ending = AtEnd rest.place }
scan_at_end rest e = scan_step rest ∙ ap (scan_on scan rest) e

-- at a fault
pub scan_at_fault : (rest : Rest) (fault : LexFault) → lexeme_at rest.place rest.bytes ≡ Err fault → scan rest ≡ record { tokens = []; ending = AtFault fault }
scan_at_fault rest fault e = scan_step rest ∙ ap (scan_on scan rest) e

-- a fault has the place
or_fault_at : (fault other : LexFault) (o : Option Lexeme) → or_fault fault o ≡ Err other → fault ≡ other
or_fault_at fault other None e = cc
or_fault_at fault other (Some x) e = cc

fault_at : (place : Place) (text : List ℕ) (fault : LexFault) → lexeme_at place text ≡ Err fault → fault_place fault ≡ place
unfolding lexeme_at
fault_at place [] fault e = cc
fault_at place (byte ∷ bytes) fault e =
    let name : Result (Option Lexeme) LexFault = Ok (Some (lexeme kind.Name (prefix_len is_name_byte (byte ∷ bytes)))) in
    let number = or_fault (BigNumber place) (number_at (byte ∷ bytes)) in
    let string = or_fault (OpenString place) (string_at bytes) in
    let other = or_fault (BadByte place) (other_at byte bytes) in
    elim (chosen (begins_name byte) name (cond (is_digit byte) number (cond (byte == 34) string other)) (Err fault) e) [
      | inl h ↦ let no : ⊥ = cc in absurd no
      | inr h ↦ elim (chosen (is_digit byte) number (cond (byte == 34) string other) (Err fault) h.1) [
        | inl i ↦ ap fault_place (sym (or_fault_at (BigNumber place) fault (number_at (byte ∷ bytes)) i.1))
        | inr i ↦ elim (chosen (byte == 34) string other (Err fault) i.1) [
          | inl j ↦ ap fault_place (sym (or_fault_at (OpenString place) fault (string_at bytes) j.1))
          | inr j ↦ ap fault_place (sym (or_fault_at (BadByte place) fault (other_at byte bytes) j.1))
        ]
      ]
    ]

scan_on_place : (rest : Rest) (first : Result (Option Lexeme) LexFault) → lexeme_at rest.place rest.bytes ≡ first → place_of (scan_on scan rest first) ≡ rest.place
scan_on_place rest (Err fault) e = fault_at rest.place rest.bytes fault e
scan_on_place rest (Ok None) e = refl
scan_on_place rest (Ok (Some found)) e = refl

-- a scan stands where what is left does
pub place_of-scan : (rest : Rest) → place_of (scan rest) ≡ rest.place
place_of-scan rest = rw (scan_step rest) (scan_on_place rest (lexeme_at rest.place rest.bytes) refl)

-- the place that was moved past a token and blanks is that of what is left after them
pub moved : (text : List ℕ) (place middle last : Place) (len : ℕ) → len ≤ length (drop place.at text) → middle ≡ after_bytes place (take len (drop place.at text)) → middle.at ≡ place.at + length (take len (drop place.at text)) → last ≡ (after_blanks (record { place = middle; bytes = drop middle.at text })).place → drop last.at text ≡ (after_blanks (record { place = middle; bytes = drop middle.at text })).bytes → record { place = last; bytes = drop last.at text } ≡ after_blanks (rest_after len (record { place = place; bytes = drop place.at text }))
moved text place middle last len within first at second bytes =
    let there : middle.at ≡ place.at + len = rw length-take-le at at in
    let here : drop middle.at text ≡ drop len (drop place.at text) = rw (there, drop-drop len place.at text) refl in
    rw (bytes, second, here, first) refl
