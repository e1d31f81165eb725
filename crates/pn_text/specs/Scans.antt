-- The tokens of a text.
use Rattle.std.specs.Prelude.{ℕ, zero, suc, ◌+◌, ◌<◌, ◌≤◌, false, Option, Some, None, Result, Ok, Err, List, [], ◌∷◌, take, drop, length}
use Rattle.pn_text.specs.Places.{first_place, after_bytes}
use Rattle.pn_text.specs.Blanks.{blank_len}
use Rattle.pn_text.specs.Tokens.{lexeme_at}
use Rattle.pn_text.specs.declared.place.Place.{Place}
use Rattle.pn_text.specs.declared.token.Token.{Token}
use Rattle.pn_text.specs.declared.token.LexFault.{LexFault}
use Rattle.pn_text.specs.declared.token.LexFault.TheVariants.{BadByte, OpenString, BigNumber}
use Rattle.pn_text.specs.declared.lexeme.Lexeme.{Lexeme}

-- how the tokens of a text end: at its end, which has this place, or with a fault
pub data Ending : Type 0 where
  AtEnd : Place → Ending
  AtFault : LexFault → Ending

-- the tokens that are to come, and how they end
pub record Scan : Type 0 where
  pub tokens : List Token
  pub ending : Ending

-- ---- one after another

-- what is left of a text: a place, and the bytes that stand there
pub record Rest : Type 0 where
  pub place : Place
  pub bytes : List ℕ

-- what is left after n bytes
abbrev pub rest_after : ℕ → Rest → Rest
rest_after n rest = record { place = after_bytes rest.place (take n rest.bytes); bytes = drop n rest.bytes }

-- what is left after the blanks
abbrev pub after_blanks : Rest → Rest
after_blanks rest = rest_after (blank_len false rest.bytes) rest

-- the token of this kind and length at a place
abbrev pub token_at : Place → Lexeme → Token
token_at place found = record { kind = found.kind; from = place.at; to = place.at + found.len; line = place.line; col = place.col }

-- a token more
abbrev pub onto : Token → Scan → Scan
onto token scan = record { tokens = token ∷ scan.tokens; ending = scan.ending }

-- with what stands first, and how it goes on after that
abbrev pub scan_on : (Rest → Scan) → Rest → Result (Option Lexeme) LexFault → Scan
scan_on more rest (Err fault) = record { tokens = []; ending = AtFault fault }
scan_on more rest (Ok None) = record { tokens = []; ending = AtEnd rest.place }
scan_on more rest (Ok (Some found)) = onto (token_at rest.place found) (more (after_blanks (rest_after found.len rest)))

-- up to n tokens of what is left, which begins with no blank
abbrev pub scan_in : ℕ → Rest → Scan
scan_in zero rest = record { tokens = []; ending = AtEnd rest.place }
scan_in (suc n) rest = scan_on (scan_in n) rest (lexeme_at rest.place rest.bytes)

-- all, of which there are no more than bytes
unfoldable pub scan : Rest → Scan
scan rest = scan_in (length rest.bytes) rest

-- The tokens of a text, and how they end.
unfoldable pub tokens_of : List ℕ → Scan
tokens_of text = scan (after_blanks (record { place = first_place; bytes = text }))

-- ---- taking one

-- the place of a fault
abbrev pub fault_place : LexFault → Place
fault_place (BadByte place) = place
fault_place (OpenString place) = place
fault_place (BigNumber place) = place

-- the place of an end
abbrev pub ending_place : Ending → Place
ending_place (AtEnd place) = place
ending_place (AtFault fault) = fault_place fault

-- what is returned at an end
abbrev pub at_ending : Ending → Result (Option Token) LexFault
at_ending (AtEnd place) = Ok None
at_ending (AtFault fault) = Err fault

-- what is returned first where the tokens end so
abbrev pub first_in : List Token → Ending → Result (Option Token) LexFault
first_in [] ending = at_ending ending
first_in (token ∷ tokens) ending = Ok (Some token)

-- the next token, none at the end, or the fault
abbrev pub next_of : Scan → Result (Option Token) LexFault
next_of scan = first_in scan.tokens scan.ending

-- what comes after it; an end stays as it is
abbrev pub rest_of : Scan → Scan
rest_of scan = record { tokens = drop 1 scan.tokens; ending = scan.ending }

-- the place at which they stand
abbrev pub place_in : List Token → Ending → Place
place_in [] ending = ending_place ending
place_in (token ∷ tokens) ending = record { at = token.from; line = token.line; col = token.col }

-- the place of the next token, of the end, or of the fault
abbrev pub place_of : Scan → Place
place_of scan = place_in scan.tokens scan.ending

-- ---- spans

-- the tokens ascend from a place on, none is empty, and the last ends within a length
abbrev pub AreSpans : ℕ → List Token → ℕ → Type 0
AreSpans at [] len = at ≤ len
AreSpans at (token ∷ tokens) len = (at ≤ token.from) × (token.from < token.to) × AreSpans token.to tokens len
