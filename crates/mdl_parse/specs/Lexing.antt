-- For proofs alone: all tokens of a text, and how they end.
use Rattle.std.specs.Prelude.{◌≡◌, ℕ, Option, Some, None, Result, Ok, Err, List, [], ◌∷◌, length}
use Rattle.pn_text.specs.Scans.{Scan, Ending, AtEnd, AtFault, AreSpans, tokens_of}
use Rattle.pn_text.specs.declared.place.Place.{Place}
use Rattle.pn_text.specs.declared.token.Token.{Token}
use Rattle.pn_text.specs.declared.token.LexFault.{LexFault}

-- a token that was returned, and those after it
abbrev pub tokens_ahead : Option Token → Scan → List Token
tokens_ahead None scan = []
tokens_ahead (Some token) scan = token ∷ scan.tokens

-- where none was returned none is to come
abbrev pub HasEnded : Option Token → Scan → Type 0
HasEnded None scan = scan.tokens ≡ []
HasEnded (Some token) scan = Unit {0}

-- an end that was returned: its place, or the fault
abbrev pub ending_of : Result Place LexFault → Ending
ending_of (Ok last) = AtEnd last
ending_of (Err fault) = AtFault fault

-- they are all tokens of the text, which end so
pub record AreTokens (text : List ℕ) (tokens : List Token) (ending : Result Place LexFault) : Type 0 where
  pub all : tokens ≡ (tokens_of text).tokens
  pub end : (tokens_of text).ending ≡ ending_of ending
  pub spans : AreSpans 0 tokens (length text)
