-- For proofs alone: the words that are to come, and what a function of the reader returns.
use Rattle.std.specs.Prelude.{◌≡◌, ℕ, Option, Some, None, Result, Ok, Err, List, [], ◌∷◌, map, length}
use Rattle.pn_text.specs.Scans.{Scan, Ending, AtEnd, AtFault, AreSpans, tokens_of, fault_place}
use Rattle.pn_text.specs.declared.token.Token.{Token}
use Rattle.pn_text.specs.declared.token.LexFault.{LexFault}
use Rattle.mdl_parse.specs.Lexing.{tokens_ahead, HasEnded}
use Rattle.mdl_parse.specs.Steps.{Read, words_after, some_read}
use Rattle.mdl_parse.specs.WordsInText.{PlacedWord, placed_word, placed_words}
use Rattle.directives.specs.declared.fault.DirectiveFault.{DirectiveFault}
use Rattle.directives.specs.declared.fault.DirectiveKind.TheVariants as kind
use Rattle.directives.specs.declared.stop.Stop.{Stop}
use Rattle.directives.specs.declared.stop.Stop.TheVariants.{NoMemory, Unexpected}
use Rattle.directives.specs.Meaning.{lex_kind}

-- it stops where reading stops, unless memory runs out
abbrev pub StopsAt : {A : Type 0} → Stop → List PlacedWord → Read A → Type 0
StopsAt NoMemory rest read = Unit {0}
StopsAt Unexpected rest read = read ≡ some_read None rest

-- it returns what was read, and leaves what is left
abbrev pub IsAheadRead : {A : Type 0} → Result A Stop → List PlacedWord → Read A → Type 0
IsAheadRead (Ok a) rest read = read ≡ Ok (a, rest)
IsAheadRead (Err why) rest read = StopsAt why rest read

-- ---- the words in view

-- the words that are to come, and how they end
pub record Ahead : Type 0 where
  pub words_ahead : List PlacedWord
  pub ending : Ending

-- all words of a text
abbrev pub ahead : List ℕ → Ahead
ahead text = record { words_ahead = placed_words text; ending = (tokens_of text).ending }

-- what stands after the first
abbrev pub ahead_after : Ahead → Ahead
ahead_after a = record { words_ahead = words_after a.words_ahead; ending = a.ending }

-- a token in view, and those after it
abbrev pub in_view : List ℕ → Option Token → Scan → Ahead
in_view text token scan = record { words_ahead = map (placed_word text) (tokens_ahead token scan); ending = scan.ending }

-- the tokens stand in the text
pub record StandIn (text : List ℕ) (token : Option Token) (scan : Scan) : Type 0 where
  pub spans : AreSpans 0 (tokens_ahead token scan) (length text)
  pub ended : HasEnded token scan

-- ---- faults

abbrev pub lex_fault : LexFault → DirectiveFault
lex_fault fault = record { line = (fault_place fault).line; col = (fault_place fault).col; kind = lex_kind fault }

-- the fault of words that can't go on as they do
abbrev pub fault_in : List PlacedWord → Ending → DirectiveFault
fault_in [] (AtEnd last) = record { line = last.line; col = last.col; kind = kind.Unexpected }
fault_in [] (AtFault fault) = lex_fault fault
fault_in (placed ∷ words_ahead) ending = record { line = placed.line; col = placed.col; kind = kind.Unexpected }

-- the fault that stands after all words, if there is one
abbrev pub unread_in : List PlacedWord → Ending → Option DirectiveFault
unread_in [] (AtEnd last) = None
unread_in [] (AtFault fault) = Some (lex_fault fault)
unread_in (placed ∷ words_ahead) ending = None
