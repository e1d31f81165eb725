-- What a text means: the configuration that it spells, or its first fault.
use Rattle.std.specs.Prelude.{◌≡◌, ℕ, ◌+◌, List, [], ◌∷◌, ◌++◌}
use Rattle.pn_text.specs.Scans.{tokens_of, AtEnd, AtFault, fault_place}
use Rattle.pn_text.specs.declared.place.Place.{Place}
use Rattle.pn_text.specs.declared.token.LexFault.{LexFault}
use Rattle.pn_text.specs.declared.token.LexFault.TheVariants as lex
use Rattle.mdl_ast.specs.declared.items.Conf.{Conf}
use Rattle.mdl_parse.specs.declared.refusal.Refusal.{Refusal}
use Rattle.mdl_parse.specs.declared.refusal.Refusal.TheVariants as refusal
use Rattle.mdl_parse.specs.declared.fault.SyntaxKind.{SyntaxKind}
use Rattle.mdl_parse.specs.declared.fault.SyntaxKind.TheVariants as kind
use Rattle.mdl_parse.specs.declared.fault.ParseFault.{ParseFault}
use Rattle.mdl_parse.specs.declared.fault.ParseError.{ParseError}
use Rattle.mdl_parse.specs.declared.fault.ParseError.TheVariants as error
use Rattle.mdl_parse.specs.WordsInText.{PlacedWord, AreWords, Spells, placed_words}
use Rattle.mdl_parse.specs.ItemGrammar.{conf_tree_words}
use Rattle.mdl_parse.specs.Shapes.{IsShaped}

-- the most conditions that a statement has
abbrev pub most_conditions : ℕ
most_conditions = 16

-- the words are those of the configuration, in which at most n conditions stand before a statement
pub record AreOf (n : ℕ) (words_ahead : List PlacedWord) (c : Conf) : Type 0 where
  pub words : Spells (conf_tree_words c) words_ahead
  pub shaped : IsShaped n c

-- the words are the beginning of those of some configuration
pub record Begin (n : ℕ) (words_ahead : List PlacedWord) : Type 0 where
  pub whole : Conf
  pub tail : List PlacedWord
  pub words : AreWords tail
  pub spelled : AreOf n (words_ahead ++ tail) whole

-- The text spells the configuration.
pub record IsConf (text : List ℕ) (c : Conf) : Type 0 where
  pub last : Place
  pub end : (tokens_of text).ending ≡ AtEnd last
  pub spelled : AreOf most_conditions (placed_words text) c

-- ---- faults

-- the first word that can't follow those before it: no configuration goes on with it, or only one in which a statement
-- has more conditions than it may have
abbrev pub CantFollow : Refusal → List PlacedWord → Type 0
CantFollow refusal.Unexpected words_ahead = (n : ℕ) → Begin n words_ahead → ⊥
CantFollow refusal.TooDeep words_ahead = (Begin most_conditions words_ahead → ⊥) × Begin (most_conditions + 1) words_ahead

abbrev pub refusal_kind : Refusal → SyntaxKind
refusal_kind refusal.Unexpected = kind.Unexpected
refusal_kind refusal.TooDeep = kind.TooDeep

abbrev pub lex_kind : LexFault → SyntaxKind
lex_kind (lex.BadByte place) = kind.BadByte
lex_kind (lex.OpenString place) = kind.OpenString
lex_kind (lex.BigNumber place) = kind.BigNumber

-- The first fault of a text, which stands at this line and column.
pub data IsFault (text : List ℕ) : ℕ → ℕ → SyntaxKind → Type 0 where
  -- a word can't follow those before it
  AtWord : (before : List PlacedWord) (placed : PlacedWord) (after : List PlacedWord) (why : Refusal)
      → placed_words text ≡ before ++ (placed ∷ after)
      → Begin most_conditions before → CantFollow why (before ++ (placed ∷ [])) → IsFault text placed.line placed.col (refusal_kind why)
  -- the words have no fault, but after them stands something that is no word
  AtBytes : (fault : LexFault) → (tokens_of text).ending ≡ AtFault fault → Begin most_conditions (placed_words text) →
      IsFault text (fault_place fault).line (fault_place fault).col (lex_kind fault)
  -- the end comes too early
  AtLast : (last : Place) → (tokens_of text).ending ≡ AtEnd last → Begin most_conditions (placed_words text) →
      ((c : Conf) → AreOf most_conditions (placed_words text) c → ⊥) → IsFault text last.line last.col kind.Unexpected

-- the text has that fault
abbrev pub Faults : List ℕ → ParseFault → Type 0
Faults text fault = IsFault text fault.line fault.col fault.kind

-- why a call was refused; running out of memory is always allowed
abbrev pub ParseRefuses : ParseError → (ParseFault → Type 0) → Type 0
ParseRefuses (error.Fault fault) why = why fault
ParseRefuses error.NoMemory why = Unit {0}

-- ---- a text has one meaning

-- it spells one configuration at most
abbrev pub OneConf : Type 0
OneConf = (text : List ℕ) (c d : Conf) → IsConf text c → IsConf text d → c ≡ d

-- it has one fault at most, at one place
abbrev pub OneFault : Type 0
OneFault = (text : List ℕ) (line col other_line other_col : ℕ) (kind other : SyntaxKind) →
    IsFault text line col kind → IsFault text other_line other_col other → (line ≡ other_line) × (col ≡ other_col) × (kind ≡ other)

-- what spells a configuration has no fault
abbrev pub ConfOrFault : Type 0
ConfOrFault = (text : List ℕ) (c : Conf) (line col : ℕ) (kind : SyntaxKind) → IsConf text c → IsFault text line col kind → ⊥
