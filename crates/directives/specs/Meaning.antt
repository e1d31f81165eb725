-- What a text means: the directives that it spells, or its first fault.
use Rattle.std.specs.Prelude.{◌≡◌, ◌⊎◌, ℕ, List, [], ◌∷◌, ◌++◌, flat_map}
use Rattle.pn_text.specs.Scans.{tokens_of, AtEnd, AtFault, fault_place}
use Rattle.pn_text.specs.declared.place.Place.{Place}
use Rattle.pn_text.specs.declared.token.LexFault.{LexFault}
use Rattle.pn_text.specs.declared.token.LexFault.TheVariants as lex
use Rattle.mdl_parse.specs.WordsInText.{PlacedWord, AreWords, Spells, placed_words}
use Rattle.directives.specs.declared.directive.Directive.{Directive}
use Rattle.directives.specs.declared.fault.DirectiveKind.{DirectiveKind}
use Rattle.directives.specs.declared.fault.DirectiveKind.TheVariants.{BadByte, OpenString, BigNumber, Unexpected}
use Rattle.directives.specs.declared.fault.DirectiveFault.{DirectiveFault}
use Rattle.directives.specs.declared.fault.DirectiveError.{DirectiveError}
use Rattle.directives.specs.declared.fault.DirectiveError.TheVariants as error
use Rattle.directives.specs.Spelling.{directive_words}

-- the words are those of the directives
abbrev pub AreOf : List PlacedWord → List Directive → Type 0
AreOf words_ahead directives = Spells (flat_map directive_words directives) words_ahead

-- the words are the beginning of those of some directives
pub record Begin (words_ahead : List PlacedWord) : Type 0 where
  pub whole : List Directive
  pub tail : List PlacedWord
  pub words : AreWords tail
  pub spelled : AreOf (words_ahead ++ tail) whole

-- The text spells the directives.
pub record IsDirectives (text : List ℕ) (directives : List Directive) : Type 0 where
  pub last : Place
  pub end : (tokens_of text).ending ≡ AtEnd last
  pub spelled : AreOf (placed_words text) directives

-- ---- faults

abbrev pub lex_kind : LexFault → DirectiveKind
lex_kind (lex.BadByte place) = BadByte
lex_kind (lex.OpenString place) = OpenString
lex_kind (lex.BigNumber place) = BigNumber

-- The first fault of a text, which stands at this line and column.
pub data IsFault (text : List ℕ) : ℕ → ℕ → DirectiveKind → Type 0 where
  -- the words begin directives, but not with this word after them
  AtWord : (before : List PlacedWord) (placed : PlacedWord) (after : List PlacedWord) → placed_words text ≡ before ++ (placed ∷ after) →
      Begin before → (Begin (before ++ (placed ∷ [])) → ⊥) → IsFault text placed.line placed.col Unexpected
  -- the words have no fault, but after them stands something that is no word
  AtBytes : (fault : LexFault) → (tokens_of text).ending ≡ AtFault fault → Begin (placed_words text) →
      IsFault text (fault_place fault).line (fault_place fault).col (lex_kind fault)
  -- the end comes too early
  AtLast : (last : Place) → (tokens_of text).ending ≡ AtEnd last → Begin (placed_words text) →
      ((directives : List Directive) → AreOf (placed_words text) directives → ⊥) → IsFault text last.line last.col Unexpected

-- the text has that fault
abbrev pub DirectiveFaults : List ℕ → DirectiveFault → Type 0
DirectiveFaults text fault = IsFault text fault.line fault.col fault.kind

-- why a call was refused; running out of memory is always allowed
abbrev pub DirectiveRefuses : DirectiveError → (DirectiveFault → Type 0) → Type 0
DirectiveRefuses (error.Fault fault) why = why fault
DirectiveRefuses error.NoMemory why = Unit {0}

-- ---- a text has one meaning

-- it spells one list of directives at most
abbrev pub OneDirectives : Type 0
OneDirectives =
    (text : List ℕ) (directives others : List Directive) → IsDirectives text directives → IsDirectives text others
    → directives ≡ others

-- it has one fault at most, at one place
abbrev pub OneFault : Type 0
OneFault = (text : List ℕ) (line col other_line other_col : ℕ) (kind other : DirectiveKind) →
    IsFault text line col kind → IsFault text other_line other_col other → (line ≡ other_line) × (col ≡ other_col) × (kind ≡ other)

-- what spells directives has no fault
abbrev pub DirectivesOrFault : Type 0
DirectivesOrFault = (text : List ℕ) (directives : List Directive) (line col : ℕ) (kind : DirectiveKind) →
    IsDirectives text directives → IsFault text line col kind → ⊥

-- each text spells directives or has a fault
abbrev pub AlwaysMeans : Type 0
AlwaysMeans = (text : List ℕ) →
    ((directives : List Directive) × IsDirectives text directives)
    ⊎ ((line : ℕ) × (col : ℕ) × (kind : DirectiveKind) × IsFault text line col kind)
