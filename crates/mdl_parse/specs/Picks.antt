-- For proofs alone: which words may stand at a place of the grammar, and what each means there.
use Rattle.std.specs.Prelude.{ℕ, Bool, true, false, ◌||◌, ◌==◌, List, [], ◌∷◌, Option, Some, None, bytes_eq, codes, is_some, if◌then◌else◌}
use Rattle.pn_types.specs.declared.compare.Cmp.{Cmp}
use Rattle.pn_types.specs.declared.compare.Cmp.TheVariants.{Eq, Ne, Lt, Le, Gt, Ge}
use Rattle.pn_text.specs.Words.{Word, NameWord, NumberWord, QuotedWord, FocusPath, DollarFocus, DollarAll, DollarMetric, DollarValue, DollarArg, SignWord}
use Rattle.pn_text.specs.declared.token.Sign.{Sign}
use Rattle.pn_text.specs.declared.token.Sign.TheVariants.{OpenBrace, CloseBrace, OpenBracket, CloseBracket, OpenParen, CloseParen, OpenCode, CloseCode, Semicolon, Comma, PlusPlus, MinusMinus, Assign, Equal, NotEqual, Less, LessEqual, Greater, GreaterEqual}
use Rattle.mdl_ast.specs.declared.action.VarName.{VarName}
use Rattle.mdl_ast.specs.declared.action.VarName.TheVariants.{Named, TheMetric}
use Rattle.mdl_ast.specs.declared.action.RightSide.{RightSide}
use Rattle.mdl_ast.specs.declared.action.RightSide.TheVariants.{Number, Value}
use Rattle.mdl_ast.specs.declared.block.Set.{Set}
use Rattle.mdl_ast.specs.declared.block.Set.TheVariants.{Focus, All}
use Rattle.mdl_ast.specs.declared.block.EventKind.{EventKind}
use Rattle.mdl_ast.specs.declared.block.EventKind.TheVariants.{Entry, After, Return, Call}
use Rattle.mdl_parse.specs.Shapes.{is_keyword}
use Rattle.mdl_parse.specs.declared.change.Change.{Change}
use Rattle.mdl_parse.specs.declared.change.Change.TheVariants.{Up, Down}

-- ---- words

-- a keyword
abbrev pub keyword : List ℕ → Word
keyword text = NameWord text

-- signs, numbered
abbrev pub sign_number : Sign → ℕ
sign_number OpenBrace = 0
sign_number CloseBrace = 1
sign_number OpenBracket = 2
sign_number CloseBracket = 3
sign_number OpenParen = 4
sign_number CloseParen = 5
sign_number OpenCode = 6
sign_number CloseCode = 7
sign_number Semicolon = 8
sign_number Comma = 9
sign_number PlusPlus = 10
sign_number MinusMinus = 11
sign_number Assign = 12
sign_number Equal = 13
sign_number NotEqual = 14
sign_number Less = 15
sign_number LessEqual = 16
sign_number Greater = 17
sign_number GreaterEqual = 18

abbrev pub is_sign : Sign → Word → Bool
is_sign sign (SignWord other) = sign_number other == sign_number sign
is_sign sign word = false

abbrev pub is_arg : Word → Bool
is_arg DollarArg = true
is_arg word = false

-- what a test chooses
abbrev pub when : {A : Type 0} → Bool → A → Option A
when b a = if b then Some a else None

-- ---- tokens with a text or a number

abbrev pub name_of : Word → Option (List ℕ)
name_of (NameWord name) = Some name
name_of word = None

abbrev pub word_number : Word → Option ℕ
word_number (NumberWord n) = Some n
word_number word = None

abbrev pub quoted_of : Word → Option (List ℕ)
quoted_of (QuotedWord text) = Some text
quoted_of word = None

abbrev pub path_of : Word → Option (List ℕ)
path_of (FocusPath path) = Some path
path_of word = None

-- ---- choices

-- what a table of names says of a name
abbrev pub row_of : {A : Type 0} → List (List ℕ × A) → List ℕ → Option A
row_of [] name = None
row_of (row ∷ rows) name = if bytes_eq name row.0 then Some row.1 else row_of rows name

-- one of two keywords: whether it is the first
abbrev pub choices : List ℕ → List ℕ → List (List ℕ × Bool)
choices one other = (one, true) ∷ (other, false) ∷ []

abbrev pub choice_of : List ℕ → List ℕ → Word → Option Bool
choice_of one other (NameWord name) = row_of (choices one other) name
choice_of one other word = None

-- `++` or `--`
abbrev pub sign_step : Sign → Option Change
sign_step PlusPlus = Some Up
sign_step MinusMinus = Some Down
sign_step sign = None

abbrev pub step_of : Word → Option Change
step_of (SignWord sign) = sign_step sign
step_of word = None

abbrev pub whole_of : Word → Option Set
whole_of DollarFocus = Some Focus
whole_of DollarAll = Some All
whole_of word = None

abbrev pub events : List (List ℕ × EventKind)
events = (codes "entry", Entry) ∷ (codes "return", Return) ∷ (codes "call", Call) ∷ (codes "after", After) ∷ []

abbrev pub event_named : List ℕ → Option EventKind
event_named = row_of events

abbrev pub event_of : Word → Option EventKind
event_of (NameWord name) = event_named name
event_of word = None

abbrev pub var_of : Word → Option VarName
var_of (NameWord name) = Some (Named name)
var_of DollarMetric = Some TheMetric
var_of word = None

abbrev pub right_of : Word → Option RightSide
right_of (NumberWord n) = Some (Number n)
right_of DollarValue = Some Value
right_of word = None

abbrev pub sign_cmp : Sign → Option Cmp
sign_cmp Equal = Some Eq
sign_cmp NotEqual = Some Ne
sign_cmp Less = Some Lt
sign_cmp LessEqual = Some Le
sign_cmp Greater = Some Gt
sign_cmp GreaterEqual = Some Ge
sign_cmp sign = None

abbrev pub cmp_of : Word → Option Cmp
cmp_of (SignWord sign) = sign_cmp sign
cmp_of word = None

-- ---- where a part begins

-- a variable
abbrev pub is_var : Word → Bool
is_var word = is_some (var_of word)

-- `prepend` or `append`
abbrev pub is_insertion : Word → Bool
is_insertion word = is_keyword (codes "prepend") word || is_keyword (codes "append") word

-- any word
abbrev pub is_any : Word → Bool
is_any word = true
