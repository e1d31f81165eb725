-- The grammar: the words of each part of a configuration, by cases on the part.
use Rattle.std.specs.Prelude.{ℕ, Bool, true, false, List, [], ◌∷◌, ◌++◌, codes, if◌then◌else◌}
use Rattle.std.specs.List.{flat_map, join_by}
use Rattle.pn_types.specs.declared.compare.Cmp.{Cmp}
use Rattle.pn_types.specs.declared.compare.Cmp.TheVariants.{Eq, Ne, Lt, Le, Gt, Ge}
use Rattle.pn_text.specs.Words.{Word, NameWord, NumberWord, DollarFocus, DollarAll, DollarMetric, DollarValue, DollarArg, SignWord}
use Rattle.pn_text.specs.declared.token.Sign.{Sign}
use Rattle.pn_text.specs.declared.token.Sign.TheVariants.{OpenBrace, CloseBrace, OpenBracket, CloseBracket, OpenParen, CloseParen, OpenCode, CloseCode, Semicolon, Comma, PlusPlus, MinusMinus, Assign, Equal, NotEqual, Less, LessEqual, Greater, GreaterEqual}
use Rattle.mdl_ast.specs.declared.action.VarName.{VarName}
use Rattle.mdl_ast.specs.declared.action.VarName.TheVariants.{Named, TheMetric}
use Rattle.mdl_ast.specs.declared.action.LeftName.{LeftName}
use Rattle.mdl_ast.specs.declared.action.LeftName.TheVariants.{Variable, Argument}
use Rattle.mdl_ast.specs.declared.action.RightSide.{RightSide}
use Rattle.mdl_ast.specs.declared.action.RightSide.TheVariants.{Number, Value}
use Rattle.mdl_ast.specs.declared.action.Condition.{Condition}
use Rattle.mdl_ast.specs.declared.action.Action.{Action}
use Rattle.mdl_ast.specs.declared.action.Action.TheVariants.{Up, Down, Put, Start, Stop}
use Rattle.mdl_ast.specs.declared.action.Statement.{Statement}
use Rattle.mdl_ast.specs.declared.block.Set.{Set}
use Rattle.mdl_ast.specs.declared.block.Set.TheVariants.{Focus, All, Names}
use Rattle.mdl_ast.specs.declared.block.EventKind.{EventKind}
use Rattle.mdl_ast.specs.declared.block.EventKind.TheVariants.{Entry, After, Return, Call}
use Rattle.mdl_ast.specs.declared.block.Insertion.{Insertion}
use Rattle.mdl_ast.specs.declared.block.Block.{Block}
use Rattle.mdl_parse.specs.WordsInText.{TreeWord, other_words, starts}

-- a keyword
abbrev pub keyword : List ℕ → Word
keyword text = NameWord text

-- names between commas
abbrev pub names_words : List (List ℕ) → List Word
names_words = join_by (λ name. NameWord name ∷ []) (SignWord Comma ∷ [])

-- ---- statements

abbrev pub var_word : VarName → Word
var_word (Named name) = NameWord name
var_word TheMetric = DollarMetric

abbrev pub left_words : LeftName → List Word
left_words (Variable var) = var_word var ∷ []
left_words (Argument n) = DollarArg ∷ SignWord OpenBracket ∷ NumberWord n ∷ SignWord CloseBracket ∷ []

abbrev pub cmp_sign : Cmp → Sign
cmp_sign Eq = Equal
cmp_sign Ne = NotEqual
cmp_sign Lt = Less
cmp_sign Le = LessEqual
cmp_sign Gt = Greater
cmp_sign Ge = GreaterEqual

abbrev pub right_word : RightSide → Word
right_word (Number n) = NumberWord n
right_word Value = DollarValue

abbrev pub condition_words : Condition → List Word
condition_words c =
    keyword (codes "if") ∷ SignWord OpenParen
    ∷ (left_words c.left ++ (SignWord (cmp_sign c.cmp) ∷ right_word c.right ∷ SignWord CloseParen ∷ []))

abbrev pub action_words : Action → List Word
action_words (Up var) = var_word var ∷ SignWord PlusPlus ∷ SignWord Semicolon ∷ []
action_words (Down var) = var_word var ∷ SignWord MinusMinus ∷ SignWord Semicolon ∷ []
action_words (Put var n) = var_word var ∷ SignWord Assign ∷ NumberWord n ∷ SignWord Semicolon ∷ []
action_words (Start var) = keyword (codes "start") ∷ SignWord OpenParen ∷ var_word var ∷ SignWord CloseParen ∷ SignWord Semicolon ∷ []
action_words (Stop var) = keyword (codes "stop") ∷ SignWord OpenParen ∷ var_word var ∷ SignWord CloseParen ∷ SignWord Semicolon ∷ []

abbrev pub statement_words : Statement → List Word
statement_words s = flat_map condition_words s.conds ++ action_words s.act

abbrev pub statement_tree_words : Statement → List TreeWord
statement_tree_words s = starts s.line (statement_words s)

-- ---- insertions and blocks

abbrev pub event_name : EventKind → List ℕ
event_name Entry = codes "entry"
event_name After = codes "after"
event_name Return = codes "return"
event_name Call = codes "call"

-- a keyword that is written where something holds
abbrev pub flag_words : List ℕ → Bool → List Word
flag_words text true = keyword text ∷ []
flag_words text false = []

abbrev pub insertion_head : Insertion → List Word
insertion_head i =
    keyword (if i.prepend then codes "prepend" else codes "append") ∷ keyword (event_name i.kind)
    ∷ (flag_words (codes "constrained") i.constrained ++ (SignWord OpenCode ∷ []))

abbrev pub insertion_tree_words : Insertion → List TreeWord
insertion_tree_words i = starts i.line (insertion_head i) ++ (flat_map statement_tree_words i.stmts ++ other_words (SignWord CloseCode ∷ []))

abbrev pub set_words : Set → List Word
set_words Focus = DollarFocus ∷ []
set_words All = DollarAll ∷ []
set_words (Names names) = SignWord OpenBracket ∷ (names_words names ++ (SignWord CloseBracket ∷ []))

abbrev pub block_head : Block → List Word
block_head b = keyword (codes "foreach") ∷ keyword (codes "func") ∷ keyword (codes "in") ∷ (set_words b.set ++ (SignWord OpenBrace ∷ []))

abbrev pub block_tree_words : Block → List TreeWord
block_tree_words b = starts b.line (block_head b) ++ (flat_map insertion_tree_words b.insertions ++ other_words (SignWord CloseBrace ∷ []))

-- the blocks of a metric or a constraint
abbrev pub blocks_tree_words : List Block → List TreeWord
blocks_tree_words blocks = other_words (SignWord OpenBrace ∷ []) ++ (flat_map block_tree_words blocks ++ other_words (SignWord CloseBrace ∷ []))
