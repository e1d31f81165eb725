-- The canonical text of a configuration.
use Rattle.std.specs.Prelude.{ℕ, zero, suc, ◌+◌, ◌&&◌, ◌||◌, Bool, true, false, List, [], ◌∷◌, ◌++◌, map, bytes_eq, codes, if◌then◌else◌}
use Rattle.std.specs.List.{flat_map}
use Rattle.pn_text.specs.Words.{Word, NameWord, NumberWord, QuotedWord, DollarArg, SignWord}
use Rattle.pn_text.specs.Writing.{word_text, stand_apart}
use Rattle.pn_text.specs.declared.token.Sign.{Sign}
use Rattle.pn_text.specs.declared.token.Sign.TheVariants.{OpenBrace, CloseBrace, OpenBracket, CloseBracket, OpenParen, CloseParen, CloseCode, Semicolon, Comma, PlusPlus, MinusMinus}
use Rattle.mdl_ast.specs.declared.block.Insertion.{Insertion}
use Rattle.mdl_ast.specs.declared.block.Block.{Block}
use Rattle.mdl_ast.specs.declared.metric.Metric.{Metric}
use Rattle.mdl_ast.specs.declared.metric.Constraint.{Constraint}
use Rattle.mdl_ast.specs.declared.items.Conf.{Conf}
use Rattle.mdl_ast.specs.declared.items.Hypothesis.{Hypothesis}
use Rattle.mdl_ast.specs.declared.items.SearchDecl.{SearchDecl}
use Rattle.mdl_ast.specs.declared.items.Item.{Item}
use Rattle.mdl_ast.specs.declared.items.Item.TheVariants as item
use Rattle.mdl_parse.specs.Grammar.{keyword, statement_words, insertion_head, block_head}
use Rattle.mdl_parse.specs.ItemGrammar.{reference_words, initially_words, constraint_head, parent_words, axes_words, include_words, sync_words, phase_words, wish_words}

-- ---- spaces

-- no space stands before `;`, `,`, `)`, `]`, `++` and `--`
abbrev pub closes_sign : Sign → Bool
closes_sign Semicolon = true
closes_sign Comma = true
closes_sign CloseParen = true
closes_sign CloseBracket = true
closes_sign PlusPlus = true
closes_sign MinusMinus = true
closes_sign sign = false

abbrev pub is_closing : Word → Bool
is_closing (SignWord sign) = closes_sign sign
is_closing word = false

-- none stands after `(` and `[`
abbrev pub opens_sign : Sign → Bool
opens_sign OpenParen = true
opens_sign OpenBracket = true
opens_sign sign = false

abbrev pub is_opening : Word → Bool
is_opening (SignWord sign) = opens_sign sign
is_opening word = false

-- and none between `start`, `stop` or `$arg` and its bracket
abbrev pub is_calling : Word → Bool
is_calling (NameWord name) = bytes_eq name (codes "start") || bytes_eq name (codes "stop")
is_calling DollarArg = true
is_calling word = false

abbrev pub is_tight : Word → Word → Bool
is_tight left right = is_closing right || is_opening left || (is_opening right && is_calling left)

-- what stands between two words of a line; they never run into one another
unfoldable pub gap : Word → Word → List ℕ
gap left right = if is_tight left right && stand_apart left right then [] else codes " "

-- the words of a line that stand after a word
abbrev pub text_after : Word → List Word → List ℕ
text_after left [] = []
text_after left (word ∷ words) = gap left word ++ (word_text word ++ text_after word words)

-- the words of a line
abbrev pub words_text : List Word → List ℕ
words_text [] = []
words_text (word ∷ words) = word_text word ++ text_after word words

-- two spaces for each level
abbrev pub indent : ℕ → List ℕ
indent zero = []
indent (suc level) = codes "  " ++ indent level

-- a line: its level, and its words
abbrev pub LevelLine : Type 0
LevelLine = ℕ × List Word

unfoldable pub line_text : LevelLine → List ℕ
line_text line = indent line.0 ++ (words_text line.1 ++ codes "\n")

-- ---- the lines of each part

abbrev pub insertion_line : ℕ → Insertion → LevelLine
insertion_line level i = (level, insertion_head i ++ (flat_map statement_words i.stmts ++ (SignWord CloseCode ∷ [])))

abbrev pub close_line : ℕ → LevelLine
close_line level = (level, SignWord CloseBrace ∷ [])

abbrev pub block_lines : ℕ → Block → List LevelLine
block_lines level b = (level, block_head b) ∷ (map (insertion_line (level + 1)) b.insertions ++ (close_line level ∷ []))

abbrev pub base_words : Metric → List Word
base_words m =
    keyword (codes "base") ∷ keyword (codes "is") ∷ keyword (if m.timer then codes "timer" else codes "counter")
    ∷ (initially_words m.initially ++ (SignWord OpenBrace ∷ []))

abbrev pub reference_line : List ℕ → LevelLine
reference_line name = (1, reference_words name)

abbrev pub metric_lines : Metric → List LevelLine
metric_lines m =
    (0, keyword (codes "metric") ∷ NameWord m.name ∷ SignWord OpenBrace ∷ [])
    ∷ (1, keyword (codes "units") ∷ QuotedWord m.units ∷ SignWord Semicolon ∷ [])
    ∷ (map reference_line m.constraints
    ++ ((1, base_words m) ∷ (flat_map (block_lines 2) m.blocks ++ (close_line 1 ∷ close_line 0 ∷ []))))

abbrev pub constraint_lines : Constraint → List LevelLine
constraint_lines c = (0, constraint_head c ++ (SignWord OpenBrace ∷ [])) ∷ (flat_map (block_lines 1) c.blocks ++ (close_line 0 ∷ []))

-- a line, unless it has no words
abbrev pub some_line : ℕ → List Word → List LevelLine
some_line level [] = []
some_line level (word ∷ words) = (level, word ∷ words) ∷ []

abbrev pub hypothesis_lines : Hypothesis → List LevelLine
hypothesis_lines h =
    (0, keyword (codes "hypothesis") ∷ NameWord h.name ∷ SignWord OpenBrace ∷ [])
    ∷ (some_line 1 (parent_words h.parent)
    ++ ((1, keyword (codes "metric") ∷ NameWord h.metric ∷ SignWord Semicolon ∷ [])
    ∷ (1, keyword (codes "threshold") ∷ NumberWord h.threshold ∷ SignWord Semicolon ∷ [])
    ∷ (some_line 1 (axes_words h.axes) ++ (close_line 0 ∷ []))))

abbrev pub search_lines : SearchDecl → List LevelLine
search_lines s =
    (0, keyword (codes "search") ∷ SignWord OpenBrace ∷ [])
    ∷ (1, keyword (codes "window") ∷ NumberWord s.window ∷ SignWord Semicolon ∷ [])
    ∷ (1, keyword (codes "cost") ∷ NumberWord s.cost ∷ SignWord Semicolon ∷ [])
    ∷ (1, keyword (codes "observed") ∷ NumberWord s.observed ∷ SignWord Semicolon ∷ [])
    ∷ close_line 0 ∷ []

abbrev pub item_lines : Item → List LevelLine
item_lines (item.Include i) = (0, include_words i) ∷ []
item_lines (item.Sync s) = (0, sync_words s) ∷ []
item_lines (item.Metric m) = metric_lines m
item_lines (item.Constraint c) = constraint_lines c
item_lines (item.Hypothesis h) = hypothesis_lines h
item_lines (item.Search s) = search_lines s
item_lines (item.Phase p) = (0, phase_words p) ∷ []
item_lines (item.Wish w) = (0, wish_words w) ∷ []

-- The canonical text of a configuration.
unfoldable pub conf_text : Conf → List ℕ
conf_text c = flat_map line_text (flat_map item_lines c.items)
