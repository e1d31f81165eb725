-- What the grammar can give: lists that need a name aren't empty, no statement begins as one of another form does, and at
-- most n conditions stand before what a statement does.
use Rattle.std.specs.Prelude.{◌≡◌, ℕ, ◌≤◌, ◌||◌, Bool, false, List, [], ◌∷◌, bytes_eq, codes, length}
use Rattle.std.specs.List.{AllByRecursion}
use Rattle.pn_text.specs.Words.{Word, NameWord}
use Rattle.mdl_ast.specs.declared.items.Conf.{Conf}
use Rattle.mdl_ast.specs.declared.items.Item.{Item}
use Rattle.mdl_ast.specs.declared.items.Item.TheVariants as item
use Rattle.mdl_ast.specs.declared.action.VarName.{VarName}
use Rattle.mdl_ast.specs.declared.action.Action.{Action}
use Rattle.mdl_ast.specs.declared.action.Action.TheVariants as act
use Rattle.mdl_ast.specs.declared.action.Statement.{Statement}
use Rattle.mdl_ast.specs.declared.block.Set.{Set}
use Rattle.mdl_ast.specs.declared.block.Set.TheVariants as set
use Rattle.mdl_ast.specs.declared.block.Insertion.{Insertion}
use Rattle.mdl_ast.specs.declared.block.Block.{Block}
use Rattle.mdl_parse.specs.Grammar.{var_word}

abbrev pub is_keyword : List ℕ → Word → Bool
is_keyword text (NameWord name) = bytes_eq name text
is_keyword text word = false

abbrev pub is_if : Word → Bool
is_if = is_keyword (codes "if")

-- `start` or `stop`
abbrev pub is_timing : Word → Bool
is_timing word = is_keyword (codes "start") word || is_keyword (codes "stop") word

-- a variable with which a statement may begin: not `if`, `start` or `stop`
abbrev pub BeginsStatement : VarName → Type 0
BeginsStatement var = (is_if (var_word var) ≡ false) × (is_timing (var_word var) ≡ false)

abbrev pub ActionShaped : Action → Type 0
ActionShaped (act.Up var) = BeginsStatement var
ActionShaped (act.Down var) = BeginsStatement var
ActionShaped (act.Put var n) = BeginsStatement var
ActionShaped (act.Start var) = Unit {0}
ActionShaped (act.Stop var) = Unit {0}

abbrev pub StatementShaped : ℕ → Statement → Type 0
StatementShaped n s = (length s.conds ≤ n) × ActionShaped s.act

abbrev pub InsertionShaped : ℕ → Insertion → Type 0
InsertionShaped n i = AllByRecursion (StatementShaped n) i.stmts

abbrev pub HasNames : List (List ℕ) → Type 0
HasNames [] = ⊥
HasNames (name ∷ names) = Unit {0}

abbrev pub SetShaped : Set → Type 0
SetShaped set.Focus = Unit {0}
SetShaped set.All = Unit {0}
SetShaped (set.Names names) = HasNames names

abbrev pub BlockShaped : ℕ → Block → Type 0
BlockShaped n b = SetShaped b.set × AllByRecursion (InsertionShaped n) b.insertions

abbrev pub BlocksShaped : ℕ → List Block → Type 0
BlocksShaped n = AllByRecursion (BlockShaped n)

abbrev pub ItemShaped : ℕ → Item → Type 0
ItemShaped n (item.Include i) = Unit {0}
ItemShaped n (item.Sync s) = Unit {0}
ItemShaped n (item.Metric m) = BlocksShaped n m.blocks
ItemShaped n (item.Constraint c) = BlocksShaped n c.blocks
ItemShaped n (item.Hypothesis h) = Unit {0}
ItemShaped n (item.Search s) = Unit {0}
ItemShaped n (item.Phase p) = Unit {0}
ItemShaped n (item.Wish w) = Unit {0}

-- The grammar can give the configuration, with at most n conditions before each statement.
abbrev pub IsShaped : ℕ → Conf → Type 0
IsShaped n c = AllByRecursion (ItemShaped n) c.items
