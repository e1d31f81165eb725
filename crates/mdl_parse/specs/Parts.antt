-- For proofs alone: readers of the parts of the grammar, from the smallest up to the whole. `n` is the most conditions that a
-- statement has.
use Rattle.std.specs.Prelude.{ℕ, Bool, true, false, List, ◌∷◌, Ok, codes, if◌then◌else◌}
use Rattle.pn_text.specs.declared.token.Sign.TheVariants.{OpenBrace, CloseBrace, OpenBracket, CloseBracket, OpenParen, CloseParen, OpenCode, CloseCode, Semicolon, Comma, Assign}
use Rattle.mdl_ast.specs.declared.action.LeftName.{LeftName}
use Rattle.mdl_ast.specs.declared.action.LeftName.TheVariants.{Variable, Argument}
use Rattle.mdl_ast.specs.declared.action.Condition.{Condition}
use Rattle.mdl_ast.specs.declared.action.Action.{Action}
use Rattle.mdl_ast.specs.declared.action.Statement.{Statement}
use Rattle.mdl_ast.specs.declared.block.Set.{Set}
use Rattle.mdl_ast.specs.declared.block.Set.TheVariants.{Names}
use Rattle.mdl_ast.specs.declared.block.Insertion.{Insertion}
use Rattle.mdl_ast.specs.declared.block.Block.{Block}
use Rattle.mdl_parse.specs.declared.change.Change.{Change}
use Rattle.mdl_parse.specs.declared.change.Change.TheVariants.{Put}
use Rattle.mdl_parse.specs.Actions.{action_of_change, timed}
use Rattle.mdl_parse.specs.WordsInText.{PlacedWord}
use Rattle.mdl_parse.specs.Picks.{is_sign, is_arg, is_var, is_insertion}
use Rattle.mdl_parse.specs.Shapes.{is_keyword, is_if, is_timing}
use Rattle.mdl_parse.specs.Steps.{Read, ◌>>=◌, line_at, is_first, many_at, bounded_at}
use Rattle.mdl_parse.specs.Readers.{keyword_at, sign_at, arg_at, start_at, name_at, number_at, choice_at, step_at, event_at, var_at, cmp_at, right_at, whole_at}

-- ---- conditions

unfoldable pub argument_at : List PlacedWord → Read LeftName
argument_at words_ahead = do
  word ← arg_at words_ahead
  opened ← sign_at OpenBracket word.1
  n ← number_at opened.1
  end ← sign_at CloseBracket n.1
  Ok (Argument n.0, end.1)

unfoldable pub variable_at : List PlacedWord → Read LeftName
variable_at words_ahead = do
  var ← var_at words_ahead
  Ok (Variable var.0, var.1)

unfoldable pub left_at : List PlacedWord → Read LeftName
left_at words_ahead = if is_first is_arg words_ahead then argument_at words_ahead else variable_at words_ahead

unfoldable pub condition_at : List PlacedWord → Read Condition
condition_at words_ahead = do
  word ← keyword_at (codes "if") words_ahead
  opened ← sign_at OpenParen word.1
  left ← left_at opened.1
  cmp ← cmp_at left.1
  right ← right_at cmp.1
  end ← sign_at CloseParen right.1
  Ok (record { left = left.0; cmp = cmp.0; right = right.0 }, end.1)

abbrev pub conditions_at : ℕ → List PlacedWord → Read (List Condition)
conditions_at n = bounded_at is_if condition_at n

-- ---- statements

unfoldable pub put_at : List PlacedWord → Read Change
put_at words_ahead = do
  sign ← sign_at Assign words_ahead
  n ← number_at sign.1
  Ok (Put n.0, n.1)

unfoldable pub change_at : List PlacedWord → Read Change
change_at words_ahead = if is_first (is_sign Assign) words_ahead then put_at words_ahead else step_at words_ahead

unfoldable pub changed_at : List PlacedWord → Read Action
changed_at words_ahead = do
  var ← var_at words_ahead
  change ← change_at var.1
  end ← sign_at Semicolon change.1
  Ok (action_of_change var.0 change.0, end.1)

unfoldable pub timed_at : List PlacedWord → Read Action
timed_at words_ahead = do
  start ← choice_at (codes "start") (codes "stop") words_ahead
  opened ← sign_at OpenParen start.1
  var ← var_at opened.1
  close ← sign_at CloseParen var.1
  end ← sign_at Semicolon close.1
  Ok (timed start.0 var.0, end.1)

unfoldable pub action_at : List PlacedWord → Read Action
action_at words_ahead = if is_first is_timing words_ahead then timed_at words_ahead else changed_at words_ahead

unfoldable pub statement_at : ℕ → List PlacedWord → Read Statement
statement_at n words_ahead = do
  conds ← conditions_at n words_ahead
  act ← action_at conds.1
  Ok (record { line = line_at words_ahead; conds = conds.0; act = act.0 }, act.1)

-- ---- insertions and blocks

-- whether a keyword stands there
unfoldable pub flag_at : List ℕ → List PlacedWord → Read Bool
flag_at text words_ahead = if is_first (is_keyword text) words_ahead then (do
  end ← keyword_at text words_ahead
  Ok (true, end.1))
    else Ok (false, words_ahead)

unfoldable pub insertion_at : ℕ → List PlacedWord → Read Insertion
insertion_at n words_ahead = do
  prepend ← choice_at (codes "prepend") (codes "append") words_ahead
  kind ← event_at prepend.1
  constrained ← flag_at (codes "constrained") kind.1
  opened ← sign_at OpenCode constrained.1
  stmts ← many_at is_var (statement_at n) opened.1
  end ← sign_at CloseCode stmts.1
  Ok (record { line = line_at words_ahead; prepend = prepend.0; kind = kind.0; constrained = constrained.0; stmts = stmts.0 }, end.1)

unfoldable pub another_at : List PlacedWord → Read (List ℕ)
another_at words_ahead = do
  comma ← sign_at Comma words_ahead
  name ← name_at comma.1
  Ok (name.0, name.1)

unfoldable pub names_at : List PlacedWord → Read (List (List ℕ))
names_at words_ahead = do
  name ← name_at words_ahead
  others ← many_at (is_sign Comma) another_at name.1
  Ok (name.0 ∷ others.0, others.1)

unfoldable pub named_at : List PlacedWord → Read Set
named_at words_ahead = do
  opened ← sign_at OpenBracket words_ahead
  names ← names_at opened.1
  end ← sign_at CloseBracket names.1
  Ok (Names names.0, end.1)

unfoldable pub set_at : List PlacedWord → Read Set
set_at words_ahead = if is_first (is_sign OpenBracket) words_ahead then named_at words_ahead else whole_at words_ahead

unfoldable pub block_at : ℕ → List PlacedWord → Read Block
block_at n words_ahead = do
  line ← start_at (codes "foreach") words_ahead
  func ← keyword_at (codes "func") line.1
  word ← keyword_at (codes "in") func.1
  set ← set_at word.1
  opened ← sign_at OpenBrace set.1
  insertions ← many_at is_insertion (insertion_at n) opened.1
  end ← sign_at CloseBrace insertions.1
  Ok (record { line = line.0; set = set.0; insertions = insertions.0 }, end.1)

unfoldable pub blocks_at : ℕ → List PlacedWord → Read (List Block)
blocks_at n words_ahead = do
  opened ← sign_at OpenBrace words_ahead
  blocks ← many_at (is_keyword (codes "foreach")) (block_at n) opened.1
  end ← sign_at CloseBrace blocks.1
  Ok (blocks.0, end.1)
