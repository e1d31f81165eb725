-- For proofs alone: readers of single words.
use Rattle.std.specs.Prelude.{ℕ, Bool, List, Ok}
use Rattle.pn_types.specs.declared.compare.Cmp.{Cmp}
use Rattle.pn_text.specs.declared.token.Sign.{Sign}
use Rattle.mdl_ast.specs.declared.action.VarName.{VarName}
use Rattle.mdl_ast.specs.declared.action.RightSide.{RightSide}
use Rattle.mdl_ast.specs.declared.block.EventKind.{EventKind}
use Rattle.mdl_ast.specs.declared.block.Set.{Set}
use Rattle.mdl_parse.specs.declared.change.Change.{Change}
use Rattle.mdl_parse.specs.WordsInText.{PlacedWord}
use Rattle.mdl_parse.specs.Picks.{is_sign, is_arg, when, name_of, word_number, quoted_of, path_of, choice_of, step_of, event_of, var_of, right_of, cmp_of, whole_of}
use Rattle.mdl_parse.specs.Shapes.{is_keyword}
use Rattle.mdl_parse.specs.Steps.{Read, ◌>>=◌, line_at, leaf_at}

abbrev pub keyword_at : List ℕ → List PlacedWord → Read (Unit {0})
keyword_at text = leaf_at (λ word. when (is_keyword text word) tt)

abbrev pub sign_at : Sign → List PlacedWord → Read (Unit {0})
sign_at sign = leaf_at (λ word. when (is_sign sign word) tt)

abbrev pub arg_at : List PlacedWord → Read (Unit {0})
arg_at = leaf_at (λ word. when (is_arg word) tt)

-- a keyword, and the line on which it stands
unfoldable pub start_at : List ℕ → List PlacedWord → Read ℕ
start_at text words_ahead = do
  end ← keyword_at text words_ahead
  Ok (line_at words_ahead, end.1)

abbrev pub name_at : List PlacedWord → Read (List ℕ)
name_at = leaf_at name_of

abbrev pub number_at : List PlacedWord → Read ℕ
number_at = leaf_at word_number

abbrev pub quoted_at : List PlacedWord → Read (List ℕ)
quoted_at = leaf_at quoted_of

abbrev pub path_at : List PlacedWord → Read (List ℕ)
path_at = leaf_at path_of

-- whether the first of two keywords stands there
abbrev pub choice_at : List ℕ → List ℕ → List PlacedWord → Read Bool
choice_at one other = leaf_at (choice_of one other)

abbrev pub step_at : List PlacedWord → Read Change
step_at = leaf_at step_of

abbrev pub event_at : List PlacedWord → Read EventKind
event_at = leaf_at event_of

abbrev pub var_at : List PlacedWord → Read VarName
var_at = leaf_at var_of

abbrev pub cmp_at : List PlacedWord → Read Cmp
cmp_at = leaf_at cmp_of

abbrev pub right_at : List PlacedWord → Read RightSide
right_at = leaf_at right_of

abbrev pub whole_at : List PlacedWord → Read Set
whole_at = leaf_at whole_of
