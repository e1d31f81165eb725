-- For proofs alone: readers of directives.
use Rattle.std.specs.Prelude.{ℕ, List, Option, Some, None, Ok, codes, if◌then◌else◌}
use Rattle.pn_text.specs.Words.{Word}
use Rattle.pn_text.specs.declared.token.Sign.TheVariants.{Semicolon}
use Rattle.mdl_parse.specs.Picks.{is_any}
use Rattle.mdl_parse.specs.Readers.{keyword_at, sign_at, start_at, name_at, number_at}
use Rattle.mdl_parse.specs.Shapes.{is_keyword}
use Rattle.mdl_parse.specs.Steps.{Read, ◌>>=◌, first_word, passes, option_at, many_at}
use Rattle.mdl_parse.specs.WordsInText.{PlacedWord}
use Rattle.directives.specs.declared.directive.Directive.{Directive}
use Rattle.directives.specs.declared.directive.DirectiveAct.{DirectiveAct}
use Rattle.directives.specs.declared.directive.DirectiveAct.TheVariants.{Prune, PruneAxis, Threshold, First}

unfoldable pub axis_at : List PlacedWord → Read (List ℕ)
axis_at words_ahead = do
  word ← keyword_at (codes "axis") words_ahead
  axis ← name_at word.1
  Ok (axis.0, axis.1)

abbrev pub prune_of : List ℕ → Option (List ℕ) → DirectiveAct
prune_of name None = Prune name
prune_of name (Some axis) = PruneAxis name axis

unfoldable pub prune_at : List PlacedWord → Read Directive
prune_at words_ahead = do
  line ← start_at (codes "prune") words_ahead
  name ← name_at line.1
  axis ← option_at (is_keyword (codes "axis")) axis_at name.1
  end ← sign_at Semicolon axis.1
  Ok (record { line = line.0; act = prune_of name.0 axis.0 }, end.1)

unfoldable pub threshold_at : List PlacedWord → Read Directive
threshold_at words_ahead = do
  line ← start_at (codes "threshold") words_ahead
  name ← name_at line.1
  number ← number_at name.1
  end ← sign_at Semicolon number.1
  Ok (record { line = line.0; act = Threshold name.0 number.0 }, end.1)

unfoldable pub first_at : List PlacedWord → Read Directive
first_at words_ahead = do
  line ← start_at (codes "first") words_ahead
  name ← name_at line.1
  end ← sign_at Semicolon name.1
  Ok (record { line = line.0; act = First name.0 }, end.1)

-- the forms of directives
pub data Form : Type 0 where
  Prunes : Form
  Thresholds : Form
  Firsts : Form

-- the form that a word begins
abbrev pub form_at : Option Word → Form
form_at word =
    if passes (is_keyword (codes "prune")) word then Prunes
    else if passes (is_keyword (codes "threshold")) word then Thresholds
    else Firsts

abbrev pub form_read : Form → List PlacedWord → Read Directive
form_read Prunes = prune_at
form_read Thresholds = threshold_at
form_read Firsts = first_at

unfoldable pub directive_at : List PlacedWord → Read Directive
directive_at words_ahead = form_read (form_at (first_word words_ahead)) words_ahead

abbrev pub directives_at : List PlacedWord → Read (List Directive)
directives_at = many_at is_any directive_at
