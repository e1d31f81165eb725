-- For proofs alone: readers of the items of a configuration.
use Rattle.std.specs.Prelude.{ℕ, Bool, List, [], Option, Ok, codes, if◌then◌else◌}
use Rattle.pn_text.specs.Words.{Word}
use Rattle.pn_text.specs.declared.token.Sign.TheVariants.{OpenBrace, CloseBrace, Semicolon}
use Rattle.mdl_ast.specs.declared.items.Item.{Item}
use Rattle.mdl_ast.specs.declared.items.Item.TheVariants as item
use Rattle.mdl_ast.specs.declared.items.Include.{Include}
use Rattle.mdl_ast.specs.declared.items.SyncDecl.{SyncDecl}
use Rattle.mdl_ast.specs.declared.items.Hypothesis.{Hypothesis}
use Rattle.mdl_ast.specs.declared.items.SearchDecl.{SearchDecl}
use Rattle.mdl_ast.specs.declared.items.PhaseDecl.{PhaseDecl}
use Rattle.mdl_ast.specs.declared.items.Wish.{Wish}
use Rattle.mdl_ast.specs.declared.block.Block.{Block}
use Rattle.mdl_ast.specs.declared.metric.Metric.{Metric}
use Rattle.mdl_ast.specs.declared.metric.Constraint.{Constraint}
use Rattle.mdl_parse.specs.WordsInText.{PlacedWord}
use Rattle.mdl_parse.specs.Picks.{is_any}
use Rattle.mdl_parse.specs.Shapes.{is_keyword}
use Rattle.mdl_parse.specs.Steps.{Read, ◌>>=◌, first_word, passes, is_first, option_at, many_at}
use Rattle.mdl_parse.specs.Readers.{keyword_at, sign_at, start_at, name_at, number_at, quoted_at, path_at, choice_at}
use Rattle.mdl_parse.specs.Parts.{names_at, blocks_at}

-- ---- metrics and constraints

-- a keyword, a name and `{`: the line of the keyword, and the name
unfoldable pub opened_at : List ℕ → List PlacedWord → Read (ℕ × List ℕ)
opened_at text words_ahead = do
  line ← start_at text words_ahead
  name ← name_at line.1
  opened ← sign_at OpenBrace name.1
  Ok ((line.0, name.0), opened.1)

unfoldable pub initial_at : List PlacedWord → Read ℕ
initial_at words_ahead = do
  word ← keyword_at (codes "initially") words_ahead
  n ← number_at word.1
  Ok (n.0, n.1)

abbrev pub initially_at : List PlacedWord → Read (Option ℕ)
initially_at = option_at (is_keyword (codes "initially")) initial_at

unfoldable pub reference_at : List PlacedWord → Read (List ℕ)
reference_at words_ahead = do
  word ← keyword_at (codes "constraint") words_ahead
  name ← name_at word.1
  end ← sign_at Semicolon name.1
  Ok (name.0, end.1)

abbrev pub references_at : List PlacedWord → Read (List (List ℕ))
references_at = many_at (is_keyword (codes "constraint")) reference_at

unfoldable pub units_at : List PlacedWord → Read (List ℕ)
units_at words_ahead = do
  word ← keyword_at (codes "units") words_ahead
  units ← quoted_at word.1
  end ← sign_at Semicolon units.1
  Ok (units.0, end.1)

unfoldable pub base_at : List PlacedWord → Read Bool
base_at words_ahead = do
  word ← keyword_at (codes "base") words_ahead
  of_kind ← keyword_at (codes "is") word.1
  timer ← choice_at (codes "timer") (codes "counter") of_kind.1
  Ok (timer.0, timer.1)

-- the value at first, and the blocks
unfoldable pub body_at : ℕ → List PlacedWord → Read (Option ℕ × List Block)
body_at n words_ahead = do
  initially ← initially_at words_ahead
  blocks ← blocks_at n initially.1
  Ok ((initially.0, blocks.0), blocks.1)

unfoldable pub metric_at : ℕ → List PlacedWord → Read Metric
metric_at n words_ahead = do
  head ← opened_at (codes "metric") words_ahead
  units ← units_at head.1
  constraints ← references_at units.1
  timer ← base_at constraints.1
  body ← body_at n timer.1
  end ← sign_at CloseBrace body.1
  Ok (
    record {
      line = head.0.0;
      name = head.0.1;
      units = units.0;
      constraints = constraints.0;
      timer = timer.0;
      initially = body.0.0;
      blocks = body.0.1;
    },
    end.1,
  )

unfoldable pub constraint_at : ℕ → List PlacedWord → Read Constraint
constraint_at n words_ahead = do
  line ← start_at (codes "constraint") words_ahead
  name ← name_at line.1
  path ← path_at name.1
  of_kind ← keyword_at (codes "is") path.1
  replace ← choice_at (codes "replace") (codes "counter") of_kind.1
  body ← body_at n replace.1
  Ok (record { line = line.0; name = name.0; path = path.0; replace = replace.0; initially = body.0.0; blocks = body.0.1 }, body.1)

-- ---- hypotheses

-- a keyword, a name and `;`
unfoldable pub named_field_at : List ℕ → List PlacedWord → Read (List ℕ)
named_field_at text words_ahead = do
  word ← keyword_at text words_ahead
  name ← name_at word.1
  end ← sign_at Semicolon name.1
  Ok (name.0, end.1)

-- a keyword, a number and `;`
unfoldable pub number_field_at : List ℕ → List PlacedWord → Read ℕ
number_field_at text words_ahead = do
  word ← keyword_at text words_ahead
  n ← number_at word.1
  end ← sign_at Semicolon n.1
  Ok (n.0, end.1)

abbrev pub parent_at : List PlacedWord → Read (Option (List ℕ))
parent_at = option_at (is_keyword (codes "parent")) (named_field_at (codes "parent"))

unfoldable pub axis_names_at : List PlacedWord → Read (List (List ℕ))
axis_names_at words_ahead = do
  word ← keyword_at (codes "axes") words_ahead
  names ← names_at word.1
  end ← sign_at Semicolon names.1
  Ok (names.0, end.1)

unfoldable pub axes_at : List PlacedWord → Read (List (List ℕ))
axes_at words_ahead = if is_first (is_keyword (codes "axes")) words_ahead then axis_names_at words_ahead else Ok ([], words_ahead)

unfoldable pub hypothesis_at : List PlacedWord → Read Hypothesis
hypothesis_at words_ahead = do
  head ← opened_at (codes "hypothesis") words_ahead
  parent ← parent_at head.1
  metric ← named_field_at (codes "metric") parent.1
  threshold ← number_field_at (codes "threshold") metric.1
  axes ← axes_at threshold.1
  end ← sign_at CloseBrace axes.1
  Ok (record { line = head.0.0; name = head.0.1; parent = parent.0; metric = metric.0; threshold = threshold.0; axes = axes.0 }, end.1)

-- ---- the other items

unfoldable pub include_at : List PlacedWord → Read Include
include_at words_ahead = do
  line ← start_at (codes "include") words_ahead
  metrics ← choice_at (codes "metrics") (codes "hypotheses") line.1
  end ← sign_at Semicolon metrics.1
  Ok (record { line = line.0; metrics = metrics.0 }, end.1)

unfoldable pub sync_at : List PlacedWord → Read SyncDecl
sync_at words_ahead = do
  line ← start_at (codes "sync") words_ahead
  name ← name_at line.1
  end ← sign_at Semicolon name.1
  Ok (record { line = line.0; name = name.0 }, end.1)

unfoldable pub search_at : List PlacedWord → Read SearchDecl
search_at words_ahead = do
  line ← start_at (codes "search") words_ahead
  opened ← sign_at OpenBrace line.1
  window ← number_field_at (codes "window") opened.1
  cost ← number_field_at (codes "cost") window.1
  observed ← number_field_at (codes "observed") cost.1
  end ← sign_at CloseBrace observed.1
  Ok (record { line = line.0; window = window.0; cost = cost.0; observed = observed.0 }, end.1)

unfoldable pub phase_at : List PlacedWord → Read PhaseDecl
phase_at words_ahead = do
  line ← start_at (codes "phase") words_ahead
  name ← name_at line.1
  at ← number_field_at (codes "at") name.1
  Ok (record { line = line.0; name = name.0; at = at.0 }, at.1)

unfoldable pub wish_at : List PlacedWord → Read Wish
wish_at words_ahead = do
  line ← start_at (codes "at") words_ahead
  at ← number_at line.1
  show ← choice_at (codes "show") (codes "drop") at.1
  metric ← name_at show.1
  focus ← path_at metric.1
  end ← sign_at Semicolon focus.1
  Ok (record { line = line.0; at = at.0; show = show.0; metric = metric.0; focus = focus.0 }, end.1)

-- ---- the whole

-- an item made of what was read
abbrev pub as_item : {A : Type 0} → (A → Item) → Read A → Read Item
as_item to read = read >>= λ x. Ok (to x.0, x.1)

-- the kinds of items
pub data ItemKind : Type 0 where
  Includes : ItemKind
  Syncs : ItemKind
  Metrics : ItemKind
  Constraints : ItemKind
  Hypotheses : ItemKind
  Searches : ItemKind
  Phases : ItemKind
  Wishes : ItemKind

-- the kind of item that a word begins
abbrev pub kind_at : Option Word → ItemKind
kind_at word =
    if passes (is_keyword (codes "include")) word then Includes
    else if passes (is_keyword (codes "sync")) word then Syncs
    else if passes (is_keyword (codes "metric")) word then Metrics
    else if passes (is_keyword (codes "constraint")) word then Constraints
    else if passes (is_keyword (codes "hypothesis")) word then Hypotheses
    else if passes (is_keyword (codes "search")) word then Searches
    else if passes (is_keyword (codes "phase")) word then Phases
    else Wishes

abbrev pub kind_read : ItemKind → ℕ → List PlacedWord → Read Item
kind_read Includes n words_ahead = as_item item.Include (include_at words_ahead)
kind_read Syncs n words_ahead = as_item item.Sync (sync_at words_ahead)
kind_read Metrics n words_ahead = as_item item.Metric (metric_at n words_ahead)
kind_read Constraints n words_ahead = as_item item.Constraint (constraint_at n words_ahead)
kind_read Hypotheses n words_ahead = as_item item.Hypothesis (hypothesis_at words_ahead)
kind_read Searches n words_ahead = as_item item.Search (search_at words_ahead)
kind_read Phases n words_ahead = as_item item.Phase (phase_at words_ahead)
kind_read Wishes n words_ahead = as_item item.Wish (wish_at words_ahead)

unfoldable pub item_at : ℕ → List PlacedWord → Read Item
item_at n words_ahead = kind_read (kind_at (first_word words_ahead)) n words_ahead

abbrev pub items_at : ℕ → List PlacedWord → Read (List Item)
items_at n = many_at is_any (item_at n)
