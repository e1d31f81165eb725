-- A configuration but for its lines: every line is 0.
use Rattle.std.specs.Prelude.{◌≡◌, ℕ, List, map}
use Rattle.mdl_ast.specs.declared.action.Statement.{Statement}
use Rattle.mdl_ast.specs.declared.block.Insertion.{Insertion}
use Rattle.mdl_ast.specs.declared.block.Block.{Block}
use Rattle.mdl_ast.specs.declared.metric.Metric.{Metric}
use Rattle.mdl_ast.specs.declared.metric.Constraint.{Constraint}
use Rattle.mdl_ast.specs.declared.items.Conf.{Conf}
use Rattle.mdl_ast.specs.declared.items.Hypothesis.{Hypothesis}
use Rattle.mdl_ast.specs.declared.items.Item.{Item}
use Rattle.mdl_ast.specs.declared.items.Item.TheVariants as item
use Rattle.mdl_parse.specs.Meaning.{IsConf}

abbrev pub statement_but_line : Statement → Statement
statement_but_line s = record { line = 0; conds = s.conds; act = s.act }

abbrev pub insertion_but_lines : Insertion → Insertion
insertion_but_lines i = record {
  line = 0;
  prepend = i.prepend;
  kind = i.kind;
  constrained = i.constrained;
  stmts = map statement_but_line i.stmts;
}

abbrev pub block_but_lines : Block → Block
block_but_lines b = record { line = 0; set = b.set; insertions = map insertion_but_lines b.insertions }

abbrev pub metric_but_lines : Metric → Metric
metric_but_lines m = record {
  line = 0;
  name = m.name;
  units = m.units;
  constraints = m.constraints;
  timer = m.timer;
  initially = m.initially;
  blocks = map block_but_lines m.blocks;
}

abbrev pub constraint_but_lines : Constraint → Constraint
constraint_but_lines c = record {
  line = 0;
  name = c.name;
  path = c.path;
  replace = c.replace;
  initially = c.initially;
  blocks = map block_but_lines c.blocks;
}

abbrev pub hypothesis_but_line : Hypothesis → Hypothesis
hypothesis_but_line h = record { line = 0; name = h.name; parent = h.parent; metric = h.metric; threshold = h.threshold; axes = h.axes }

abbrev pub item_but_lines : Item → Item
item_but_lines (item.Include i) = item.Include (record { line = 0; metrics = i.metrics })
item_but_lines (item.Sync s) = item.Sync (record { line = 0; name = s.name })
item_but_lines (item.Metric m) = item.Metric (metric_but_lines m)
item_but_lines (item.Constraint c) = item.Constraint (constraint_but_lines c)
item_but_lines (item.Hypothesis h) = item.Hypothesis (hypothesis_but_line h)
item_but_lines (item.Search s) = item.Search (record { line = 0; window = s.window; cost = s.cost; observed = s.observed })
item_but_lines (item.Phase p) = item.Phase (record { line = 0; name = p.name; at = p.at })
item_but_lines (item.Wish w) = item.Wish (record { line = 0; at = w.at; show = w.show; metric = w.metric; focus = w.focus })

-- The configuration with every line 0.
abbrev pub but_lines : Conf → Conf
but_lines c = record { items = map item_but_lines c.items }

-- Some text spells the configuration, but for its lines.
pub record IsSpelled (c : Conf) : Type 0 where
  pub text : List ℕ
  pub conf : Conf
  pub spells : IsConf text conf
  pub same : but_lines conf ≡ but_lines c

-- The text spells the configuration, but for its lines.
pub record SpellsAgain (text : List ℕ) (c : Conf) : Type 0 where
  pub again : Conf
  pub spells : IsConf text again
  pub same : but_lines again ≡ but_lines c
