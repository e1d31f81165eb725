-- The lines of the canonical text don't depend on the lines that a configuration holds.
use Rattle.std.proofs.Common.{◌≡◌, ℕ, ◌+◌, List, [], ◌∷◌, ◌++◌, map, refl, ap, ap₂}
use Rattle.std.specs.List.{flat_map}
use Rattle.pn_text.specs.Words.{Word, SignWord}
use Rattle.pn_text.specs.declared.token.Sign.TheVariants.{CloseCode}
use Rattle.mdl_ast.specs.declared.action.Statement.{Statement}
use Rattle.mdl_ast.specs.declared.block.Insertion.{Insertion}
use Rattle.mdl_ast.specs.declared.block.Block.{Block}
use Rattle.mdl_ast.specs.declared.metric.Metric.{Metric}
use Rattle.mdl_ast.specs.declared.metric.Constraint.{Constraint}
use Rattle.mdl_ast.specs.declared.items.Conf.{Conf}
use Rattle.mdl_ast.specs.declared.items.Item.{Item}
use Rattle.mdl_ast.specs.declared.items.Item.TheVariants as item
use Rattle.mdl_parse.specs.Grammar.{statement_words, insertion_head, block_head}
use Rattle.mdl_parse.specs.Printing.{LevelLine, line_text, insertion_line, close_line, block_lines, metric_lines, constraint_lines, item_lines, conf_text}
use Rattle.mdl_parse.specs.ButLines.{statement_but_line, insertion_but_lines, block_but_lines, metric_but_lines, constraint_but_lines, item_but_lines, but_lines}

statements_same : (stmts : List Statement) → flat_map statement_words (map statement_but_line stmts) ≡ flat_map statement_words stmts
statements_same [] = refl
statements_same (s ∷ stmts) = ap (λ (t : List Word). statement_words s ++ t) (statements_same stmts)

insertions_same : (level : ℕ) (insertions : List Insertion) → map (insertion_line level) (map insertion_but_lines insertions) ≡ map (insertion_line level) insertions
insertions_same level [] = refl
insertions_same level (i ∷ insertions) =
    ap₂ (λ (t : List Word) (ls : List LevelLine). (level, insertion_head i ++ (t ++ (SignWord CloseCode ∷ []))) ∷ ls) (statements_same i.stmts) (insertions_same level insertions)

blocks_same : (level : ℕ) (blocks : List Block) → flat_map (block_lines level) (map block_but_lines blocks) ≡ flat_map (block_lines level) blocks
blocks_same level [] = refl
blocks_same level (b ∷ blocks) =
    ap₂ (λ (x y : List LevelLine). ((level, block_head b) ∷ (x ++ (close_line level ∷ []))) ++ y) (insertions_same (level + 1) b.insertions) (blocks_same level blocks)

item_same : (i : Item) → item_lines (item_but_lines i) ≡ item_lines i
item_same (item.Include i) = refl
item_same (item.Sync s) = refl
item_same (item.Metric m) = metric_same m
  where
    metric_same : (m : Metric) → metric_lines (metric_but_lines m) ≡ metric_lines m
    metric_same m = rw (blocks_same 2 m.blocks) refl
item_same (item.Constraint c) = constraint_same c
  where
    constraint_same : (c : Constraint) → constraint_lines (constraint_but_lines c) ≡ constraint_lines c
    constraint_same c = rw (blocks_same 1 c.blocks) refl
item_same (item.Hypothesis h) = refl
item_same (item.Search s) = refl
item_same (item.Phase p) = refl
item_same (item.Wish w) = refl

items_same : (items : List Item) → flat_map item_lines (map item_but_lines items) ≡ flat_map item_lines items
items_same [] = refl
items_same (i ∷ items) = ap₂ (λ (x y : List LevelLine). x ++ y) (item_same i) (items_same items)

pub conf_text-but_lines : (c : Conf) → conf_text (but_lines c) ≡ conf_text c
unfolding conf_text
conf_text-but_lines c = ap (flat_map line_text) (items_same c.items)
