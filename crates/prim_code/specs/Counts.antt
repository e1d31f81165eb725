-- How many words the tool's code of statements has.
use Rattle.std.specs.Prelude.{ℕ, ◌+◌, List, sum_by}
use Rattle.pn_types.specs.declared.plan.Act.{Act}
use Rattle.pn_types.specs.declared.plan.Act.TheVariants.{Up, Down, Put, Start, Stop}
use Rattle.pn_types.specs.declared.plan.Cond.{Cond}
use Rattle.pn_types.specs.declared.plan.Left.{Left}
use Rattle.pn_types.specs.declared.plan.Left.TheVariants.{Counter, Argument}
use Rattle.pn_types.specs.declared.plan.Plan.{Plan}
use Rattle.pn_types.specs.declared.plan.Site.{Site}
use Rattle.pn_types.specs.declared.plan.Stmt.{Stmt}

abbrev pub act_words : Act → ℕ
act_words (Up v) = 4
act_words (Down v) = 5
act_words (Put v n) = 4
act_words (Start v) = 12
act_words (Stop v) = 12

-- a condition has these more
abbrev pub left_words : Left → ℕ
left_words (Counter v) = 5
left_words (Argument a) = 3

abbrev pub cond_words : Cond → ℕ
cond_words c = left_words c.left

abbrev pub stmt_words : Stmt → ℕ
stmt_words s = sum_by cond_words s.conds + act_words s.act

-- How many words statements have, on whatever slots.
abbrev pub word_count : List Stmt → ℕ
word_count stmts = sum_by stmt_words stmts

-- the mini block of a site: its statements, and one jump
abbrev pub site_words : Site → ℕ
site_words site = word_count site.stmts + 1

-- The predicted cost of a plan: the words of its mini blocks.
abbrev pub predicted : Plan → ℕ
predicted plan = sum_by site_words plan.sites
