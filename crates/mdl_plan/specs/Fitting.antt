-- What the plan of a checked configuration is within.
use Rattle.std.specs.Prelude.{ℕ, ◌+◌, ◌*◌, ◌^◌, ◌<◌, ◌≤◌, length}
use Rattle.std.specs.List.{AllByRecursion}
use Rattle.pn_types.specs.declared.plan.Plan.{Plan}
use Rattle.resource_tree.specs.Resources.{Resources}
use Rattle.mdl_plan.specs.Plans.{most_sites, most_stmts}

-- each statement has at most 18 conditions
abbrev pub HasFewConds : Plan → Type 0
HasFewConds plan = AllByRecursion (λ site. AllByRecursion (λ s. length s.conds ≤ 18) site.stmts) plan.sites

-- the most words of mini blocks: 18 conditions of 5 words and an act of 12 in each statement, and a jump at each site
abbrev pub most_words : ℕ
most_words = most_sites * (most_stmts * (18 * 5 + 12) + 1)

-- the addresses of the tree's objects have 31 bits
abbrev pub HasLowObjects : Resources → Type 0
HasLowObjects t = AllByRecursion (λ o. o.at < 2 ^ 31) t.objects
