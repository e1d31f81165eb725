-- How many words statements of at most 18 conditions have, and plans of them.
use Rattle.std.proofs.Common.{◌*◌, ◌<◌, ◌≤◌, List, [], ◌∷◌, length, sum_by, arith}
use Rattle.std.specs.List.{AllByRecursion}
use Rattle.std.proofs.lemmas.List.Elements.{recursion_from_All}
use Rattle.std.proofs.lemmas.List.Sums.{sum_by-cons}
use Rattle.pn_types.specs.declared.plan.Act.{Act}
use Rattle.pn_types.specs.declared.plan.Act.TheVariants.{Up, Down, Put, Start, Stop}
use Rattle.pn_types.specs.declared.plan.Cond.{Cond}
use Rattle.pn_types.specs.declared.plan.Left.{Left}
use Rattle.pn_types.specs.declared.plan.Left.TheVariants.{Counter, Argument}
use Rattle.pn_types.specs.declared.plan.Plan.{Plan}
use Rattle.pn_types.specs.declared.plan.Site.{Site}
use Rattle.pn_types.specs.declared.plan.Stmt.{Stmt}
use Rattle.prim_code.specs.Counts.{act_words, left_words, cond_words, stmt_words, site_words, predicted}
use Rattle.mdl_plan.specs.Fitting.{HasFewConds, most_words}
use Rattle.mdl_plan.specs.Plans.{IsLimited}

of_act : (a : Act) → act_words a ≤ 12
of_act (Up v) = omega arith
of_act (Down v) = omega arith
of_act (Put v n) = omega arith
of_act (Start v) = omega arith
of_act (Stop v) = omega arith

of_left : (l : Left) → left_words l ≤ 5
of_left (Counter v) = omega arith
of_left (Argument n) = omega arith

of_conds : (cs : List Cond) → sum_by cond_words cs ≤ 5 * length cs
of_conds [] = omega arith
of_conds (c ∷ cs) = omega (arith, sum_by-cons cond_words c cs, of_left c.left, of_conds cs)

of_stmt : (s : Stmt) → length s.conds ≤ 18 → stmt_words s ≤ 102
of_stmt s h = omega (arith, h, of_conds s.conds, of_act s.act)

pub short_stmt : (s : Stmt) → length s.conds ≤ 18 → stmt_words s < 1024
short_stmt s h = omega (arith, of_stmt s h)

of_stmts : (ss : List Stmt) → AllByRecursion (λ s. length s.conds ≤ 18) ss → sum_by stmt_words ss ≤ 102 * length ss
of_stmts [] h = omega arith
of_stmts (s ∷ ss) h = omega (arith, sum_by-cons stmt_words s ss, of_stmt s h.0, of_stmts ss h.1)

of_sites : (sites : List Site) → AllByRecursion (λ site. AllByRecursion (λ s. length s.conds ≤ 18) site.stmts) sites → AllByRecursion (λ site. length site.stmts ≤ 32) sites
    → sum_by site_words sites ≤ 3265 * length sites
of_sites [] h g = omega arith
of_sites (s ∷ sites) h g = omega (arith, sum_by-cons site_words s sites, of_stmts s.stmts h.0, g.0, of_sites sites h.1 g.1)

pub of_plan : (plan : Plan) → HasFewConds plan → IsLimited plan → predicted plan ≤ most_words
of_plan plan h l = omega (arith, of_sites plan.sites h (recursion_from_All (λ site. length site.stmts ≤ 32) plan.sites l.stmts), l.sites)
