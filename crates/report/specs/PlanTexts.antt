-- The text of a plan.
use Rattle.std.specs.Prelude.{ℕ, if◌then◌else◌, List, [], ◌++◌, codes, flat_map, slice_get}
use Rattle.std.specs.Fmt.{decimal}
use Rattle.std.specs.Option.{option_map_or}
use Rattle.pn_types.specs.Texts.{address, cmp_text}
use Rattle.pn_types.specs.declared.plan.Act.{Act}
use Rattle.pn_types.specs.declared.plan.Act.TheVariants.{Up, Down, Put, Start, Stop}
use Rattle.pn_types.specs.declared.plan.Cond.{Cond}
use Rattle.pn_types.specs.declared.plan.Left.{Left}
use Rattle.pn_types.specs.declared.plan.Left.TheVariants.{Counter, Argument}
use Rattle.pn_types.specs.declared.plan.Plan.{Plan}
use Rattle.pn_types.specs.declared.plan.Site.{Site}
use Rattle.pn_types.specs.declared.plan.Stmt.{Stmt}
use Rattle.pn_types.specs.declared.plan.Var.{Var}

-- the name of variable number v
abbrev pub var_name : List Var → ℕ → List ℕ
var_name vars v = option_map_or (λ var. var.name) (slice_get vars v) []

abbrev pub left_text : List Var → Left → List ℕ
left_text vars (Counter v) = var_name vars v
left_text vars (Argument n) = codes "$arg[" ++ (decimal n ++ codes "]")

-- a condition, and the space after it
abbrev pub cond_text : List Var → Cond → List ℕ
cond_text vars c =
    codes "if (" ++ (left_text vars c.left
    ++ (codes " " ++ (cmp_text c.cmp ++ (codes " " ++ (decimal c.right ++ codes ") ")))))

abbrev pub act_text : List Var → Act → List ℕ
act_text vars (Up v) = var_name vars v ++ codes "++;"
act_text vars (Down v) = var_name vars v ++ codes "--;"
act_text vars (Put v n) = var_name vars v ++ (codes " = " ++ (decimal n ++ codes ";"))
act_text vars (Start v) = codes "start(" ++ (var_name vars v ++ codes ");")
act_text vars (Stop v) = codes "stop(" ++ (var_name vars v ++ codes ");")

-- a statement: its conditions, the outermost first, and what it does
abbrev pub stmt_text : List Var → Stmt → List ℕ
stmt_text vars s = flat_map (cond_text vars) s.conds ++ act_text vars s.act

abbrev pub stmt_line : List Var → ℕ → Stmt → List ℕ
stmt_line vars at s = codes "at " ++ (address at ++ (codes " " ++ (stmt_text vars s ++ codes "\n")))

-- a line for each statement of a site
abbrev pub site_lines : List Var → Site → List ℕ
site_lines vars site = flat_map (stmt_line vars site.at) site.stmts

abbrev pub var_line : Var → List ℕ
var_line var =
    codes "variable " ++ (var.name
    ++ ((if var.timer then codes " timer" else codes " counter")
    ++ (codes " initially " ++ (decimal var.initially ++ codes "\n"))))

abbrev pub plan_head : List ℕ → List ℕ → ℕ → List ℕ
plan_head metric focus words = codes "plan " ++ (metric ++ (codes " " ++ (focus ++ (codes " words " ++ (decimal words ++ codes "\n")))))

-- the plan of a metric at a focus, with its predicted cost in words
abbrev pub plan_text : List ℕ → List ℕ → ℕ → Plan → List ℕ
plan_text metric focus words plan =
    plan_head metric focus words ++ (flat_map var_line plan.vars ++ flat_map (site_lines plan.vars) plan.sites)
