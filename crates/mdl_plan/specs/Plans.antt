-- The plan of a metric at a focus.
use Rattle.std.specs.Prelude.{ℕ, ◌≤◌, ◌<◌, ◌≡◌, ◌==◌, ◌%◌, ◌^◌, nat_lt, Bool, true, false, if◌then◌else◌, Option, Some, None, unwrap_or, Result, Ok, Err, List, [], ◌∷◌, length, map, flat_map, slice_get}
use Rattle.std.specs.List.{filter, find, list_any, All, AllByRecursion}
use Rattle.std.specs.List.Sorted.{IsStrictlyIncreasing}
use Rattle.pn_types.specs.declared.code.Point.{Point}
use Rattle.pn_types.specs.declared.code.Proc.{Proc}
use Rattle.pn_types.specs.declared.focus.Focus.{Focus}
use Rattle.pn_types.specs.declared.plan.Open.{Open}
use Rattle.pn_types.specs.declared.plan.Plan.{Plan}
use Rattle.pn_types.specs.declared.plan.Site.{Site}
use Rattle.pn_types.specs.declared.plan.Stmt.{Stmt}
use Rattle.pn_types.specs.declared.plan.Var.{Var}
use Rattle.mdl_ast.specs.declared.block.EventKind.{EventKind}
use Rattle.mdl_ast.specs.declared.block.EventKind.TheVariants.{Entry}
use Rattle.mdl_ast.specs.declared.metric.Metric.{Metric}
use Rattle.mdl_ast.specs.declared.metric.Constraint.{Constraint}
use Rattle.resource_tree.specs.Resources.{Resources}
use Rattle.resource_tree.specs.Foci.{Selection, part}
use Rattle.mdl_plan.specs.Active.{Active, active_of}
use Rattle.mdl_plan.specs.Pieces.{Piece, pieces, replacement, counters, base_initially}
use Rattle.mdl_plan.specs.Statements.{Terms, stmts_of, guards}
use Rattle.mdl_plan.specs.Choosing.{is_chosen, kinds_of}
use Rattle.mdl_plan.specs.declared.fault.PlanFault.{PlanFault}
use Rattle.mdl_plan.specs.declared.fault.PlanFault.TheVariants.{TooManySites, TooManyStmts}
use Rattle.mdl_plan.specs.declared.fault.PlanError.{PlanError}
use Rattle.mdl_plan.specs.declared.fault.PlanError.TheVariants as error

-- a program's procedures and points
pub record IndexedProgram : Type 0 where
  pub procs : List Proc
  pub points : List Point

-- ---- variables

-- what isn't written is 0
abbrev pub at_first : Option ℕ → ℕ
at_first initially = unwrap_or initially 0

abbrev pub base_var : Metric → Active → Var
base_var m a = record { name = m.name; timer = m.timer; initially = at_first (base_initially m (replacement a)) }

abbrev pub counter_var : Constraint → Var
counter_var c = record { name = c.name; timer = false; initially = at_first c.initially }

-- the metric's own variable, and then those of the active counters
abbrev pub vars_of : Metric → Active → List Var
vars_of m a = base_var m a ∷ map counter_var (counters a)

-- ---- sites

-- what is planned: the procedures that the focus selects, the insertions, and what their statements have in common
pub record PlanScope : Type 0 where
  pub selected : List ℕ
  pub procs : List Proc
  pub pieces : List Piece
  pub terms : Terms

-- the statements for the points of a kind of procedure number q
abbrev pub stmts_for : PlanScope → ℕ → Option Proc → EventKind → List Stmt
stmts_for s q None kind = []
stmts_for s q (Some p) kind = flat_map (stmts_of s.terms) (filter (is_chosen s.selected kind q p) s.pieces)

-- the statements at a point, kind by kind
abbrev pub stmts_at : PlanScope → Point → List Stmt
stmts_at s p = flat_map (stmts_for s p.proc_no (slice_get s.procs p.proc_no)) (kinds_of p)

abbrev pub site_at : PlanScope → Point → Site
site_at s p = record { at = p.at; stmts = stmts_at s p }

abbrev pub has_stmts : Site → Bool
has_stmts site = nat_lt 0 (length site.stmts)

-- the points at which at least one statement stands
abbrev pub sites_of : PlanScope → List Point → List Site
sites_of s points = filter has_stmts (map (site_at s) points)

-- ---- what is open

-- the range of a procedure with its entry statements, where it has some
abbrev pub open_if : List Stmt → Option Proc → List Open
open_if stmts None = []
open_if stmts (Some p) = if nat_lt 0 (length stmts) then record { start = p.start; len = p.len; stmts = stmts } ∷ [] else []

-- the procedure of a point that is its entry
abbrev pub open_at : PlanScope → Point → List Open
open_at s p = if p.entry then open_if (stmts_for s p.proc_no (slice_get s.procs p.proc_no) Entry) (slice_get s.procs p.proc_no) else []

-- the procedures at whose entries at least one entry statement stands
abbrev pub opens_of : PlanScope → List Point → List Open
opens_of s points = flat_map (open_at s) points

-- ---- the plan

abbrev pub most_sites : ℕ
most_sites = 4096

abbrev pub most_stmts : ℕ
most_stmts = 32

abbrev pub is_crowded : Site → Bool
is_crowded site = nat_lt most_stmts (length site.stmts)

-- the sites, unless one of them has too many statements
abbrev pub or_crowded : List Var → List Site → List Open → Option Site → Result Plan PlanFault
or_crowded vars sites opens None = Ok (record { vars = vars; sites = sites; opens = opens })
or_crowded vars sites opens (Some site) = Err (TooManyStmts site.at)

abbrev pub plan_with : List Var → List Site → List Open → Result Plan PlanFault
plan_with vars sites opens =
    if nat_lt most_sites (length sites) then Err (TooManySites (length sites))
    else or_crowded vars sites opens (find is_crowded sites)

-- what a metric's statements have in common where the focus selects this
abbrev pub terms_of : Selection → Active → Terms
terms_of s a = record { guards = guards 1 (counters a); value = unwrap_or s.object 0 % 2 ^ 32 }

abbrev pub scene_of : Selection → List Proc → Metric → Active → PlanScope
scene_of s procs m a = record { selected = s.procs; procs = procs; pieces = pieces m a; terms = terms_of s a }

abbrev pub plan_at : Resources → Focus → List Proc → List Point → Metric → Result Active PlanFault → Result Plan PlanFault
plan_at t f procs points m (Err e) = Err e
plan_at t f procs points m (Ok a) =
    plan_with (vars_of m a) (sites_of (scene_of (part t f) procs m a) points) (opens_of (scene_of (part t f) procs m a) points)

-- The plan of a metric at a focus, or why there is none.
abbrev pub plan_of : List Constraint → Metric → Focus → Resources → List Proc → List Point → Result Plan PlanFault
plan_of cs m f t procs points = plan_at t f procs points m (active_of cs m f)

-- the result is what is due, unless memory runs out
abbrev pub IsPlanOr : Result Plan PlanError → Result Plan PlanFault → Type 0
IsPlanOr (Ok plan) due = due ≡ Ok plan
IsPlanOr (Err (error.Fault fault)) due = due ≡ Err fault
IsPlanOr (Err error.NoMemory) due = Unit {0}

-- limits on how many sites a plan has, and how many statements each site and the entry of each procedure
pub record IsLimited (plan : Plan) : Type 0 where
  pub sites : length plan.sites ≤ most_sites
  pub stmts : All (λ site. length site.stmts ≤ most_stmts) plan.sites
  pub opens : All (λ o. length o.stmts ≤ most_stmts) plan.opens

-- a site has statements, and its address is that of one of the points
pub record IsSiteOf (points : List Point) (site : Site) : Type 0 where
  pub at : list_any (λ p. p.at == site.at) points ≡ true
  pub some : 0 < length site.stmts

-- What every plan over these points is within: the metric's own variable and at most two counters, and sites that are
-- limited, have statements, and ascend as the points do.
pub record IsPlanOver (points : List Point) (plan : Plan) : Type 0 where
  pub vars : (1 ≤ length plan.vars) × (length plan.vars ≤ 3)
  pub limited : IsLimited plan
  pub sites : AllByRecursion (IsSiteOf points) plan.sites
  pub ascend : IsStrictlyIncreasing (map (λ p. p.at) points) → IsStrictlyIncreasing (map (λ s. s.at) plan.sites)
