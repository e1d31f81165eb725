-- For proofs alone: the pieces that are chosen at points.
use Rattle.std.specs.Prelude.{ℕ, ◌≡◌, ◌<◌, ◌==◌, ◌||◌, nat_lt, true, Some, Bool, if◌then◌else◌, List, [], ◌++◌, length, slice_get, slice_index_or, map, flat_map}
use Rattle.std.specs.List.{filter, find, list_any}
use Rattle.std.specs.List.Sorted.{IsStrictlyIncreasing}
use Rattle.std.specs.Option.{option_map}
use Rattle.pn_types.specs.declared.code.Point.{Point}
use Rattle.pn_types.specs.declared.code.Proc.{Proc}
use Rattle.pn_types.specs.declared.plan.Open.{Open}
use Rattle.pn_types.specs.declared.plan.Site.{Site}
use Rattle.pn_types.specs.declared.plan.Stmt.{Stmt}
use Rattle.mdl_ast.specs.declared.block.EventKind.TheVariants.{Entry, After, Return, Call}
use Rattle.mdl_plan.specs.Choosing.{is_chosen}
use Rattle.mdl_plan.specs.Scopes.{Scope}
use Rattle.mdl_plan.specs.Numbers.{AreNumbers, stmts_of_number}
use Rattle.mdl_plan.specs.Pieces.{Piece}
use Rattle.mdl_plan.specs.Statements.{Terms}
use Rattle.mdl_plan.specs.Plans.{is_crowded, open_if}
use Rattle.mdl_plan.specs.declared.fault.PlanFault.TheVariants.{NoConstraint, TooManySites, TooManyStmts}
use Rattle.mdl_plan.specs.declared.fault.PlanError.{PlanError}
use Rattle.mdl_plan.specs.declared.fault.PlanError.TheVariants as error
use Rattle.mdl_plan.specs.declared.planner.Planner.{Planner}
use Rattle.mdl_plan.specs.declared.chosen_pieces.ChosenPieces.{ChosenPieces}

-- these are the numbers of the pieces that are chosen
pub record AreChosen (s : Scope) (pieces : List Piece) (t : ChosenPieces) : Type 0 where
  pub entry : AreNumbers s.procs (is_chosen s.selected Entry) pieces t.entry
  pub after : AreNumbers s.procs (is_chosen s.selected After) pieces t.after
  pub ret : AreNumbers s.procs (is_chosen s.selected Return) pieces t.ret
  pub call : AreNumbers s.procs (is_chosen s.selected Call) pieces t.call

-- the numbers of a procedure, if they are wanted
abbrev pub numbers_if : Bool → List (List ℕ) → ℕ → List ℕ
numbers_if wanted lists q = if wanted then slice_index_or lists q [] else []

-- there is one
abbrev pub is_some_number : List ℕ → Bool
is_some_number l = nat_lt 0 (length l)

-- a piece is chosen at the point
abbrev pub has_numbers : ChosenPieces → Point → Bool
has_numbers t p =
    is_some_number (numbers_if p.entry t.entry p.proc_no)
    || (is_some_number (numbers_if p.after t.after p.proc_no)
    || (is_some_number (numbers_if p.ret t.ret p.proc_no)
    || is_some_number (numbers_if p.call t.call p.proc_no)))

-- pieces are chosen at points of the first n procedures alone
abbrev pub IsOver : ℕ → ChosenPieces → Type 0
IsOver n t = (p : Point) → has_numbers t p ≡ true → p.proc_no < n

-- The places ascend, and those of the procedure of each point at which a piece is chosen are among them.
pub record HavePlaces (t : ChosenPieces) (by_proc : List (List ℕ)) (places : List ℕ) : Type 0 where
  pub ascend : IsStrictlyIncreasing places
  pub each : (p : Point) (i : ℕ) → has_numbers t p ≡ true
      → list_any (λ j. j == i) (slice_index_or by_proc p.proc_no []) ≡ true → list_any (λ j. j == i) places ≡ true

-- the numbers of the pieces that are chosen at the point, kind by kind
abbrev pub numbers_at : ChosenPieces → Point → List ℕ
numbers_at t p =
    numbers_if p.entry t.entry p.proc_no
    ++ (numbers_if p.after t.after p.proc_no
    ++ (numbers_if p.ret t.ret p.proc_no
    ++ numbers_if p.call t.call p.proc_no))

-- the site of a point with the statements of its pieces
abbrev pub site_with : Terms → List Piece → ChosenPieces → Point → Site
site_with terms pieces t p = record { at = p.at; stmts = flat_map (stmts_of_number terms pieces) (numbers_at t p) }

-- the sites of the points at which a piece is chosen
abbrev pub sites_with : Terms → List Piece → ChosenPieces → List Point → List Site
sites_with terms pieces t points = map (site_with terms pieces t) (filter (has_numbers t) points)

-- the procedure of a point with the statements of its entry pieces
abbrev pub open_with : Terms → List Piece → ChosenPieces → List Proc → Point → List Open
open_with terms pieces t procs p =
    open_if (flat_map (stmts_of_number terms pieces) (numbers_if p.entry t.entry p.proc_no))
    (slice_get procs p.proc_no)

abbrev pub opens_with : Terms → List Piece → ChosenPieces → List Proc → List Point → List Open
opens_with terms pieces t procs points = flat_map (open_with terms pieces t procs) points

-- why these sites are none of a plan, unless memory runs out
abbrev pub PlanRefuses : PlanError → List Site → Type 0
PlanRefuses error.NoMemory sites = Unit {0}
PlanRefuses (error.Fault (NoConstraint axis)) sites = ⊥
PlanRefuses (error.Fault (TooManySites n)) sites = ⊥
PlanRefuses (error.Fault (TooManyStmts at)) sites = option_map (λ site. site.at) (find is_crowded sites) ≡ Some at

-- what a planner adds for piece number i, its sites, and what is open
abbrev pub stmts_in : Planner → ℕ → List Stmt
stmts_in p i = stmts_of_number p.terms p.pieces.items i

abbrev pub sites_in : Planner → List Point → List Site
sites_in p points = sites_with p.terms p.pieces.items p.chosen points

abbrev pub opens_in : Planner → List Proc → List Point → List Open
opens_in p procs points = opens_with p.terms p.pieces.items p.chosen procs points
