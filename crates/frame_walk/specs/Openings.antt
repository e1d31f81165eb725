-- With what values the variables of a plan begin for a hart, where its instrument is armed.
use Rattle.std.specs.Prelude.{ℕ, not, nat_lt, if◌then◌else◌, Bool, true, Option, Some, None, List, [], ◌∷◌, ◌++◌, find}
use Rattle.pn_types.specs.declared.plan.Stmt.{Stmt}
use Rattle.pn_types.specs.declared.plan.Var.{Var}
use Rattle.rv_word.specs.Memory.{in_range}
use Rattle.tramp_spec.specs.Slots.{initials}
use Rattle.tramp_spec.specs.Values.{values_after}
use Rattle.pn_types.specs.declared.plan.Open.{Open}
use Rattle.frame_walk.specs.Walks.{Walk}

-- an address lies in the range of an Open
abbrev pub holds : ℕ → Open → Bool
holds a o = in_range o.start o.len a

-- the Open in whose range an address lies
abbrev pub open_at : List Open → ℕ → Option Open
open_at opens a = find (holds a) opens

-- the statements of an Open, where there is one of which the test holds
abbrev pub stmts_where : (Open → Bool) → Option Open → List Stmt
stmts_where test None = []
stmts_where test (Some o) = if test o then o.stmts else []

-- the pc acts where it is above the start of its Open: at the start the hart has yet to come by the entry's site
abbrev pub of_pc : List Open → ℕ → List Stmt
of_pc opens pc = stmts_where (λ o. nat_lt o.start pc) (open_at opens pc)

-- the caller's address acts where its Open isn't that of the pc
abbrev pub of_caller : List Open → ℕ → Option ℕ → List Stmt
of_caller opens pc None = []
of_caller opens pc (Some a) = stmts_where (λ o. not (holds pc o)) (open_at opens a)

-- calls act, from the last to the first
abbrev pub of_calls : List Open → List ℕ → List Stmt
of_calls opens [] = []
of_calls opens (a ∷ rest) = of_calls opens rest ++ stmts_where (λ o. true) (open_at opens a)

-- the statements of all addresses of a walk that act, from the last to the first
abbrev pub entry_statements : List Open → Option Walk → List Stmt
entry_statements opens None = []
entry_statements opens (Some w) = of_calls opens w.calls ++ (of_caller opens w.pc w.caller ++ of_pc opens w.pc)

-- The opening values: from each variable's `initially` on these statements act. There are no arguments, so that a statement with a
-- condition on one doesn't act.
abbrev pub opening : List Open → Option Walk → List Var → List ℕ
opening opens w vars = values_after (entry_statements opens w) [] (initials vars)
