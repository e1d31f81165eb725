-- A procedure has no more entry statements than the site of its entry.
use Rattle.std.proofs.Common.{◌≡◌, zero, suc, ◌≤◌, cond, Bool, true, false, nat_lt, Option, Some, None, List, [], ◌∷◌, ◌++◌, length, flat_map, slice_get, refl, subst, arith}
use Rattle.std.specs.List.{find, All}
use Rattle.std.proofs.lemmas.Bool.{ltb-false}
use Rattle.std.proofs.lemmas.List.{length-append}
use Rattle.std.proofs.lemmas.List.Elements.{All-append}
use Rattle.pn_types.specs.declared.code.Point.{Point}
use Rattle.pn_types.specs.declared.code.Proc.{Proc}
use Rattle.pn_types.specs.declared.plan.Open.{Open}
use Rattle.pn_types.specs.declared.plan.Stmt.{Stmt}
use Rattle.mdl_ast.specs.declared.block.EventKind.{EventKind}
use Rattle.mdl_ast.specs.declared.block.EventKind.TheVariants.{Entry, After, Return, Call}
use Rattle.mdl_plan.specs.Choosing.{kind_if}
use Rattle.mdl_plan.specs.Plans.{PlanScope, has_stmts, is_crowded, open_at, open_if, opens_of, site_at, sites_of, stmts_at, stmts_for}

abbrev IsFew : Open → Type 0
IsFew o = length o.stmts ≤ 32

all_none : All IsFew []
all_none k d h = absurd (omega arith)

all_one : (o : Open) → IsFew o → All IsFew (o ∷ [])
all_one o few zero d h = few
all_one o few (suc k) d h = absurd (omega arith)

few_if : (stmts : List Stmt) (o : Option Proc) → length stmts ≤ 32 → All IsFew (open_if stmts o)
few_if stmts None few = all_none
few_if stmts (Some p) few = go (nat_lt 0 (length stmts))
  where
    go : (b : Bool) → All IsFew (cond b (record { start = p.start; len = p.len; stmts = stmts } ∷ []) [])
    go true = all_one (record { start = p.start; len = p.len; stmts = stmts }) few
    go false = all_none

-- of an entry's statements the entry statements are the first
few_entry : (s : PlanScope) (p : Point) → length (stmts_at s p) ≤ 32 → p.entry ≡ true → length (stmts_for s p.proc_no (slice_get s.procs p.proc_no) Entry) ≤ 32
few_entry s p few e =
    let each : EventKind → List Stmt = stmts_for s p.proc_no (slice_get s.procs p.proc_no) in
    let others : List EventKind = kind_if p.after After ++ (kind_if p.ret Return ++ kind_if p.call Call) in
    let h : length (flat_map each (kind_if true Entry ++ others)) ≤ 32 = subst (λ (b : Bool). length (flat_map each (kind_if b Entry ++ others)) ≤ 32) e few in
    omega (arith, length-append (each Entry) (flat_map each others))

few_at : (s : PlanScope) (p : Point) → length (stmts_at s p) ≤ 32 → All IsFew (open_at s p)
few_at s p few = go p.entry refl
  where
    go : (b : Bool) → p.entry ≡ b → All IsFew (cond b (open_if (stmts_for s p.proc_no (slice_get s.procs p.proc_no) Entry) (slice_get s.procs p.proc_no)) [])
    go false e = all_none
    go true e = few_if (stmts_for s p.proc_no (slice_get s.procs p.proc_no) Entry) (slice_get s.procs p.proc_no) (few_entry s p few e)

-- neither the first point's site is crowded, nor one of the others
not_crowded : (s : PlanScope) (p : Point) (points : List Point) → find is_crowded (sites_of s (p ∷ points)) ≡ None → (length (stmts_at s p) ≤ 32) × (find is_crowded (sites_of s points) ≡ None)
not_crowded s p points none = go (has_stmts (site_at s p)) refl none
  where
    here : (c : Bool) → is_crowded (site_at s p) ≡ c → cond c (Some (site_at s p)) (find is_crowded (sites_of s points)) ≡ None → (length (stmts_at s p) ≤ 32) × (find is_crowded (sites_of s points) ≡ None)
    here true e h = absurd cc
    here false e h = (omega (arith, ltb-false 32 (length (stmts_at s p)) e), h)

    go : (b : Bool) → has_stmts (site_at s p) ≡ b → find is_crowded (cond b (site_at s p ∷ sites_of s points) (sites_of s points)) ≡ None → (length (stmts_at s p) ≤ 32) × (find is_crowded (sites_of s points) ≡ None)
    go true e h = here (is_crowded (site_at s p)) refl h
    go false e h = (omega (arith, ltb-false 0 (length (stmts_at s p)) e), h)

-- what is open has few statements where no site is crowded
pub few_opens : (s : PlanScope) (points : List Point) → find is_crowded (sites_of s points) ≡ None → All (λ o. length o.stmts ≤ 32) (opens_of s points)
few_opens s [] none = all_none
few_opens s (p ∷ points) none =
    let h = not_crowded s p points none in
    All-append IsFew (open_at s p) (opens_of s points) (few_at s p h.0) (few_opens s points h.1)
