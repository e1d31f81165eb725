use Rattle.std.proofs.Common.{◌≡◌, ◌≢◌, ◌≤◌, ◌++◌, ◌∷◌, [], OnOk, Option, Some, List, Bool, true, nat_lt, cond, length, slice_get, vec_len, sym, ap, ◌∙◌, subst, arith, lt-ltb}
use Rattle.std.proofs.lemmas.Bool.{eqb-false}
use Rattle.std.proofs.lemmas.List.{append-nil}
use Rattle.std.proofs.lemmas.Option.{slice_get_past, slice_get-get_or}
use Rattle.pn_types.specs.declared.code.Proc.{Proc}
use Rattle.pn_types.specs.declared.plan.Open.{Open}
use Rattle.mdl_plan.specs.Plans.{open_if}
use Rattle.mdl_plan.proofs.planner.add_busy.Goals as goal

pub returns-in-None : goal.returns-in-None
returns-in-None c =
    let opens = c.args.opens.now.items in
    let stmts = c.args.stmts.items in
    let past : length c.args.procs.now ≤ c.args.proc_no = c.in-None.ensures.lookup.3 in
    sym (ap (λ (o : Option Proc). opens ++ open_if stmts o) (slice_get_past c.args.procs.now c.args.proc_no past) ∙ append-nil opens)

pub returns-in-Some : goal.returns-in-Some
returns-in-Some c =
    let opens = c.args.opens.now.items in
    let stmts = c.args.stmts.items in
    let procs = c.args.procs.now in
    let range = c.in-Some.range.now in
    let there : slice_get procs c.args.proc_no ≡ Some range =
    slice_get-get_or procs c.args.proc_no range c.in-Some.ensures.lookup.3.0 ∙ ap (λ (p : Proc). let o : Option Proc = Some p in o) (sym c.in-Some.ensures.lookup.1) in
    let busy : vec_len c.args.stmts ≢ 0 = eqb-false (vec_len c.args.stmts) 0 (sym c.is_empty.ensures ∙ c.if-is_empty.false) in
    let some : nat_lt 0 (length stmts) ≡ true = lt-ltb 0 (length stmts) (omega (arith, busy, c.args.stmts.ok)) in
    let one : open_if stmts (slice_get procs c.args.proc_no) ≡ record { start = range.start; len = range.len; stmts = stmts } ∷ [] =
    ap (open_if stmts) there ∙ ap (λ (b : Bool). cond b (record { start = range.start; len = range.len; stmts = stmts } ∷ []) []) some in
    subst (λ (l : List Open). OnOk c.add_range.result (c.add_range.new.opens.items ≡ opens ++ l)) (sym one) c.add_range.ensures
