use Rattle.std.proofs.Common.{◌≡◌, refl, Ok, Result, sym, subst}
use Rattle.mdl_plan.specs.Plans.{IndexedProgram, plan_of}
use Rattle.mdl_plan.specs.declared.fault.PlanFault.{PlanFault}
use Rattle.pn_types.specs.declared.plan.Plan.{Plan}
use Rattle.resource_tree.specs.Foci.{canonical}
use Rattle.commands.specs.Plans.{IsPlanText}
use Rattle.commands.proofs.planning.plan_at.Goals as goal

-- src/planning.rt:68:1
pub returns-in-Ok : goal.returns-in-Ok
returns-in-Ok c m there =
    let found = c.args.found in
    let focus = c.args.focus.now in
    let plan = c.in-Ok.plan in
    let due : plan_of found.checked.constraints m focus found.tree found.procs found.points ≡ Ok plan =
    subst (λ (x : IndexedProgram). plan_of found.checked.constraints m focus found.tree x.procs x.points ≡ Ok plan) c.in_ok-index.ensures (c.in-Ok.ensures.answer m there) in
    subst (λ (p : Result Plan PlanFault). IsPlanText c.args.name.now (canonical found.tree focus) p (Ok c.output.result)) (sym due)
    (rw c.output.ensures (rw c.in_ok-shown-in-Ok.ensures (rw c.bytes.ensures (rw c.bytes-in-Ok.ensures (rw c.predicted-words.ensures (rw c.in_ok-metric.ensures (rw c.in_ok-text.ensures.text refl)))))))
