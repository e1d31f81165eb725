use Rattle.std.proofs.Common.{◌≡◌, suc, ◌+◌, ◌-◌, length, arith}
use Rattle.mdl_check.proofs.Steps.{one_step}
use Rattle.mdl_check.proofs.ancestors.leads_back.Goals as goal

pub loop-step-preserved : goal.loop-step-preserved
loop-step-preserved c =
    let parents = c.args.parents.now in
    let left = length parents - (c.loop-step._step + 1) in
    let more : length parents - c.loop-step._step ≡ suc left = omega arith in
    cc (one_step parents (length parents - c.loop-step._step) left c.args.place c.in-Some.ancestor c.loop-step.next more c.in-Some.is c.if-ancestor-place.false, c.loop-step.invariant, c.parent_at-next-in-loop-step.ensures)
