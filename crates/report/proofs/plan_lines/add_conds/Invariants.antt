use Rattle.std.proofs.Common.{◌≡◌, ◌++◌, drop, flat_map}
use Rattle.report.specs.PlanTexts.{cond_text}
use Rattle.report.proofs.plan_lines.add_conds.Given as goal

-- what is written, and the conditions that are left, make all the conditions
abbrev pub invariant-loop-cond : goal.invariant-loop-cond
invariant-loop-cond l = l.out.items ++ flat_map (cond_text l.vars) (drop l.cond-index l.conds) ≡ l.initial.out.items ++ flat_map (cond_text l.vars) l.conds
