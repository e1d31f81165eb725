use Rattle.std.proofs.Common.{◌≡◌, ◌++◌, drop, flat_map}
use Rattle.report.specs.PlanTexts.{var_line}
use Rattle.report.proofs.plan_lines.add_vars.Given as goal

-- what is written, and the lines that are left, make all the lines
abbrev pub invariant-loop-var : goal.invariant-loop-var
invariant-loop-var l = l.out.items ++ flat_map var_line (drop l.var-index l.vars) ≡ l.initial.out.items ++ flat_map var_line l.vars
