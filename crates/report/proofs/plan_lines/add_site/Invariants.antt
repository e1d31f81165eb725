use Rattle.std.proofs.Common.{◌≡◌, ◌++◌, drop, flat_map}
use Rattle.report.specs.PlanTexts.{stmt_line}
use Rattle.report.proofs.plan_lines.add_site.Given as goal

-- what is written, and the lines that are left, make all the lines
abbrev pub invariant-loop-stmt : goal.invariant-loop-stmt
invariant-loop-stmt l = l.out.items ++ flat_map (stmt_line l.vars l.site.at) (drop l.stmt-index l.site.stmts) ≡ l.initial.out.items ++ flat_map (stmt_line l.vars l.site.at) l.site.stmts
