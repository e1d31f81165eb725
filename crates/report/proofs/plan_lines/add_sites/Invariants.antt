use Rattle.std.proofs.Common.{◌≡◌, ◌++◌, drop, flat_map}
use Rattle.report.specs.PlanTexts.{site_lines}
use Rattle.report.proofs.plan_lines.add_sites.Given as goal

-- what is written, and the lines that are left, make all the lines
abbrev pub invariant-loop-site : goal.invariant-loop-site
invariant-loop-site l = l.out.items ++ flat_map (site_lines l.vars) (drop l.site-index l.sites) ≡ l.initial.out.items ++ flat_map (site_lines l.vars) l.sites
