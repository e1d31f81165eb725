use Rattle.std.proofs.Common.{◌≡◌, ◌++◌, drop}
use Rattle.report_diff.specs.Wishes.{lone_wishes}
use Rattle.report_diff.proofs.wishes.add_lone_wishes.Given as goal

-- what is written, and the lines that are left, make all the lines
abbrev pub invariant-loop-found : goal.invariant-loop-found
invariant-loop-found l = l.out.items ++ lone_wishes l.report l.parts (drop l.found-index l.matches) ≡ l.initial.out.items ++ lone_wishes l.report l.parts l.matches
