use Rattle.std.proofs.Common.{◌≡◌, ◌++◌}
use Rattle.report_picture.specs.Html.{ends}
use Rattle.report_picture.proofs.html.add_ends.Given as goal

-- the ends so far
abbrev pub invariant-loop : goal.invariant-loop
invariant-loop l = l.out.items ≡ l.initial.out.items ++ ends l.counter
