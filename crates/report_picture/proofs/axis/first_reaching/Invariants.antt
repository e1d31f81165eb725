use Rattle.std.proofs.Common.{◌≡◌, drop}
use Rattle.report_picture.specs.Axis.{first_reaching}
use Rattle.report_picture.proofs.axis.first_reaching.Given as goal

-- none of the steps so far reaches
abbrev pub invariant-loop-step : goal.invariant-loop-step
invariant-loop-step l = first_reaching l.end (drop l.step-index l.steps) ≡ first_reaching l.end l.steps
