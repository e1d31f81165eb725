use Rattle.std.proofs.Common.{◌≡◌, ◌++◌, drop, map}
use Rattle.report_view.specs.Histograms.{of_metric}
use Rattle.report_view.proofs.histograms.of_metric.Given as goal

-- what is found, and what is left, make all of the metric
abbrev pub invariant-loop-part : goal.invariant-loop-part
invariant-loop-part l = map (λ part. part.now) l.found.items ++ of_metric l.name (drop l.part-index l.shown) ≡ of_metric l.name l.shown
