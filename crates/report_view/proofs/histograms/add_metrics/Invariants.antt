use Rattle.std.proofs.Common.{◌≡◌, ◌++◌, [], drop}
use Rattle.report_view.specs.Histograms.{metrics_from}
use Rattle.report_view.proofs.histograms.add_metrics.Given as goal

-- what is written, and the metrics that are left, make all
abbrev pub invariant-loop-part : goal.invariant-loop-part
invariant-loop-part l =
    l.out.items ++ metrics_from l.ascii l.columns l.shown l.mentioned (drop l.part-index l.shown)
    ≡ l.initial.out.items ++ metrics_from l.ascii l.columns l.shown [] l.shown
