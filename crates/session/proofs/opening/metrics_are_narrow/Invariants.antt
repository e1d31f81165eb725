use Rattle.std.specs.Prelude.{drop}
use Rattle.std.specs.List.{AllByRecursion}
use Rattle.session.specs.Given.{IsNarrowMetric}
use Rattle.session.proofs.opening.metrics_are_narrow.Given as goal

abbrev pub invariant-loop-metric : goal.invariant-loop-metric
invariant-loop-metric l = AllByRecursion IsNarrowMetric (drop l.metric-index l.fn.metrics) → AllByRecursion IsNarrowMetric l.fn.metrics
