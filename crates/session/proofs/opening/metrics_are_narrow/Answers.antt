use Rattle.std.proofs.Common.{◌≡◌, Some, refl, sym, subst, length}
use Rattle.std.specs.Prelude.{slice_get}
use Rattle.std.specs.List.{AllByRecursion}
use Rattle.std.proofs.lemmas.Option.{slice_get_read}
use Rattle.session.specs.Given.{IsNarrowMetric}
use Rattle.session.proofs.Readiness.{drop_all, drop_step}
use Rattle.session.proofs.opening.metrics_are_narrow.Goals as goal

pub loop-metric-preserved : goal.loop-metric-preserved
loop-metric-preserved c rest =
    let all = c.args.metrics.now in
    let at : slice_get all c.loop-metric.metric-index ≡ Some c.metric-item.result = slice_get_read all (length all) c.loop-metric.metric-index c.metric-item.result refl c.loop-metric-test.true c.metric-item.is in
    c.loop-metric.invariant (subst (AllByRecursion IsNarrowMetric) (sym (drop_step all c.loop-metric.metric-index c.metric-item.result at)) (c.begun_at-first.ensures, rest))

pub returns : goal.returns
returns c =
    let all = c.args.metrics.now in
    c.loop-metric.invariant (subst (AllByRecursion IsNarrowMetric) (sym (drop_all all c.loop-metric.metric-index c.loop-metric-test.false)) tt)
