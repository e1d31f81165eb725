use Rattle.std.proofs.Common.{◌≡◌}
use Rattle.std.specs.Prelude.{drop}
use Rattle.session_spec.specs.Searches.{number_from}
use Rattle.session.proofs.node_candidates.number_named.Given as goal

abbrev pub invariant-loop-metric : goal.invariant-loop-metric
invariant-loop-metric l = (l.number ≡ l.metric-index) × (number_from l.number l.fn.name (drop l.metric-index l.fn.metrics) ≡ number_from 0 l.fn.name l.fn.metrics)
