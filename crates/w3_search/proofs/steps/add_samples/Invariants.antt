use Rattle.std.proofs.Common.{◌≡◌, drop}
use Rattle.w3_search.specs.History.{AreFew}
use Rattle.w3_search.specs.Steps.{with_samples}
use Rattle.w3_search.proofs.steps.add_samples.Given as goal

abbrev pub invariant-loop-sample : goal.invariant-loop-sample
invariant-loop-sample l = record {
  nodes : with_samples l.hypotheses l.window l.t (drop l.sample-index l.samples) l.nodes ≡ with_samples l.hypotheses l.window l.t l.samples l.fn.nodes;
  few : AreFew l.window l.nodes;
}
