use Rattle.std.proofs.Common.{◌≡◌, ℕ, ◌+◌, ◌<◌, List, drop, get_or, length, sym, ap, subst, ◌∙◌}
use Rattle.std.proofs.lemmas.List.{drop_more}
use Rattle.instrumented.specs.Data.{InstrumentedData}
use Rattle.instrumented.specs.Instrumented.{Instrumented}
use Rattle.session_spec.specs.declared.data.MetricFocusPair.{MetricFocusPair}
use Rattle.session_spec.specs.Verdicts.{tester_of}
use Rattle.session_pairs.specs.SampledPairs.{AreLive, dropped_by, dropped_tests}
use Rattle.session_pairs.proofs.Dropped.{shown_in}
use Rattle.session_pairs.proofs.Live.{live_dropped}
use Rattle.session_pairs.proofs.dropping.drop_tests.Goals as goal

-- a node more
one_more : (nodes : List ℕ) (ss : List MetricFocusPair) (m new : Instrumented) (i : ℕ) → i < length nodes → new ≡ dropped_by (tester_of m.placer (get_or nodes i 0) ss) m
    → dropped_tests (drop (i + 1) nodes) ss new ≡ dropped_tests (drop i nodes) ss m
one_more nodes ss m new i l e = ap (dropped_tests (drop (i + 1) nodes) ss) e ∙ sym (ap (λ (ns : List ℕ). dropped_tests ns ss m) (drop_more nodes i 0 l))

pub loop-node-preserved : goal.loop-node-preserved
loop-node-preserved c =
    let m = c.loop-node.machine.state in
    let new = c.drop_test.new.machine.state in
    let pairs = c.args.pairs.now.all.items in
    let live = c.args.pairs.now.live.items in
    let nodes = c.args.nodes.now in
    let i = c.loop-node.node-index in
    let o = tester_of m.placer (get_or nodes i 0) (shown_in pairs) in
    let before = c.loop-node.invariant in
    let to : new ≡ dropped_by o m = ap (λ (d : InstrumentedData). d.state) c.drop_test.ensures.machine in
    record {
      coming = one_more nodes (shown_in pairs) m new i c.loop-node-test.true to ∙ before.coming;
      ready = ap (λ (d : InstrumentedData). d.ready) c.drop_test.ensures.machine ∙ before.ready;
      core = c.drop_test.ensures.core ∙ before.core;
      live = subst (λ (x : Instrumented). AreLive x.placer pairs live) (sym to) (live_dropped m pairs live before.live o);
    }
