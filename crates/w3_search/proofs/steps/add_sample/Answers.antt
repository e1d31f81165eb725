use Rattle.std.proofs.Common.{◌<◌, ◌∙◌, sym, ap, subst, arith, set, cond}
use Rattle.w3_search.specs.declared.node.Node.{Node}
use Rattle.w3_search.specs.History.{AreFew}
use Rattle.w3_search.specs.Nodes.{sampled}
use Rattle.w3_search.specs.Steps.{with_verdict, may_take}
use Rattle.w3_search.proofs.Changes.{changed_past, changed_set, few_sampled, open_got}
use Rattle.w3_search.proofs.steps.add_sample.Goals as goal

pub take-requires : goal.take-requires
take-requires c = record {
  few = open_got (λ (n : Node). n.seen < c.args.window) c.args.nodes.now c.args.sample.now.node c.index-nodes-sample.result c.requires.few c.if-sample-nodes.true;
}

pub returns-then-sample-nodes-clause-nodes : goal.returns-then-sample-nodes-clause-nodes
returns-then-sample-nodes-clause-nodes c =
    let s = c.args.sample.now in
    ap (set c.args.nodes.now s.node) c.take.ensures
    ∙ changed_set (λ n. cond (may_take s n) (with_verdict c.args.hypotheses.now c.args.window (sampled c.args.t s n)) n) c.args.nodes.now s.node c.index-nodes-sample.result

pub returns-then-sample-nodes-clause-few : goal.returns-then-sample-nodes-clause-few
returns-then-sample-nodes-clause-few c =
    let s = c.args.sample.now in
    subst (AreFew c.args.window)
    (sym (ap (set c.args.nodes.now s.node) c.take.ensures
    ∙ changed_set (λ n. cond (may_take s n) (with_verdict c.args.hypotheses.now c.args.window (sampled c.args.t s n)) n) c.args.nodes.now s.node c.index-nodes-sample.result))
    (few_sampled c.args.hypotheses.now c.args.window c.args.t s c.args.nodes.now c.requires.few)

pub returns-else-sample-nodes-clause-nodes : goal.returns-else-sample-nodes-clause-nodes
returns-else-sample-nodes-clause-nodes c =
    let s = c.args.sample.now in
    sym (changed_past (λ n. cond (may_take s n) (with_verdict c.args.hypotheses.now c.args.window (sampled c.args.t s n)) n) c.args.nodes.now s.node (omega (arith, c.if-sample-nodes.false)))
