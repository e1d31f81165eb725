use Rattle.std.proofs.Common.{◌≡◌, ◌+◌, ◌<◌, ◌∷◌, ℕ, List, drop, get_or, length, set, sym, ap, subst, ◌∙◌}
use Rattle.std.specs.List.{AllByRecursion}
use Rattle.std.proofs.lemmas.List.{drop_more}
use Rattle.w3_search.specs.Nodes.{node_at_end}
use Rattle.w3_search.specs.Index.{changed_each}
use Rattle.w3_search.proofs.Changes.{changed_set}
use Rattle.w3_search.proofs.steps.end_each.Goals as goal

pub loop-number-preserved : goal.loop-number-preserved
loop-number-preserved c =
    let ks = c.args.numbers.now in
    let ns = c.loop-number.nodes in
    let i = c.loop-number.number-index in
    let k = get_or ks i 0 in
    let here : drop i ks ≡ k ∷ drop (i + 1) ks = drop_more ks i 0 c.loop-number-test.true in
    record {
      nodes = ap (changed_each node_at_end (drop (i + 1) ks)) (ap (set ns k) c.end.ensures ∙ changed_set node_at_end ns k c.index-nodes-number.result)
          ∙ sym (ap (λ (is : List ℕ). changed_each node_at_end is ns) here)
          ∙ c.loop-number.invariant.nodes;
      below = (subst (AllByRecursion (λ j. j < length c.args.nodes.now)) here c.loop-number.invariant.below).1;
    }
