use Rattle.std.proofs.Common.{◌≡◌, ◌<◌, ℕ, List, length, sym, ap, subst, ◌∙◌}
use Rattle.std.specs.List.{AllByRecursion}
use Rattle.w3_search.specs.declared.node.Node.{Node}
use Rattle.w3_search.specs.Index.{changed_each}
use Rattle.w3_search.specs.Nodes.{active_of, node_at_end, is_active, is_waiting}
use Rattle.w3_search.proofs.Ends.{ends_by_lists, length_each}
use Rattle.w3_search.proofs.Numbering.{numbers_within}
use Rattle.w3_search.proofs.steps.end_open.Goals as goal

pub end_each-requires : goal.end_each-requires
end_each-requires c =
    subst (AllByRecursion (λ i. i < length c.args.nodes.now)) (sym c.requires.waits) (numbers_within (λ n. is_waiting n.state) c.args.nodes.now)

pub end_each-requires-2 : goal.end_each-requires-2
end_each-requires-2 c =
    let ns = c.args.nodes.now in
    let len : length c.end_each.new.nodes ≡ length ns = ap (λ (l : List Node). length l) c.end_each.ensures ∙ length_each node_at_end c.args.waiting.now ns in
    subst (λ (k : ℕ). AllByRecursion (λ i. i < k) c.args.active.now) (sym len)
    (subst (AllByRecursion (λ i. i < length ns)) (sym c.requires.under_test) (numbers_within (λ n. is_active n.state) ns))

pub returns : goal.returns
returns c =
    let ns = c.args.nodes.now in
    c.end_each-2.ensures
    ∙ ap (changed_each node_at_end c.args.active.now) c.end_each.ensures
    ∙ ap (λ (is : List ℕ). changed_each node_at_end is (changed_each node_at_end c.args.waiting.now ns)) c.requires.under_test
    ∙ ap (λ (is : List ℕ). changed_each node_at_end (active_of ns) (changed_each node_at_end is ns)) c.requires.waits
    ∙ ends_by_lists ns
