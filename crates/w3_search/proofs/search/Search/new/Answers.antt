use Rattle.std.proofs.Common.{sym, subst, ap, ◌∙◌}
use Rattle.w3_search.specs.Refining.{roots}
use Rattle.w3_search.specs.History.{IsHistory}
use Rattle.w3_search.specs.Steps.{SearchData, with_roots}
use Rattle.w3_search.proofs.Whole.{new_keeps}
use Rattle.w3_search.proofs.search.Search.new.Goals as goal

pub invariant_of-result : goal.invariant_of-result
invariant_of-result c =
    subst IsHistory (sym (c.add_roots.ensures ∙ ap (λ (s : SearchData). record s { nodes = with_roots s.present (roots s.rules.hypotheses) s.nodes }) c.in_ok-state.ensures))
    (new_keeps (record { hypotheses = c.args.hypotheses.now; decl = c.args.decl.now; phases = c.args.phases.now; tree = c.args.tree.now }))
