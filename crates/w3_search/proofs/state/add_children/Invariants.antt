use Rattle.std.proofs.Common.{◌≡◌, drop}
use Rattle.w3_search.specs.Refining.{children}
use Rattle.w3_search.specs.Steps.{with_children}
use Rattle.w3_search.proofs.state.add_children.Given as goal

abbrev pub invariant-loop-i : goal.invariant-loop-i
invariant-loop-i l =
    with_children l.phase l.number (drop l.i (children l.hypotheses l.tree l.hypothesis l.focus)) l.nodes ≡ with_children l.phase l.number (children l.hypotheses l.tree l.hypothesis l.focus) l.fn.nodes
