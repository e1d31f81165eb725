use Rattle.std.proofs.Common.{◌≡◌, map, take}
use Rattle.w3_search.specs.Refining.{axes_named}
use Rattle.w3_search.proofs.hypotheses.axes.Given as goal

abbrev pub invariant-loop-hypothesis : goal.invariant-loop-hypothesis
invariant-loop-hypothesis l = l.axes.items ≡ map (λ h. axes_named h.axes) (take l.hypothesis-index l.hypotheses)
