use Rattle.std.proofs.Common.{◌≡◌, filter, not, take, bytes_eq}
use Rattle.directives.proofs.change.other_axes.Given as goal

abbrev pub invariant-loop-other : goal.invariant-loop-other
invariant-loop-other l = l.others.items ≡ filter (λ other. not (bytes_eq l.axis other)) (take l.other-index l.axes)
