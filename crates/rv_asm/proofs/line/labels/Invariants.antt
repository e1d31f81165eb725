use Rattle.std.proofs.Common.{◌≡◌, ◌++◌, length, map}
use Rattle.rv_asm.specs.Parsing.{labels_of}
use Rattle.rv_asm.proofs.line.labels.Given as goal

abbrev pub invariant-labels : goal.invariant-labels
invariant-labels l = (map (λ label. label.now) l.names.items ++ (labels_of l.rest).0, (labels_of l.rest).1) ≡ labels_of l.text

abbrev pub decreases-labels : goal.decreases-labels
decreases-labels l = length l.rest
