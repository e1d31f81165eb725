use Rattle.std.proofs.Common.{ap, sym, ◌∙◌, length, Option, Some, ℕ}
use Rattle.std.proofs.lemmas.List.FromFn.{length-map-range_with_len}
use Rattle.resource_tree.specs.Foci.{flat_children}
use Rattle.resource_tree.proofs.children.object_count.Goals as goal

pub returns-in-None : goal.returns-in-None
returns-in-None c = sym (ap (λ (node : Option ℕ). length (flat_children c.args.objects node)) c.in-None.is ∙ length-map-range_with_len Some 0 c.args.objects)
