use Rattle.std.proofs.Common.{◌≡◌, List}
use Rattle.resource_tree.specs.FocusTexts.{Part, AreParts, parts_text}
use Rattle.resource_tree.specs.Foci.{focus_of}
use Rattle.resource_tree.proofs.Parts.{Remains}
use Rattle.resource_tree.proofs.tree.Tree.named.Given as goal

abbrev pub invariant-loop-number : goal.invariant-loop-number
invariant-loop-number l = (ps : List Part) → AreParts ps → l.text ≡ parts_text ps → Remains l.self l.number l.focus l.rest (focus_of l.self ps)
