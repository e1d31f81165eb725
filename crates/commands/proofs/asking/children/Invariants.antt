use Rattle.std.proofs.Common.{◌≡◌, map, take}
use Rattle.resource_tree.specs.Foci.{canonical, children}
use Rattle.commands.proofs.asking.children.Given as goal

-- the texts of the first children
abbrev pub invariant-loop-number : goal.invariant-loop-number
invariant-loop-number l = l.foci.items ≡ map (canonical l.tree) (take l.number (children l.tree l.focus l.axis))
