use Rattle.std.proofs.Common.{◌≡◌, map, take}
use Rattle.session.specs.Parts.{refused_part}
use Rattle.session.proofs.parts.refused_parts.Given as goal

abbrev pub invariant-loop-wish : goal.invariant-loop-wish
invariant-loop-wish l = l.parts.items ≡ map (refused_part l.inputs) (take l.wish-index l.refused)
