use Rattle.std.proofs.Common.{◌≡◌, take}
use Rattle.session.specs.Seen.{pair_parts}
use Rattle.session.proofs.parts.shown_parts.Given as goal

abbrev pub invariant-loop-pair : goal.invariant-loop-pair
invariant-loop-pair l = l.parts.items ≡ pair_parts l.inputs (take l.pair-index l.pairs)
