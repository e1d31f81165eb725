use Rattle.std.proofs.Common.{◌≡◌, map, take}
use Rattle.session.specs.Seen.{hart_seen}
use Rattle.session.proofs.parts.hart_parts.Given as goal

abbrev pub invariant-loop-number : goal.invariant-loop-number
invariant-loop-number l = l.parts.items ≡ take l.number (map (hart_seen l.settings.budget l.machine.state.core) l.machine.state.core.harts)
