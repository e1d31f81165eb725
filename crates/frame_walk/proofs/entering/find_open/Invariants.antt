use Rattle.std.proofs.Common.{◌≡◌, drop}
use Rattle.std.specs.Prelude.{find}
use Rattle.frame_walk.specs.Openings.{holds}
use Rattle.frame_walk.proofs.entering.find_open.Given as goal

-- the Open is among those that are left
abbrev pub invariant-loop-range : goal.invariant-loop-range
invariant-loop-range l = find (holds l.at) l.opens ≡ find (holds l.at) (drop l.range-index l.opens)
