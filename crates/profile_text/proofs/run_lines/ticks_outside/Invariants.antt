use Rattle.std.proofs.Common.{◌≡◌, ◌≤◌, take}
use Rattle.std.specs.Prelude.{count_by}
use Rattle.profile_text.specs.Totals.{stopped_outside}
use Rattle.profile_text.proofs.run_lines.ticks_outside.Given as goal

-- how many of the harts so far
abbrev pub invariant-loop-stop : goal.invariant-loop-stop
invariant-loop-stop l = (l.count ≡ count_by (stopped_outside l.text.image.now) (take l.stop-index l.text.profile.now.counts.stops)) × (l.count ≤ l.stop-index)
