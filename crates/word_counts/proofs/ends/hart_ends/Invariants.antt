use Rattle.std.proofs.Common.{◌≡◌, take}
use Rattle.std.specs.Prelude.{map}
use Rattle.word_counts.specs.Stops.{end_of_stop}
use Rattle.word_counts.proofs.ends.hart_ends.Given as goal

abbrev pub invariant-loop-stop : goal.invariant-loop-stop
invariant-loop-stop l = l.ends.items ≡ map end_of_stop (take l.stop-index l.stops)
