-- How harts ended, by how they stopped.
use Rattle.std.specs.Prelude.{Bool, true, false}
use Rattle.pn_types.specs.declared.stop.StopText.{StopText}
use Rattle.pn_types.specs.declared.stop.StopText.TheVariants.{Budget, Cut}
use Rattle.block_count.specs.declared.counts.HartStop.{HartStop}
use Rattle.word_flow.specs.declared.hart_end.HartEnd.{HartEnd}

-- the hart stopped: its run wasn't cut, and its budget isn't spent
abbrev pub is_stopped : StopText → Bool
is_stopped Cut = false
is_stopped Budget = false
is_stopped s = true

abbrev pub end_of_stop : HartStop → HartEnd
end_of_stop s = record { is_stopped = is_stopped s.stop; pc = s.pc }
