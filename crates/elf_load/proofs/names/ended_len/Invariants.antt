use Rattle.std.proofs.Common.{◌≡◌, ◌≤◌, false, length}
use Rattle.elf_form.specs.Symbols.{is_ended}
use Rattle.elf_load.proofs.names.ended_len.Given as goal

abbrev pub invariant-loop-end : goal.invariant-loop-end
invariant-loop-end l = record { within : l.end ≤ length l.strings; none : is_ended l.strings l.end ≡ false }

abbrev pub decreases-loop-end : goal.decreases-loop-end
decreases-loop-end l = l.end
