use Rattle.std.proofs.Common.{◌≡◌, ◌≤◌, ◌*◌, take}
use Rattle.elf_form.specs.Segments.{total_size}
use Rattle.elf_load.proofs.segments.total_size.Given as goal

abbrev pub invariant-loop-load : goal.invariant-loop-load
invariant-loop-load l = record { total : l.total ≡ total_size (take l.load-index l.loads); bound : l.total ≤ l.load-index * 0x60000000 }
