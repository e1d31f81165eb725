use Rattle.std.proofs.Common.{◌≡◌, take, map}
use Rattle.elf_form.specs.Segments.{segment_of, by_address}
use Rattle.elf_load.proofs.segments.segments_of.Given as goal

abbrev pub invariant-loop-load : goal.invariant-loop-load
invariant-loop-load l = l.segments.items ≡ map (segment_of l.bytes) (take l.load-index (by_address l.loads))
