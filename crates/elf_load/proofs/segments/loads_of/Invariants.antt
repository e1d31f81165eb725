use Rattle.std.proofs.Common.{◌≡◌, ◌++◌, drop}
use Rattle.elf_form.specs.Segments.{loads_from}
use Rattle.elf_load.proofs.segments.loads_of.Given as goal

abbrev pub invariant-loop-index : goal.invariant-loop-index
invariant-loop-index l = l.loads.items ++ loads_from l.index (drop l.index l.headers) ≡ loads_from 0 l.headers
