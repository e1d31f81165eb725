use Rattle.std.proofs.Common.{◌≡◌, drop}
use Rattle.std.specs.Prelude.{fold}
use Rattle.elf_form.specs.Segments.{with_load, by_address}
use Rattle.elf_load.proofs.segments.by_address.Given as goal

abbrev pub invariant-loop-load : goal.invariant-loop-load
invariant-loop-load l = fold with_load l.sorted.items (drop l.load-index l.loads) ≡ by_address l.loads
