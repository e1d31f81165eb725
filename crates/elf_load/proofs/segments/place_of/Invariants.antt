use Rattle.std.proofs.Common.{◌≡◌, ◌++◌, take, drop}
use Rattle.elf_form.specs.Segments.{with_load}
use Rattle.elf_load.proofs.segments.place_of.Given as goal

abbrev pub invariant-loop-i : goal.invariant-loop-i
invariant-loop-i l = take l.i l.sorted ++ with_load (drop l.i l.sorted) l.load ≡ with_load l.sorted l.load
