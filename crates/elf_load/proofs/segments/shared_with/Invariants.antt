use Rattle.std.proofs.Common.{◌≡◌, drop}
use Rattle.elf_form.specs.Segments.{lower, shared_with}
use Rattle.elf_load.proofs.segments.shared_with.Given as goal

abbrev pub invariant-loop-other : goal.invariant-loop-other
invariant-loop-other l = lower l.lowest (shared_with l.load (drop l.other-index l.others)) ≡ shared_with l.load l.others
