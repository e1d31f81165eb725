use Rattle.std.proofs.Common.{◌≡◌, drop}
use Rattle.elf_form.specs.Texts.{segment_around}
use Rattle.elf_load.proofs.text.segment_around.Given as goal

abbrev pub invariant-loop-load : goal.invariant-loop-load
invariant-loop-load l = segment_around (drop l.load-index l.loads) l.range ≡ segment_around l.loads l.range
