use Rattle.std.proofs.Common.{◌≡◌, map}
use Rattle.mdl_parse.specs.ButLines.{insertion_but_lines}
use Rattle.mdl_shipped.proofs.lines.block_but_lines.Given as goal

abbrev pub invariant-loop-insertion : goal.invariant-loop-insertion
invariant-loop-insertion l = l.insertions.items ≡ map insertion_but_lines l.yielded
