use Rattle.std.proofs.Common.{◌≡◌, map}
use Rattle.mdl_parse.specs.ButLines.{block_but_lines}
use Rattle.mdl_shipped.proofs.lines.blocks_but_lines.Given as goal

abbrev pub invariant-loop-block : goal.invariant-loop-block
invariant-loop-block l = l.all.items ≡ map block_but_lines l.yielded
