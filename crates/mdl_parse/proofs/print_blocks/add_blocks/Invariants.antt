use Rattle.std.proofs.Common.{◌≡◌, ◌++◌, drop}
use Rattle.std.specs.List.{flat_map}
use Rattle.mdl_parse.specs.Printing.{line_text, block_lines}
use Rattle.mdl_parse.proofs.print_blocks.add_blocks.Given as goal

abbrev pub invariant-loop-block : goal.invariant-loop-block
invariant-loop-block l =
    l.out.items ++ flat_map line_text (flat_map (block_lines l.level) (drop l.block-index l.blocks)) ≡ l.initial.out.items ++ flat_map line_text (flat_map (block_lines l.level) l.blocks)
