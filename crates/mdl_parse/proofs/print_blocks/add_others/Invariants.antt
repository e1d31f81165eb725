use Rattle.std.proofs.Common.{◌≡◌, ◌++◌, drop}
use Rattle.std.specs.List.{flat_map}
use Rattle.mdl_parse.specs.PrintParts.{others_words}
use Rattle.mdl_parse.proofs.print_blocks.add_others.Given as goal

abbrev pub invariant-loop-name : goal.invariant-loop-name
invariant-loop-name l =
    l.line ++ flat_map others_words (drop l.name-index l.names) ≡ l.initial.line ++ flat_map others_words l.names
