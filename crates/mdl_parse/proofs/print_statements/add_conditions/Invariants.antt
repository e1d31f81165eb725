use Rattle.std.proofs.Common.{◌≡◌, ◌++◌, drop}
use Rattle.std.specs.List.{flat_map}
use Rattle.mdl_parse.specs.Grammar.{condition_words}
use Rattle.mdl_parse.proofs.print_statements.add_conditions.Given as goal

abbrev pub invariant-loop-condition : goal.invariant-loop-condition
invariant-loop-condition l = l.line ++ flat_map condition_words (drop l.condition-index l.conditions) ≡ l.initial.line ++ flat_map condition_words l.conditions
