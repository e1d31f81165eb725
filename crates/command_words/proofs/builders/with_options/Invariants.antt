use Rattle.std.proofs.Common.{◌≡◌, drop, fold, map}
use Rattle.clap.specs.Words.{app_of, with_rule}
use Rattle.command_words.specs.Apps.{option_arg}
use Rattle.command_words.specs.Walked.{option_names}
use Rattle.command_words.proofs.builders.with_options.Given as goal

abbrev pub invariant-loop-name : goal.invariant-loop-name
invariant-loop-name l = fold with_rule (app_of l.command) (map option_arg (option_names (drop l.name-index l.names))) ≡ fold with_rule (app_of l.initial.command) (map option_arg (option_names l.names))
