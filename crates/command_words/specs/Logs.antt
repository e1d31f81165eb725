-- Where a second text is to go: the log of a run, or what callgrind's tools read of a profile.
use Rattle.std.specs.Prelude.{List, [], ◌∷◌, Option, None, codes}
use Rattle.std.specs.Option.{option_and_then, option_or}
use Rattle.command_words.specs.Grammar.{Text, Given, given_in, taken_of}
use Rattle.command_words.specs.Commands.{form_of, command_named}
use Rattle.command_words.specs.Requests.{request_from}
use Rattle.command_words.specs.declared.commands.CommandName.{CommandName}

-- the value of `log` or of `callgrind`; no command has both
abbrev pub log_given : Given → Option Text
log_given given = option_or (given (codes "log")) (given (codes "callgrind"))

-- the same, where a command's values are those of a request
abbrev pub log_from : CommandName → Given → Option Text
log_from name given = option_and_then (λ request. log_given given) (request_from name given)

-- The value of `log` or of `callgrind` in words; none where they are no command, or give none.
abbrev pub log_of : List Text → Option Text
log_of [] = None
log_of (word ∷ words) =
    option_and_then (λ name. option_and_then (λ taken. log_from name (given_in taken)) (taken_of (form_of name) words)) (command_named word)
