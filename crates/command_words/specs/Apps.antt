-- For proofs alone: the commands in clap's terms.
use Rattle.std.specs.Prelude.{true, ◌++◌, Some, map, fold}
use Rattle.clap.specs.Words.{App, Rule, new_app, new_rule, with_rule}
use Rattle.clap.specs.Simple.{on_top}
use Rattle.clap.specs.declared.builder.action.ArgAction.TheVariants.{Set}
use Rattle.command_words.specs.Grammar.{Text, Form}
use Rattle.command_words.specs.Commands.{form_of}
use Rattle.command_words.specs.declared.commands.CommandName.{CommandName}

abbrev pub place_arg : Text → Rule
place_arg name = record (new_rule name) { required = true; action = Some Set }

abbrev pub option_arg : Text → Rule
option_arg name = record (new_rule name) { long = Some name; action = Some Set }

abbrev pub bare_app : Text → App
bare_app name = on_top (λ s. record s { disable_help_flag = true; disable_version_flag = true }) (new_app name)

abbrev pub app_with : Form → App
app_with form = fold with_rule (bare_app form.word) (map place_arg form.places ++ map option_arg form.options)

abbrev pub app_for : CommandName → App
app_for name = app_with (form_of name)
