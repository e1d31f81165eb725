use Rattle.std.proofs.Common.{◌∙◌, List, ap, find}
use Rattle.std.specs.Prelude.{option_map}
use Rattle.std.specs.Str.{bytes_eq}
use Rattle.pd_words.specs.Options.{TypedCommand}
use Rattle.pd_words.specs.Seen.{command_seen}
use Rattle.pd_words.proofs.Mapped.{find_map}
use Rattle.pd_words.proofs.commands.command_named.Goals as goal

pub returns : goal.returns
returns c =
    ap (option_map command_seen) c.first_named.ensures
    ∙ find_map (λ command. bytes_eq command.word c.args.word.now) command_seen c.all_commands.result.now
    ∙ ap (λ (commands : List TypedCommand). find (λ command. bytes_eq command.word c.args.word.now) commands) c.all_commands.ensures
