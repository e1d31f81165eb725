use Rattle.std.proofs.Common.{◌∙◌, ap, fold, map, sym}
use Rattle.std.proofs.lemmas.List.Sums.{fold-append}
use Rattle.std.proofs.lemmas.Result.{IfOk-weaker}
use Rattle.clap.specs.Words.{App, with_rule}
use Rattle.command_words.specs.Apps.{option_arg, place_arg}
use Rattle.command_words.specs.Walked.{option_names}
use Rattle.command_words.proofs.builders.command.Goals as goal

-- the rules of the places come before those of the options
pub returns : goal.returns
returns c =
    IfOk-weaker c.with_options.result _ _
    (λ more e.
    e
    ∙ ap (λ (app : App). fold with_rule app (map option_arg (option_names c.args.form.now.options.now)))
    (c.in_ok-command.ensures ∙ ap (λ (app : App). fold with_rule app (map place_arg (option_names c.args.form.now.places.now))) c.bare.ensures)
    ∙ sym (fold-append with_rule _ (map place_arg (option_names c.args.form.now.places.now)) (map option_arg (option_names c.args.form.now.options.now))))
    c.with_options.ensures
