use Rattle.std.proofs.Common.{rules, ◌≡◌, Ok}
use Rattle.std.specs.Prelude.{option_map}
use Rattle.command_words.specs.Asked.{asked_annotate, asked_source}
use Rattle.refusals.proofs.Steps.{handed_on}
use Rattle.commands.specs.Output.{output}
use Rattle.commands.specs.Profiles.{IsProfiled, words_shown}
use Rattle.commands.proofs.annotating.show_words.Goals as goal

pub returns-in_err-profile : goal.returns-in_err-profile
returns-in_err-profile c =
    handed_on (IsProfiled (asked_source c.args.request.now.source) c.args.image.now)
    (λ r texts. texts ≡ Ok (output (words_shown (asked_annotate c.args.request.now) c.args.image.now (option_map (λ s. s.now) c.args.name) r)))
    c.in_err-profile.field-0.0 c.from_residual-in_err-profile.result c.from_residual-in_err-profile.ensures c.in_err-profile.ensures.profile

pub returns : goal.returns
returns c = (Ok c.in_ok-profile.profile, c.in_ok-profile.ensures.profile, search rules)
