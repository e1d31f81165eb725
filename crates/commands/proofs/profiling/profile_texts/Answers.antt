use Rattle.std.proofs.Common.{rules, ◌≡◌, Ok}
use Rattle.command_words.specs.Asked.{asked_profile, asked_source}
use Rattle.refusals.proofs.Steps.{handed_on}
use Rattle.commands.specs.Profiles.{IsProfiled, profile_texts}
use Rattle.commands.proofs.profiling.profile_texts.Goals as goal

pub returns-in_err-profile : goal.returns-in_err-profile
returns-in_err-profile c =
    handed_on (IsProfiled (asked_source c.args.request.now.source) c.args.image.now)
    (λ r texts. texts ≡ Ok (profile_texts (asked_profile c.args.request.now) c.args.image.now r))
    c.in_err-profile.field-0.0 c.from_residual-in_err-profile.result c.from_residual-in_err-profile.ensures c.in_err-profile.ensures.profile

pub returns : goal.returns
returns c = (Ok c.in_ok-profile.profile, c.in_ok-profile.ensures.profile, search rules)
