use Rattle.std.proofs.Common.{◌≡◌, ◌++◌, ℕ, rules, [], Ok, List}
use Rattle.command_words.specs.Asked.{asked_ask}
use Rattle.refusals.proofs.Steps.{comes_then, handed_on}
use Rattle.commands.specs.Asking.{code_foci, executed, source_of}
use Rattle.commands.specs.Profiles.{IsProfiled}
use Rattle.commands.proofs.asking.profiled_foci.Goals as goal

pub returns-in_err-profile : goal.returns-in_err-profile
returns-in_err-profile c =
    handed_on (IsProfiled (source_of (asked_ask c.args.request.now)) c.args.image.now)
    (λ r foci. foci ≡ Ok (code_foci c.args.by_module c.args.focus (executed c.args.image.now r)))
    c.in_err-profile.field-0.0 c.from_residual-in_err-profile.result c.from_residual-in_err-profile.ensures c.in_err-profile.ensures.profile

pub returns : goal.returns
returns c = (Ok c.in_ok-profile.profile, c.in_ok-profile.ensures.profile, search rules)
