use Rattle.std.proofs.Common.{◌∙◌, ap}
use Rattle.command_words.specs.Apps.{app_with}
use Rattle.command_words.proofs.Simple.{holds_from, none_taken}
use Rattle.command_words.proofs.matching.matches.Goals as goal

pub returns-in-Ok-try_get_matches_from-clause-taken :
    goal.returns-in-Ok-try_get_matches_from-clause-taken
returns-in-Ok-try_get_matches_from-clause-taken c =
    let e = c.in-Ok-try_get_matches_from.ensures in
    holds_from c.args.name c.args.words.now _ (c.in-Ok.ensures ∙ ap app_with c.form-form.ensures) c.in-Ok-try_get_matches_from.matches e.kinds e.matches

pub returns : goal.returns
returns c = record {
  taken = tt;
  usage = λ _. none_taken c.args.name c.args.words.now _ (c.in-Ok.ensures ∙ ap app_with c.form-form.ensures) c.in-Err.fault c.in-Err.ensures.kinds (λ memory. c.in_default-kind.not-OutOfMemory (c.kind.ensures ∙ memory));
}
