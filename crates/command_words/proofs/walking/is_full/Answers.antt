use Rattle.std.proofs.Common.{◌∙◌}
use Rattle.std.specs.Option.{is_some}
use Rattle.command_words.specs.Walks.{value_of}
use Rattle.command_words.specs.Walked.{form_seen, values_seen}
use Rattle.command_words.proofs.SeenNames.{all_seen}
use Rattle.command_words.proofs.walking.is_full.Goals as goal

pub returns : goal.returns
returns c = c.have_values.ensures ∙ all_seen (λ name. is_some (value_of (form_seen c.args.form.now) (values_seen c.args.values.now) name)) c.args.form.now.places.now
