use Rattle.std.proofs.Common.{◌∙◌}
use Rattle.std.specs.Str.{bytes_eq}
use Rattle.command_words.proofs.SeenNames.{any_seen}
use Rattle.command_words.proofs.forms.Form.has_option.Goals as goal

pub returns : goal.returns
returns c = c.is_among.ensures ∙ any_seen (bytes_eq c.args.name.now) c.args.self.now.options.now
