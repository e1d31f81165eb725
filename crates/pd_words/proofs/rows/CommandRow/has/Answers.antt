use Rattle.std.proofs.Common.{◌∙◌}
use Rattle.std.specs.Str.{bytes_eq}
use Rattle.pd_words.proofs.Mapped.{any_map}
use Rattle.pd_words.proofs.rows.CommandRow.has.Goals as goal

pub returns : goal.returns
returns c = c.is_among.ensures ∙ any_map (bytes_eq c.args.word.now.name.now) (λ name. name.now) c.args.self.now.words.now
