use Rattle.std.proofs.Common.{◌∙◌, ◌&&◌, List, ap, find}
use Rattle.std.specs.Prelude.{option_map}
use Rattle.std.specs.Str.{bytes_eq}
use Rattle.pd_words.specs.Options.{TypedWord, has_typed_option, option_named}
use Rattle.pd_words.specs.Seen.{command_seen, row_seen}
use Rattle.pd_words.proofs.Mapped.{find_map}
use Rattle.pd_words.proofs.rows.CommandRow.option_named.Goals as goal

pub returns : goal.returns
unfolding option_named
returns c =
    ap (option_map row_seen) c.first_named.ensures
    ∙ find_map (λ word. has_typed_option (command_seen c.args.self.now) word && bytes_eq word.name c.args.name.now) row_seen c.all_words.result.now
    ∙ ap (λ (words : List TypedWord). find (λ word. has_typed_option (command_seen c.args.self.now) word && bytes_eq word.name c.args.name.now) words) c.all_words.ensures
