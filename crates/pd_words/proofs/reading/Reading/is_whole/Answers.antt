use Rattle.std.proofs.Common.{rules, ◌≡◌, ◌∙◌, ◌&&◌, Bool, List, true, ap, sym}
use Rattle.std.specs.List.{filter, list_all}
use Rattle.std.specs.Option.{is_none}
use Rattle.pd_words.specs.Options.{TypedWord, command_places, takes_place}
use Rattle.pd_words.specs.Reading.{is_filled}
use Rattle.pd_words.specs.Seen.{command_seen, given_seen, row_seen}
use Rattle.pd_words.proofs.Mapped.{all_filter, none_of_map}
use Rattle.pd_words.proofs.reading.Reading.is_whole.Goals as goal

pub returns-then-is_none : goal.returns-then-is_none
unfolding command_places
returns-then-is_none c =
    let command = command_seen c.args.command.now in
    let given = given_seen c.args.self.now.given in
    let none : is_none c.args.self.now.awaiting ≡ true = search rules in
    c.are_filled.ensures
    ∙ all_filter (takes_place command) (is_filled command given) row_seen c.all_words.result.now
    ∙ ap (λ (words : List TypedWord). list_all (is_filled command given) (filter (takes_place command) words)) c.all_words.ensures
    ∙ ap (λ (b : Bool). b && list_all (is_filled command given) (command_places command)) (sym (none_of_map row_seen c.args.self.now.awaiting none))
