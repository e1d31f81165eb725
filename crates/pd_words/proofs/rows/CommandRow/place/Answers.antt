use Rattle.std.proofs.Common.{◌∙◌, List, ap}
use Rattle.std.specs.Prelude.{option_map, slice_get}
use Rattle.std.specs.List.{filter}
use Rattle.pd_words.specs.Options.{TypedWord, command_places, takes_place}
use Rattle.pd_words.specs.Seen.{command_seen, row_seen}
use Rattle.pd_words.proofs.Mapped.{filter_of_map, get_of_map}
use Rattle.pd_words.proofs.rows.CommandRow.place.Goals as goal

pub returns-clause-word : goal.returns-clause-word
unfolding command_places
returns-clause-word c =
    let command = command_seen c.args.self.now in
    ap (option_map row_seen) c.place_at.ensures.word
    ∙ get_of_map row_seen (filter (λ row. takes_place command (row_seen row)) c.all_words.result.now) c.args.number
    ∙ ap (λ (words : List TypedWord). slice_get words c.args.number) (filter_of_map (takes_place command) row_seen c.all_words.result.now)
    ∙ ap (λ (words : List TypedWord). slice_get (filter (takes_place command) words) c.args.number) c.all_words.ensures
