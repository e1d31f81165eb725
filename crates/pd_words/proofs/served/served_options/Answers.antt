use Rattle.std.proofs.Common.{◌∙◌, ◌++◌, [], List, Option, ap, map, sym, ℕ, take}
use Rattle.std.specs.Prelude.{option_map, string_bytes}
use Rattle.std.specs.List.{cons_option, filter_map}
use Rattle.pd_words.specs.Seen.{given_seen, row_seen}
use Rattle.pd_words.specs.Wishes.{served_option}
use Rattle.pd_words.proofs.Mapped.{filter_map_more}
use Rattle.pd_words.proofs.served.served_options.Goals as goal

pub loop-row-preserved : goal.loop-row-preserved
loop-row-preserved c =
    let f = served_option (given_seen c.args.given.now) in
    let front = filter_map f (map row_seen (take c.loop-row.row-index c.args.rows.now)) in
    c.in_ok-add_if_some.ensures
    ∙ ap (λ (words : List (List ℕ)). words ++ cons_option (option_map string_bytes c.in_ok-served_option.field-0) []) c.loop-row.invariant
    ∙ ap (λ (word : Option (List ℕ)). front ++ cons_option word []) c.in_ok-served_option.ensures
    ∙ sym (filter_map_more f row_seen c.args.rows.now c.loop-row.row-index _ c.loop-row-test.true)
