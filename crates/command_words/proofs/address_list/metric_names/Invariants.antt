use Rattle.std.proofs.Common.{◌≡◌, ◌+◌, ◌++◌, length, map, option_map}
use Rattle.std.specs.List.{slice_split}
use Rattle.std.specs.Option.{option_map_or}
use Rattle.command_words.specs.Addresses.{is_comma, parts_left}
use Rattle.command_words.proofs.address_list.metric_names.Given as goal

-- the names so far, and those of the text that is left, are all
abbrev pub invariant-loop-left : goal.invariant-loop-left
invariant-loop-left l =
    map (λ name. name.now) l.names.items ++ parts_left (option_map (λ rest. rest.now) l.left) ≡ slice_split is_comma l.fn.text

abbrev pub decreases-loop-left : goal.decreases-loop-left
decreases-loop-left l = option_map_or (λ rest. length rest.now + 1) l.left 0
