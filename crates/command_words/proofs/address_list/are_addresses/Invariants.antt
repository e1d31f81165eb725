use Rattle.std.proofs.Common.{◌≡◌, ◌+◌, length, option_map, is_some}
use Rattle.std.specs.List.{list_all}
use Rattle.std.specs.Option.{option_map_or}
use Rattle.command_words.specs.Addresses.{address_of, parts_left, are_addresses}
use Rattle.command_words.proofs.address_list.are_addresses.Given as goal

abbrev pub invariant-loop-left : goal.invariant-loop-left
invariant-loop-left l = list_all (λ part. is_some (address_of part)) (parts_left (option_map (λ rest. rest.now) l.left)) ≡ are_addresses l.fn.text

abbrev pub decreases-loop-left : goal.decreases-loop-left
decreases-loop-left l = option_map_or (λ rest. length rest.now + 1) l.left 0
