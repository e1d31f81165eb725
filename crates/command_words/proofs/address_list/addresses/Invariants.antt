use Rattle.std.proofs.Common.{◌≡◌, ◌+◌, ◌++◌, length, option_map}
use Rattle.std.specs.List.{filter_map}
use Rattle.std.specs.Option.{option_map_or}
use Rattle.command_words.specs.Addresses.{address_of, parts_left, addresses_of}
use Rattle.command_words.proofs.address_list.addresses.Given as goal

abbrev pub invariant-loop-left : goal.invariant-loop-left
invariant-loop-left l = l.addresses.items ++ filter_map address_of (parts_left (option_map (λ rest. rest.now) l.left)) ≡ addresses_of l.fn.text

abbrev pub decreases-loop-left : goal.decreases-loop-left
decreases-loop-left l = option_map_or (λ rest. length rest.now + 1) l.left 0
