use Rattle.std.proofs.Common.{◌≡◌, drop}
use Rattle.command_words.specs.Addresses.{hex_from}
use Rattle.command_words.proofs.address_list.hex.Given as goal

abbrev pub invariant-loop-byte : goal.invariant-loop-byte
invariant-loop-byte l = hex_from l.value (drop l.byte-index l.digits) ≡ hex_from 0 l.digits
