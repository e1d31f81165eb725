use Rattle.std.proofs.Common.{◌≡◌, ◌≤◌, ◌^◌, drop}
use Rattle.std.specs.Option.{option_map}
use Rattle.rv_asm.specs.Numbers.{kept, digits_from}
use Rattle.rv_asm.proofs.number.digits.Given as goal

abbrev pub invariant-loop-byte : goal.invariant-loop-byte
invariant-loop-byte l = record { small : l.size ≤ 2 ^ 64; rest : option_map kept (digits_from l.base l.size (drop l.byte-index l.text)) ≡ option_map kept (digits_from l.base 0 l.text) }
