use Rattle.std.proofs.Common.{◌≡◌, ◌<◌, ◌^◌, drop}
use Rattle.pn_text.specs.Numbers.{decimal_from}
use Rattle.advice.proofs.words.decimal.Given as goal

abbrev pub invariant-loop-byte : goal.invariant-loop-byte
invariant-loop-byte l = record { small : l.value < 10 ^ l.byte-index; rest : decimal_from l.value (drop l.byte-index l.digits) ≡ decimal_from 0 l.digits }
