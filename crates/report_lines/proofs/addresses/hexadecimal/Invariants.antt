use Rattle.std.proofs.Common.{◌≡◌, drop}
use Rattle.report_lines.specs.Words.{hexadecimal_from}
use Rattle.report_lines.proofs.addresses.hexadecimal.Given as goal

-- the rest decides
abbrev pub invariant-loop-byte : goal.invariant-loop-byte
invariant-loop-byte l = hexadecimal_from l.value (drop l.byte-index l.digits) ≡ hexadecimal_from 0 l.digits
