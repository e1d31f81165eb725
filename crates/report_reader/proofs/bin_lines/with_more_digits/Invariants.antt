use Rattle.std.proofs.Common.{◌≡◌, length}
use Rattle.report_reader.specs.BinLines.{with_more_digits}
use Rattle.report_reader.proofs.bin_lines.with_more_digits.Given as goal

-- what is left gives what all gives
abbrev pub invariant-digits : goal.invariant-digits
invariant-digits l = with_more_digits l.number l.rest ≡ with_more_digits l.first l.bytes

abbrev pub decreases-digits : goal.decreases-digits
decreases-digits l = length l.rest
