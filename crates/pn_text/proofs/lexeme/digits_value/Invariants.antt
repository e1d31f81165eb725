use Rattle.std.proofs.Common.{◌≡◌, ◌≤◌, drop}
use Rattle.std.specs.Option.{option_and_then}
use Rattle.pn_text.specs.Numbers.{decimal_from, at_most}
use Rattle.pn_text.specs.Tokens.{digits_value}
use Rattle.pn_text.proofs.lexeme.digits_value.Given as goal

abbrev pub invariant-loop-byte : goal.invariant-loop-byte
invariant-loop-byte l = record {
  small : l.value ≤ 2147483647;
  rest : option_and_then (at_most 2147483647) (decimal_from l.value (drop l.byte-index l.digits)) ≡ digits_value l.digits;
}
