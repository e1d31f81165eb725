use Rattle.std.proofs.Common.{◌≡◌, ◌+◌, false, drop}
use Rattle.std.specs.Option.{option_map}
use Rattle.rv_asm.specs.Tokens.{string_len}
use Rattle.rv_asm.proofs.token.string_len.Given as goal

abbrev pub invariant-loop-i : goal.invariant-loop-i
invariant-loop-i l = option_map (λ n. n + l.i) (string_len l.escaped (drop l.i l.text)) ≡ string_len false l.text
